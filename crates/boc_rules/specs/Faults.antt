-- The numbers and the names of the faults of an event.
use Rattle.std.specs.Prelude.{ℕ, List, codes}
use Rattle.boc_runs.specs.declared.event.BrokenRule.{BrokenRule}
use Rattle.boc_runs.specs.declared.event.BrokenRule.TheVariants as rules
use Rattle.boc_rules.specs.declared.fault.RuleFault.{RuleFault}
use Rattle.boc_rules.specs.declared.fault.RuleFault.TheVariants.{Broken, Memory}

-- the number and the name of a rule that is broken
abbrev pub rule_line : BrokenRule → List ℕ
rule_line rules.NumberNotNext = codes "1 NumberNotNext"
rule_line rules.ParentNotRunning = codes "2 ParentNotRunning"
rule_line rules.Offset = codes "3 Offset"
rule_line rules.Cowns = codes "4 Cowns"
rule_line rules.StartNotAllowed = codes "5 StartNotAllowed"
rule_line rules.EndNotAllowed = codes "6 EndNotAllowed"
rule_line rules.TooMany = codes "7 TooMany"

-- the number and the name of a fault
abbrev pub fault_text : RuleFault → List ℕ
fault_text (Broken rule) = rule_line rule
fault_text Memory = codes "8 Memory"
