use Rattle.std.proofs.Common.{◌≡◌, ◌++◌, drop}
use Rattle.boc_why.specs.Causes.{def_edits}
use Rattle.boc_why.proofs.causes.def_edits.Given as goal

-- the edits so far, and those of the rows that are left, are those of all rows
abbrev pub invariant-loop-row : goal.invariant-loop-row
invariant-loop-row l = l.edits.items ++ def_edits l.part l.def l.row (drop l.row l.defs) ≡ def_edits l.part l.def 0 l.defs
