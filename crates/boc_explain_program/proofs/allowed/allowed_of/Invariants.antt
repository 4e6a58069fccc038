use Rattle.std.proofs.Common.{◌≡◌, take, filter}
use Rattle.boc_explain_program.specs.Allowed.{is_first, is_other}
use Rattle.boc_explain_program.proofs.allowed.allowed_of.Given as goal

abbrev pub invariant-loop-candidate : goal.invariant-loop-candidate
invariant-loop-candidate l =
    (l.lacked.items ≡ filter (is_first l.expected) (take l.candidate-index l.candidates))
    × (l.others.items ≡ filter (is_other l.expected) (take l.candidate-index l.candidates))
