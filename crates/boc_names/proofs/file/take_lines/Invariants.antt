use Rattle.std.proofs.Common.{◌+◌}
use Rattle.boc_names.proofs.Reading.{HasTaken}
use Rattle.boc_names.proofs.file.take_lines.Given as goal

abbrev pub invariant-loop-taken : goal.invariant-loop-taken
invariant-loop-taken l = HasTaken l.text l.initial.things l.things l.rest (l.taken + 1)
