use Rattle.std.proofs.Common.{string_bytes}
use Rattle.boc_said.specs.Lines.{AreLines}
use Rattle.boc_said.proofs.said.put_lines.Given as goal

abbrev pub invariant-loop-line : goal.invariant-loop-line
invariant-loop-line l = AreLines (string_bytes l.text)
