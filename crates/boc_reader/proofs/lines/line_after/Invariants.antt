use Rattle.std.proofs.Common.{◌≡◌, take}
use Rattle.boc_reader.specs.Lines.{line_after}
use Rattle.boc_reader.proofs.lines.line_after.Given as goal

abbrev pub invariant-loop-byte : goal.invariant-loop-byte
invariant-loop-byte l = l.line ≡ line_after (take l.byte-index l.front)
