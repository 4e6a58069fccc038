use Rattle.std.proofs.Common.{string_bytes}
use Rattle.boc_said.specs.Lines.{IsShort}
use Rattle.boc_said.specs.declared.said.TheConstants.{MOST_WIDTH}
use Rattle.boc_said.proofs.said.put.Given as goal

abbrev pub invariant-loop-byte : goal.invariant-loop-byte
invariant-loop-byte l = IsShort MOST_WIDTH (string_bytes l.line)
