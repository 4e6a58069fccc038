use Rattle.std.proofs.Common.{◌≡◌, ◌<◌, ◌^◌, take}
use Rattle.boc_reader.specs.Tokens.{value_of}
use Rattle.boc_reader.proofs.lex.number_of.Given as goal

abbrev pub invariant-loop-byte : goal.invariant-loop-byte
invariant-loop-byte l = (l.value ≡ value_of (take l.byte-index l.run)) × (l.value < 2 ^ 63)
