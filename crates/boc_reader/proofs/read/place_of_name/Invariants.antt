use Rattle.std.proofs.Common.{◌≡◌, ◌+◌, length, take}
use Rattle.boc_reader.specs.Placed.{tokens_of}
use Rattle.boc_reader.specs.WrongNames.{names_of_tokens}
use Rattle.boc_reader.proofs.read.place_of_name.Given as goal

abbrev pub invariant-loop-placed : goal.invariant-loop-placed
invariant-loop-placed l = length (names_of_tokens (tokens_of (take l.placed-index l.tokens))) + l.left ≡ l.before
