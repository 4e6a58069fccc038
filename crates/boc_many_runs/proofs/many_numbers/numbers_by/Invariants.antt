use Rattle.std.proofs.Common.{◌≡◌, map, take}
use Rattle.boc_many_runs.specs.Runs.{number_of}
use Rattle.boc_many_runs.proofs.many_numbers.numbers_by.Given as goal

-- the numbers so far
abbrev pub invariant-loop-own : goal.invariant-loop-own
invariant-loop-own l = l.numbers.items ≡ map (number_of l.which) (take l.own-index l.all)
