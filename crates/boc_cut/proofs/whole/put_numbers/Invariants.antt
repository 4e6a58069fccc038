use Rattle.std.proofs.Common.{◌≡◌, take}
use Rattle.boc_cut.proofs.whole.put_numbers.Given as goal

abbrev pub invariant-loop-cown : goal.invariant-loop-cown
invariant-loop-cown l = l.numbers.items ≡ take l.cown-index l.cowns.items
