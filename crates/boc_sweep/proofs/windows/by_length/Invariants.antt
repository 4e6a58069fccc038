use Rattle.std.proofs.Common.{◌≡◌, length, take}
use Rattle.boc_sweep.specs.declared.windows.TheConstants.{LENGTHS}
use Rattle.boc_sweep.specs.Tops.{AreByLength, list_at}
use Rattle.boc_sweep.proofs.windows.by_length.Given as goal

abbrev pub invariant-loop-stretch : goal.invariant-loop-stretch
invariant-loop-stretch l = record {
  count : length l.lists.items ≡ LENGTHS;
  lists : AreByLength (take l.stretch-index l.stretches) (list_at l.lists.items);
}
