use Rattle.std.proofs.Common.{◌≡◌, ◌≤◌, ◌^◌, length}
use Rattle.std.specs.Prelude.{slice_index}
use Rattle.boc_sweep.specs.declared.windows.TheConstants.{LENGTHS}
use Rattle.boc_sweep.specs.Tops.{AreWindows}
use Rattle.boc_sweep.proofs.windows.all_tops.Given as goal

abbrev pub invariant-loop-place : goal.invariant-loop-place
invariant-loop-place l = record {
  low : l.place ≤ LENGTHS;
  power : l.size ≡ 2 ^ l.place;
  len : length l.values.items ≡ l.count;
  windows : AreWindows l.stretches l.count l.size l.size (slice_index l.values.items);
}

abbrev pub decreases-loop-place : goal.decreases-loop-place
decreases-loop-place l = l.place
