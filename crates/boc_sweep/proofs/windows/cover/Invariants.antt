use Rattle.std.proofs.Common.{◌≡◌, length}
use Rattle.boc_sweep.specs.Tops.{HasRaised}
use Rattle.boc_sweep.proofs.windows.cover.Given as goal

abbrev pub invariant-loop-stretch : goal.invariant-loop-stretch
invariant-loop-stretch l = record {
  len : length l.values ≡ length l.fn.values;
  raised : HasRaised l.stretches l.size l.fn.values l.stretch-index l.values;
}
