use Rattle.std.proofs.Common.{◌≡◌, length, drop}
use Rattle.boc_runs.specs.Serial.{after_outputs}
use Rattle.boc_program.specs.Signatures.{AllBelow}
use Rattle.boc_runs.proofs.values.write_outputs.Given as goal

abbrev pub invariant-loop-i : goal.invariant-loop-i
invariant-loop-i l = record {
  so_far : after_outputs l.values (drop l.i l.cowns) (drop l.i l.outputs) ≡ after_outputs l.fn.values l.cowns l.outputs;
  below : AllBelow (length l.values) (drop l.i l.cowns);
}
