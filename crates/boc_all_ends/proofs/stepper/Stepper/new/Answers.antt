use Rattle.std.proofs.Common.{subst}
use Rattle.boc_program.specs.declared.program.Program.{Program}
use Rattle.boc_all_ends.specs.Tabled.{IsTableOf}
use Rattle.boc_all_ends.proofs.Choosing.{table_of}
use Rattle.boc_all_ends.proofs.stepper.Stepper.new.Goals as goal

pub invariant_of-result : goal.invariant_of-result
invariant_of-result c = record {
  footprint = subst (λ (p : Program). IsTableOf p c.in_ok-footprints.footprints) c.program.ensures
      (table_of c.program.result.now c.in_ok-footprints.footprints c.in_ok-footprints.ensures.footprint);
}
