use Rattle.std.proofs.Common.{subst, sym}
use Rattle.boc_program.specs.declared.program.Program.{Program}
use Rattle.boc_eval.specs.Instances.{AreKnown}
use Rattle.boc_explain.proofs.names.names_of_followed.Goals as goal

pub names_of_run-requires : goal.names_of_run-requires
names_of_run-requires c =
    subst (AreKnown c.program.result.now) (sym c.deref-2.ensures.value)
    (subst (λ (p : Program). AreKnown p c.in_ok-rows.rows.items) (sym c.program.ensures.value) c.in_ok-rows.ensures.known)
