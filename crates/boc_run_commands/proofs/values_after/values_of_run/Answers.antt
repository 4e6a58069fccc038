use Rattle.boc_run_commands.proofs.BesideFiles.{values_count}
use Rattle.boc_run_commands.proofs.values_after.values_of_run.Goals as goal

pub values_text-requires : goal.values_text-requires
values_text-requires g c =
    values_count c.args.program.now c.in-Ok.run' c.args.recorded.now.events c.values.result.now c.as_slice.result.now c.values.ensures
    (rw c.in_ok-compiled.ensures at c.in-Ok.ensures.1)
    c.as_slice.ensures
