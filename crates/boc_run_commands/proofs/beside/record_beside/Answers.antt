use Rattle.std.proofs.Common.{Some, drop, sym, subst}
use Rattle.boc_run_commands.specs.Beside.{IsOfRecordFile}
use Rattle.boc_run_commands.proofs.BesideFiles.{refused_record}
use Rattle.boc_run_commands.proofs.beside.record_beside.Goals as goal

pub returns : goal.returns
returns c =
    subst (IsOfRecordFile c.args.text.items) (sym c.of_record_beside.ensures)
    (refused_record c.args.text.items c.in-Err.fault _ _ (λ i. Some (drop (c.new.ensures.taken i) (c.new.ensures.bytes i).items))
    c.in-Err.ensures.record_or_fault)
