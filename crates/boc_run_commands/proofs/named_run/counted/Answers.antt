use Rattle.std.proofs.Common.{Some, drop, sym, subst}
use Rattle.boc_run_commands.specs.NamedRuns.{IsOfRecord}
use Rattle.boc_run_commands.proofs.TakenRuns.{refused_in}
use Rattle.boc_run_commands.proofs.named_run.counted.Goals as goal

pub returns : goal.returns
returns c =
    subst (IsOfRecord c.args.text.items) (sym c.of_record_in_memory.ensures)
    (refused_in c.args.text.items c.in-Err.fault _ _ (λ i. Some (drop (c.new.ensures.taken i) (c.new.ensures.bytes i).items))
    c.in-Err.ensures.counted_or_fault)
