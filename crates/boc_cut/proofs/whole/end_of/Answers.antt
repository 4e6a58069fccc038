use Rattle.boc_cut.proofs.Tellings.{no_small_end}
use Rattle.boc_cut.proofs.whole.end_of.Goals as goal

pub returns-in_err-short : goal.returns-in_err-short
returns-in_err-short c = rw c.from_residual-in_err-short.ensures
    (no_small_end c.args.row c.args.ticks c.args.status c.args.numbers.now (λ a b small few. c.in_err-short.ensures b))

pub returns-in_err-written_of : goal.returns-in_err-written_of
returns-in_err-written_of c = rw c.from_residual-in_err-written_of.ensures
    (no_small_end c.args.row c.args.ticks c.args.status c.args.numbers.now (λ a b small few. c.in_err-written_of.ensures small few))
