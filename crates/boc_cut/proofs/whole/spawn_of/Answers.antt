use Rattle.boc_cut.proofs.Tellings.{no_small_spawn}
use Rattle.boc_cut.proofs.whole.spawn_of.Goals as goal

pub returns-in_err-short-2 : goal.returns-in_err-short-2
returns-in_err-short-2 c = λ v. rw c.from_residual-in_err-short-2.ensures
    (no_small_spawn c.args.row c.args.parent c.args.offset c.args.numbers.now (λ a b d small few. c.in_err-short-2.ensures b))

pub returns-in_err-short-3 : goal.returns-in_err-short-3
returns-in_err-short-3 c = λ v. rw c.from_residual-in_err-short-3.ensures
    (no_small_spawn c.args.row c.args.parent c.args.offset c.args.numbers.now (λ a b d small few. c.in_err-short-3.ensures d))

pub returns-in_err-short_cowns : goal.returns-in_err-short_cowns
returns-in_err-short_cowns c = λ v. rw c.from_residual-in_err-short_cowns.ensures
    (no_small_spawn c.args.row c.args.parent c.args.offset c.args.numbers.now (λ a b d small few. c.in_err-short_cowns.ensures small few))
