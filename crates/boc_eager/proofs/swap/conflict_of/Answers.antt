use Rattle.std.proofs.Common.{sym, subst}
use Rattle.boc_order.specs.Handed.{AreHanded}
use Rattle.boc_eager.proofs.Ahead.{least_first, none_first}
use Rattle.boc_eager.proofs.swap.conflict_of.Goals as goal

pub returns-in-empty-clause-none : goal.returns-in-empty-clause-none
returns-in-empty-clause-none c = none_first c.args.rows.now c.args.a c.args.b c.as_slice.result.now
    (subst (AreHanded c.args.rows.now c.args.a c.args.b) (sym c.as_slice.ensures.value) c.handed.ensures) c.in-empty.len_below

pub returns-in-len1-up-clause-some : goal.returns-in-len1-up-clause-some
returns-in-len1-up-clause-some c = least_first c.args.rows.now c.args.a c.args.b c.as_slice.result.now
    (subst (AreHanded c.args.rows.now c.args.a c.args.b) (sym c.as_slice.ensures.value) c.handed.ensures) c.in-len1-up.len_at_least
