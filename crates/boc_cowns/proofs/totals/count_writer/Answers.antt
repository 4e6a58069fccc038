use Rattle.std.proofs.Common.{ap, arith, refl}
use Rattle.std.specs.Prelude.{nat_eq}
use Rattle.std.specs.List.{list_any}
use Rattle.boc_order.specs.Least.{wrote_cown}
use Rattle.boc_cowns.specs.Hot.{one}
use Rattle.boc_cowns.proofs.Sums.{sums_more}
use Rattle.boc_cowns.proofs.totals.count_writer.Goals as goal

pub add-requires-clause-rise : goal.add-requires-clause-rise
add-requires-clause-rise c = rw c.written_at.ensures (c.requires.shape.written_own c.args.row c.requires.there).rise

pub returns : goal.returns
returns c = sums_more (wrote_cown c.args.rows.now) one c.args.row c.args.totals.now c.requires.sums c.add.new.totals c.written_at.result.now 1
    c.add.ensures.whole c.add.ensures.each (λ cown. ap (list_any (nat_eq cown)) c.written_at.ensures) refl (omega arith)
