use Rattle.std.proofs.Common.{ap, arith, refl}
use Rattle.std.specs.Prelude.{nat_eq}
use Rattle.std.specs.List.{list_any}
use Rattle.boc_cowns.specs.Hot.{has_cown, one}
use Rattle.boc_cowns.proofs.Sums.{sums_more}
use Rattle.boc_cowns.proofs.totals.count_row.Goals as goal

pub add-requires-clause-rise : goal.add-requires-clause-rise
add-requires-clause-rise c = rw c.cowns_at.ensures (c.requires.shape.cowns_rise c.args.row c.requires.there)

pub returns : goal.returns
returns c = sums_more (has_cown c.args.rows.now) one c.args.row c.args.totals.now c.requires.sums c.add.new.totals c.cowns_at.result.now 1
    c.add.ensures.whole c.add.ensures.each (λ cown. ap (list_any (nat_eq cown)) c.cowns_at.ensures) refl (omega arith)
