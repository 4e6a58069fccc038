use Rattle.std.proofs.Common.{[], get_or, refl}
use Rattle.boc_why.specs.declared.shares.Share.{Share}
use Rattle.boc_remedies.specs.LinkSets.{kept_with, weighed_at}
use Rattle.boc_remedies.proofs.Gathered.{fold_filter_map_step}
use Rattle.boc_remedies.proofs.link_sets.heaviest.Goals as goal

pub loop-share-preserved : goal.loop-share-preserved
loop-share-preserved c =
    let shares = c.args.by_set.now in
    let i = c.loop-share.share-index in
    let none : Share = record { key = 0; ticks = 0; steps = 0 } in
    fold_filter_map_step kept_with [] (weighed_at c.args.families.now c.args.links.now) shares i none (get_or shares i none) c.in_ok-own.own
    c.loop-share.best.items c.keep_some.new.best.items c.loop-share-test.true refl c.in_ok-own.ensures c.loop-share.invariant c.in_ok-keep_some.ensures
