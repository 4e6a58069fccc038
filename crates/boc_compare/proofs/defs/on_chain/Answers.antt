use Rattle.std.proofs.Common.{refl, arith}
use Rattle.boc_program.specs.declared.limits.TheConstants.{MOST_ROWS}
use Rattle.boc_why.specs.declared.shares.Share.{Share}
use Rattle.boc_compare.proofs.ShareTables.{all_put, none_in, share_put}
use Rattle.boc_compare.proofs.defs.on_chain.Goals as goal

-- what an index reads where there is no share
abbrev nothing : Share
nothing = record { key = 0; ticks = 0; steps = 0 }

pub loop-share-init : goal.loop-share-init
loop-share-init c = none_in c.args.by_def.now c.in_ok-ticks.ticks.items MOST_ROWS refl (c.in_ok-ticks.ensures.items_if_clones_equal (λ y e. e))

pub index_mut-requires : goal.index_mut-requires
index_mut-requires c = omega (arith, c.requires c.loop-share.share-index nothing c.loop-share-test.true, c.loop-share.invariant.whole, c.loop-share.ticks.ok.0)

pub loop-share-preserved : goal.loop-share-preserved
loop-share-preserved c = share_put c.args.by_def.now c.loop-share.share-index c.loop-share.ticks.items nothing c.loop-share-test.true
    (c.requires c.loop-share.share-index nothing c.loop-share-test.true) c.loop-share.invariant

pub returns : goal.returns
returns c = all_put c.args.by_def.now c.loop-share.share-index c.loop-share.ticks.items c.loop-share-test.false c.loop-share.invariant
