use Rattle.std.proofs.Common.{ℕ, Option, get_or, refl}
use Rattle.std.specs.Prelude.{slice_get}
use Rattle.boc_why.specs.declared.shares.Share.{Share}
use Rattle.boc_remedies.specs.Tried.{spawner_of}
use Rattle.boc_remedies.proofs.Gathered.{filter_map_step}
use Rattle.boc_remedies.proofs.tried.spawners.Goals as goal

pub loop-share-preserved : goal.loop-share-preserved
loop-share-preserved c =
    let shares = c.args.by_link.now in
    let i = c.loop-share.share-index in
    let none : Share = record { key = 0; ticks = 0; steps = 0 } in
    let spawner : Share → Option ℕ = λ s. spawner_of (slice_get c.args.links.now s.key) in
    filter_map_step spawner shares i none (get_or shares i none) c.spawner_at.result c.loop-share.defs.items c.push_some.new.list.items
    c.loop-share-test.true refl c.spawner_at.ensures c.loop-share.invariant c.in_ok-push_some.ensures
