use Rattle.std.proofs.Common.{ℕ, List, get_or, refl}
use Rattle.std.specs.Prelude.{slice_get}
use Rattle.boc_why.specs.declared.shares.Share.{Share}
use Rattle.boc_remedies.specs.Families.{put}
use Rattle.boc_remedies.specs.Tried.{handed_by}
use Rattle.boc_remedies.proofs.Gathered.{fold_flat_map_step}
use Rattle.boc_remedies.proofs.tried.put_handed_of.Goals as goal

pub loop-share-preserved : goal.loop-share-preserved
loop-share-preserved c =
    let route = c.args.route.now in
    let shares = route.by_link.now in
    let i = c.loop-share.share-index in
    let none : Share = record { key = 0; ticks = 0; steps = 0 } in
    let handed : Share → List ℕ = λ s. handed_by c.args.families.now (slice_get route.links.now s.key) in
    fold_flat_map_step put c.args.set.now handed shares i none (get_or shares i none) (handed (get_or shares i none)) c.loop-share.set c.put_handed.new.set
    c.loop-share-test.true refl refl c.loop-share.invariant c.in_ok-put_handed.ensures
