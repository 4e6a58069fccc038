use Rattle.std.proofs.Common.{◌≡◌, ◌+◌, ◌<◌, ◌++◌, ◌∷◌, [], ℕ, List, length, take, refl, sym, subst}
use Rattle.std.specs.Prelude.{slice_get, slice_index_or, Some}
use Rattle.std.proofs.lemmas.Option.{slice_get_read}
use Rattle.boc_front_rows.specs.declared.row.LiveRow.{LiveRow}
use Rattle.boc_front_rows.specs.Orders.{AreMoved}
use Rattle.boc_front_rows.specs.Rows.{Plain, plain, plains}
use Rattle.boc_front_rows.proofs.Mapped.{at_mapped}
use Rattle.boc_front_rows.proofs.Staying.{at_index, moved_more, none_moved, plains_more, take_whole}
use Rattle.boc_front_rows.proofs.arranging.moved_rows.Goals as goal

pub loop-place-init : goal.loop-place-init
loop-place-init c =
    subst (λ (rows : List LiveRow). AreMoved c.args.places.now (take 0 c.args.kept.now) (plains c.args.live.now) (plains rows)) (sym c.new-rows.ensures.items)
    (none_moved c.args.places.now (plains c.args.live.now))

pub moved_row-requires : goal.moved_row-requires
moved_row-requires c =
    let live = c.args.live.now in
    let n : ℕ = slice_index_or c.args.kept.now c.loop-place.place-index 0 in
    let row = c.index-live-place.result in
    let low : n < length live = c.requires.there c.loop-place.place-index 0 c.loop-place-test.true in
    c.requires.low n (plain row) (at_mapped plain live n row (slice_get_read live (length live) n row refl low c.index-live-place.is))

pub loop-place-preserved : goal.loop-place-preserved
loop-place-preserved c =
    let live = c.args.live.now in
    let kept : List ℕ = c.args.kept.now in
    let i : ℕ = c.loop-place.place-index in
    let n : ℕ = slice_index_or kept i 0 in
    let row = c.index-live-place.result in
    let low : n < length live = c.requires.there i 0 c.loop-place-test.true in
    let was : slice_get (plains live) n ≡ Some (plain row) = at_mapped plain live n row (slice_get_read live (length live) n row refl low c.index-live-place.is) in
    subst (λ (rows : List LiveRow). AreMoved c.args.places.now (take (i + 1) kept) (plains live) (plains rows)) (sym c.in_ok-push.ensures.items)
    (subst (λ (rows : List Plain). AreMoved c.args.places.now (take (i + 1) kept) (plains live) rows) (sym (plains_more c.loop-place.rows.items c.in_ok-row.row))
    (moved_more c.args.places.now kept i n (plains live) (plains c.loop-place.rows.items) (plain row) (plain c.in_ok-row.row)
    (at_index kept i 0 c.loop-place-test.true) was c.in_ok-row.ensures c.loop-place.invariant))

pub returns : goal.returns
returns c =
    subst (λ (ks : List ℕ). AreMoved c.args.places.now ks (plains c.args.live.now) (plains c.loop-place.rows.items))
    (take_whole c.args.kept.now c.loop-place.place-index c.loop-place-test.false) c.loop-place.invariant
