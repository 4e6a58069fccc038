use Rattle.std.proofs.Common.{◌≡◌, ◌∙◌, ◌+◌, ℕ, suc, length, refl, rules, subst, sym, ap, arith}
use Rattle.std.specs.Prelude.{Some, replicate, slice_get, slice_set}
use Rattle.std.proofs.lemmas.Option.{slice_get_read}
use Rattle.boc_dispatch.specs.Told.{ArePlaced}
use Rattle.boc_dispatch.proofs.TellingRows.{none_placed, passed_over, placed_next}
use Rattle.boc_dispatch.proofs.told.places_of.Goals as goal
use Rattle.boc_dispatch.proofs.told.places_of.Goals.{then-row-count, else-row-count}

pub loop-place-init : goal.loop-place-init
loop-place-init c =
    let items : c.resize.new.self.items ≡ replicate c.args.count (length c.args.told.now) = search rules in
    let count : length c.resize.new.self.items ≡ c.args.count = search rules in
    none_placed c.args.told.now c.args.count c.resize.new.self.items items count

pub loop-place-preserved : goal.loop-place-preserved
loop-place-preserved c =
    let told = c.args.told.now in
    let place = c.loop-place.place in
    let t = c.index-told-place.result in
    let read : slice_get told place ≡ Some t = slice_get_read told (length told) place t refl c.loop-place-test.true c.index-told-place.is in
    let next : suc place ≡ place + 1 = omega arith in
    subst (λ n. ArePlaced told n c.args.count c.if-row-count.places.items) next (elim c.if-row-count.branch [
      | then-row-count w ↦
          placed_next told place c.args.count c.loop-place.places.items t read c.loop-place.invariant w.if-row-count.true c.if-row-count.places.items
          (ap (λ v. v.items) w.places-is) (search rules)
      | else-row-count w ↦
          subst (λ v. ArePlaced told (suc place) c.args.count v.items) (sym w.places-is)
          (passed_over told place c.args.count c.loop-place.places.items t read c.loop-place.invariant w.if-row-count.false)
    ])

pub returns : goal.returns
returns c =
    let all : c.loop-place.place ≡ length c.args.told.now = omega (arith, c.loop-place.auto.place-end, c.loop-place-test.false) in
    subst (λ n. ArePlaced c.args.told.now n c.args.count c.loop-place.places.items) all c.loop-place.invariant
