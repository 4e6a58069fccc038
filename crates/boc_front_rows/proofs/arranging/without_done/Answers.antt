use Rattle.std.proofs.Common.{◌≡◌, ◌<◌, ◌≤◌, ℕ, Bool, List, length, refl, sym, ◌∙◌, ap, subst, arith}
use Rattle.std.specs.Prelude.{Option, slice_get, slice_index_or, IsPermutation}
use Rattle.std.proofs.lemmas.List.{length-map}
use Rattle.boc_front_rows.specs.declared.row.Front.{Front}
use Rattle.boc_front_rows.specs.declared.row.LiveRow.{LiveRow}
use Rattle.boc_front_rows.specs.Orders.{AreMoved, done_of, kept_from, places_of}
use Rattle.boc_front_rows.specs.Rows.{plain, plains}
use Rattle.boc_front_rows.proofs.Ordering.{places_many, kept_low, kept_many}
use Rattle.boc_front_rows.proofs.Staying.{arranged, still_there, fewer, made, many_done, order_as}
use Rattle.boc_front_rows.proofs.arranging.without_done.Goals as goal

pub places-requires-clause-few : goal.places-requires-clause-few
places-requires-clause-few c = omega (
  arith,
  ap (length {A = ℕ}) c.deref-5.ensures.value,
  kept_many (done_of c.args.lists.now (plains c.args.front.live.items)) c.in_ok-kept.kept.items
      (order_as c.args.lists.now c.args.front.live.items c.deref.result.now c.in_ok-done.done.items
      c.deref-2.result.now c.in_ok-kept.kept.items
      c.in_ok-done.ensures c.deref.ensures.value c.deref-2.ensures.value c.in_ok-kept.ensures),
  (many_done c.args.lists.now c.args.front.live.items (done_of c.args.lists.now (plains c.args.front.live.items)) refl),
  c.requires.few,
)

pub places-requires-clause-there : goal.places-requires-clause-there
places-requires-clause-there c = λ k d low.
    let ds = done_of c.args.lists.now (plains c.args.front.live.items) in
    omega (
      arith,
      ap (length {A = Bool}) (c.deref-4.ensures.value ∙ (c.in_ok-done.ensures ∙ ap (λ ls. done_of c.args.lists.now (plains ls)) c.deref.ensures.value)),
      ap (λ xs. slice_index_or xs k d) c.deref-5.ensures.value,
      kept_low ds c.in_ok-kept.kept.items
          (order_as c.args.lists.now c.args.front.live.items c.deref.result.now c.in_ok-done.done.items
          c.deref-2.result.now c.in_ok-kept.kept.items
          c.in_ok-done.ensures c.deref.ensures.value c.deref-2.ensures.value c.in_ok-kept.ensures) k d (subst (λ (xs : List ℕ). k < length xs) c.deref-5.ensures.value low),
    )

pub moved_rows-requires-clause-low : goal.moved_rows-requires-clause-low
moved_rows-requires-clause-low c = λ i r is k d low.
    omega (
      arith,
      ap (length {A = Option ℕ}) (c.deref-6.ensures.value ∙ c.in_ok-places.ensures),
      places_many (length c.deref-4.result.now) c.deref-5.result.now,
      ap (length {A = Bool}) (c.deref-4.ensures.value ∙ (c.in_ok-done.ensures ∙ ap (λ ls. done_of c.args.lists.now (plains ls)) c.deref.ensures.value)),
      (many_done c.args.lists.now c.args.front.live.items (done_of c.args.lists.now (plains c.args.front.live.items)) refl),
      c.requires.low i r (ap (λ ls. slice_get (plains ls) i) (sym c.deref-8.ensures.value) ∙ is) k d low,
    )

pub moved_rows-requires-clause-there : goal.moved_rows-requires-clause-there
moved_rows-requires-clause-there c = λ k d low.
    let ds = done_of c.args.lists.now (plains c.args.front.live.items) in
    omega (
      arith,
      ap (length {A = LiveRow}) c.deref-8.ensures.value,
      (many_done c.args.lists.now c.args.front.live.items (done_of c.args.lists.now (plains c.args.front.live.items)) refl),
      ap (λ xs. slice_index_or xs k d) c.deref-7.ensures.value,
      kept_low ds c.in_ok-kept.kept.items
          (order_as c.args.lists.now c.args.front.live.items c.deref.result.now c.in_ok-done.done.items
          c.deref-2.result.now c.in_ok-kept.kept.items
          c.in_ok-done.ensures c.deref.ensures.value c.deref-2.ensures.value c.in_ok-kept.ensures) k d (subst (λ (xs : List ℕ). k < length xs) c.deref-7.ensures.value low),
    )

pub returns-clause-arranged : goal.returns-clause-arranged
returns-clause-arranged c =
    let after : Front = record { values = c.args.front.values; live = c.in_ok-live.live } in
    arranged c.args.lists.now c.args.front after c.in_ok-kept.kept.items refl
    (order_as c.args.lists.now c.args.front.live.items c.deref.result.now c.in_ok-done.done.items
    c.deref-2.result.now c.in_ok-kept.kept.items
    c.in_ok-done.ensures c.deref.ensures.value c.deref-2.ensures.value c.in_ok-kept.ensures)
    (made c.args.front.live.items c.deref-8.result.now c.in_ok-live.live.items (length c.deref-4.result.now) c.in_ok-kept.kept.items
    c.deref-7.result.now
    c.deref-5.result.now c.deref-6.result.now c.deref-8.ensures.value
    (ap (length {A = Bool}) (c.deref-4.ensures.value ∙ (c.in_ok-done.ensures ∙ ap (λ ls. done_of c.args.lists.now (plains ls)) c.deref.ensures.value))
    ∙ many_done c.args.lists.now c.args.front.live.items (done_of c.args.lists.now (plains c.args.front.live.items)) refl)
    c.deref-5.ensures.value (c.deref-6.ensures.value ∙ c.in_ok-places.ensures) c.deref-7.ensures.value c.in_ok-live.ensures)

pub returns-clause-there : goal.returns-clause-there
returns-clause-there c =
    let after : Front = record { values = c.args.front.values; live = c.in_ok-live.live } in
    still_there c.args.lists.now c.args.front after c.in_ok-kept.kept.items refl
    (order_as c.args.lists.now c.args.front.live.items c.deref.result.now c.in_ok-done.done.items
    c.deref-2.result.now c.in_ok-kept.kept.items
    c.in_ok-done.ensures c.deref.ensures.value c.deref-2.ensures.value c.in_ok-kept.ensures)
    (made c.args.front.live.items c.deref-8.result.now c.in_ok-live.live.items (length c.deref-4.result.now) c.in_ok-kept.kept.items
    c.deref-7.result.now
    c.deref-5.result.now c.deref-6.result.now c.deref-8.ensures.value
    (ap (length {A = Bool}) (c.deref-4.ensures.value ∙ (c.in_ok-done.ensures ∙ ap (λ ls. done_of c.args.lists.now (plains ls)) c.deref.ensures.value))
    ∙ many_done c.args.lists.now c.args.front.live.items (done_of c.args.lists.now (plains c.args.front.live.items)) refl)
    c.deref-5.ensures.value (c.deref-6.ensures.value ∙ c.in_ok-places.ensures) c.deref-7.ensures.value c.in_ok-live.ensures) c.requires.there

pub returns-clause-fewer : goal.returns-clause-fewer
returns-clause-fewer c =
    let after : Front = record { values = c.args.front.values; live = c.in_ok-live.live } in
    omega (
      arith,
      fewer c.args.lists.now c.args.front after c.in_ok-kept.kept.items refl
          (order_as c.args.lists.now c.args.front.live.items c.deref.result.now c.in_ok-done.done.items
          c.deref-2.result.now c.in_ok-kept.kept.items
          c.in_ok-done.ensures c.deref.ensures.value c.deref-2.ensures.value c.in_ok-kept.ensures)
          (made c.args.front.live.items c.deref-8.result.now c.in_ok-live.live.items (length c.deref-4.result.now) c.in_ok-kept.kept.items
          c.deref-7.result.now
          c.deref-5.result.now c.deref-6.result.now c.deref-8.ensures.value
          (ap (length {A = Bool}) (c.deref-4.ensures.value ∙ (c.in_ok-done.ensures ∙ ap (λ ls. done_of c.args.lists.now (plains ls)) c.deref.ensures.value))
          ∙ many_done c.args.lists.now c.args.front.live.items (done_of c.args.lists.now (plains c.args.front.live.items)) refl)
          c.deref-5.ensures.value (c.deref-6.ensures.value ∙ c.in_ok-places.ensures) c.deref-7.ensures.value c.in_ok-live.ensures),
      length-map c.args.front.live.items plain,
      length-map c.in_ok-live.live.items plain,
    )
