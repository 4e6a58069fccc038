use Rattle.std.proofs.Common.{◌≡◌, ◌<◌, ◌≤◌, ℕ, length, map, List, sym, ◌∙◌, ap, subst, arith}
use Rattle.std.specs.Prelude.{slice_get, slice_index_or, Some}
use Rattle.std.proofs.lemmas.List.{length-map}
use Rattle.boc_program.proofs.ChangedItems.{place_below}
use Rattle.boc_runs.specs.Serial.{behaviour_of}
use Rattle.boc_front_rows.specs.declared.row.Front.{Front}
use Rattle.boc_front_rows.specs.Claims.{AreSpawned, rows_after}
use Rattle.boc_front_rows.specs.Rows.{Plain, plain, plains}
use Rattle.boc_front_rows.proofs.Spawning.{spawned_rows}
use Rattle.boc_all_ends.specs.Stepping.{Grows, ListsFit}
use Rattle.boc_all_ends.proofs.Seeing.{Lists}
use Rattle.boc_all_ends.proofs.Spawned.{step_is, low_after, in_after}
use Rattle.boc_all_ends.proofs.stepper.Stepper.spawn.Goals as goal

pub returns-clause-fits : goal.returns-clause-fits
returns-clause-fits c =
    let p = c.turn.new.self.program.now in
    c.in_ok-wishes.ensures.fits p
    (subst (λ (ls : Lists). ListsFit p ls) (sym c.in_ok-rest.ensures.lists)
    (subst (λ q. ListsFit q c.args.self.now.lists) (sym c.in_ok-rest.ensures.program) c.requires.fits)) c.in_ok-rest.ensures.turn.fits

pub returns-clause-step : goal.returns-clause-step
returns-clause-step c =
    let p = c.turn.new.self.program.now in
    let t = c.in_ok-rest.ensures.turn in
    let rows : List Plain = plains c.args.front.now.live.items in
    let rest = c.in_ok-rest.field-0.rest in
    let wishes = c.in_ok-wishes.wishes in
    let place = c.args.place in
    let g : Front = record { values = c.in_ok-rest.field-0.values; live = c.in_ok-live.live } in
    let now : plains c.in_ok-live.live.items ≡ rows_after t.wish.cowns place rest wishes rows = c.in_ok-live.ensures
    ∙ ap (λ cs. rows_after cs place rest wishes (plains c.deref.result.now)) (c.deref-2.ensures.0 ∙ t.cowns_are)
    ∙ ap (λ ls. rows_after t.wish.cowns place rest wishes (plains ls)) c.deref.ensures.value in
    step_is p c.args.self.now.lists c.add_wishes.new.lists c.args.front.now g place rest wishes t.wish t.row (record {
      there = c.requires.can.there;
      is = t.is;
      first = t.first;
      rest_there = t.rest_there;
      grows = subst (λ (ls : Lists). Grows ls c.add_wishes.new.lists) c.in_ok-rest.ensures.lists c.in_ok-wishes.ensures.grows;
      added = c.in_ok-wishes.ensures.list ∙ ap (map behaviour_of) t.wishes_are;
      values_are = t.values_are;
      spawned = subst (AreSpawned t.wish.cowns place rest wishes rows) (sym now)
          (spawned_rows t.wish.cowns place rest wishes rows (place_below rows place t.row t.is));
    })

pub returns-clause-there : goal.returns-clause-there
returns-clause-there c =
    let t = c.in_ok-rest.ensures.turn in
    let rows : List Plain = plains c.args.front.now.live.items in
    let rest = c.in_ok-rest.field-0.rest in
    let wishes = c.in_ok-wishes.wishes in
    let place = c.args.place in
    let now : plains c.in_ok-live.live.items ≡ rows_after t.wish.cowns place rest wishes rows = c.in_ok-live.ensures
    ∙ ap (λ cs. rows_after cs place rest wishes (plains c.deref.result.now)) (c.deref-2.ensures.0 ∙ t.cowns_are)
    ∙ ap (λ ls. rows_after t.wish.cowns place rest wishes (plains ls)) c.deref.ensures.value in
    let low = place_below rows place t.row t.is in
    let s = subst (AreSpawned t.wish.cowns place rest wishes rows) (sym now) (spawned_rows t.wish.cowns place rest wishes rows low) in
    in_after t.wish.cowns place rest wishes rows (plains c.in_ok-live.live.items) s c.args.self.now.lists c.add_wishes.new.lists c.requires.can.there
    (subst (λ (ls : Lists). Grows ls c.add_wishes.new.lists) c.in_ok-rest.ensures.lists c.in_ok-wishes.ensures.grows) low t.rest_there
    c.in_ok-wishes.ensures.there

pub returns-clause-low : goal.returns-clause-low
returns-clause-low c =
    let t = c.in_ok-rest.ensures.turn in
    let live = c.args.front.now.live.items in
    let rows : List Plain = plains live in
    let rest = c.in_ok-rest.field-0.rest in
    let wishes = c.in_ok-wishes.wishes in
    let place = c.args.place in
    let now : plains c.in_ok-live.live.items ≡ rows_after t.wish.cowns place rest wishes rows = c.in_ok-live.ensures
    ∙ ap (λ cs. rows_after cs place rest wishes (plains c.deref.result.now)) (c.deref-2.ensures.0 ∙ t.cowns_are)
    ∙ ap (λ ls. rows_after t.wish.cowns place rest wishes (plains ls)) c.deref.ensures.value in
    let s = subst (AreSpawned t.wish.cowns place rest wishes rows) (sym now)
    (spawned_rows t.wish.cowns place rest wishes rows (place_below rows place t.row t.is)) in
    let was = λ (i : ℕ) (r : Plain) (is : slice_get rows i ≡ Some r) (k d : ℕ) (low : k < length r.before).
    (let x : slice_index_or r.before k d < length rows = omega (arith, c.requires.can.low i r is k d low, length-map live plain) in x) in
    let then = low_after t.wish.cowns place rest wishes rows (plains c.in_ok-live.live.items) s was in
    λ i r is k d low. omega (arith, then i r is k d low, length-map c.in_ok-live.live.items plain)
