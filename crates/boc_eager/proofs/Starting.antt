-- The row in hand starts: what is kept.
use Rattle.std.proofs.Common.{◌≡◌, ◌≢◌, ℕ, zero, ◌+◌, ◌*◌, ◌<◌, ◌≤◌, ◌⊎◌, cond, List, length, set, refl, sym, ap, ◌∙◌, subst, arith, inl, inr, length-set, get_or-set_same, get_or-set_other}
use Rattle.std.specs.Prelude.{Some, max, nat_lt, slice_index}
use Rattle.std.specs.List.{Contains}
use Rattle.std.specs.BTreeSet.{BTreeSet}
use Rattle.std.specs.Global.{Vec}
use Rattle.std.proofs.lemmas.Bool.{cases_eq, cases_lt}
use Rattle.std.proofs.lemmas.Bool.Decides.{nat_tests}
use Rattle.std.proofs.lemmas.List.{get_or_default}
use Rattle.std.proofs.lemmas.List.Sums.{sum_by-set}
use Rattle.boc_program.proofs.ChangedItems.{item_at}
use Rattle.boc_runs.specs.declared.rows.Row.{Row}
use Rattle.boc_runs.specs.Rows.{IsRows, cowns_of, offset_of, parent_of, ticks_of, written_of}
use Rattle.boc_plans.specs.Plans.{ConflictOn, IsChild, end_of, start_of}
use Rattle.boc_order.proofs.Found.{among_tells}
use Rattle.boc_eager.specs.declared.course.Course.{Course}
use Rattle.boc_eager.specs.declared.place.Place.{Place}
use Rattle.boc_eager.specs.declared.place.Place.TheVariants.{Unspawned, New, First, FirstFor, BehindKin, BehindFor, Started}
use Rattle.boc_eager.specs.Eager.{IsInTheWay, IsSpawnedBy}
use Rattle.boc_eager.specs.Lines.{front_of}
use Rattle.boc_eager.specs.Courses.{AreClear, AreFree, AreRaised, AreSpawned, CanStart, IsAt, IsBefore, IsDue, IsEndSoFar, IsFirstOfKin, IsInHand, IsKeptBut, IsLookedAt, IsNext, IsWaiting, Stands, Touches, count_left, later, wait_of}
use Rattle.boc_eager.proofs.Going.{none_in_way}
use Rattle.boc_eager.proofs.Leaving.{Moves, hand_low, one_place, other_row}

-- a row is in the way as before where it starts as before
way_same : (rows : List Row) (s s' : List ℕ) (a b u : ℕ) → start_of s' a ≡ start_of s a → IsInTheWay rows s u a b → IsInTheWay rows s' u a b
way_same rows s s' a b u e way = record {
  there = way.there;
  other = way.other;
  at_odds = way.at_odds;
  begun = elim way.begun [ inl l ↦ inl (omega (arith, l, e)) | inr q ↦ inr (e ∙ q.0, q.1) ];
  not_over = omega (arith, way.not_over, e);
}

counts_none : (x : ℕ) → x < later → cond (nat_lt x later) 0 1 ≡ zero
counts_none x h = grind (arith, nat_tests)

-- what a conflict over a cown touches
pub touches_wait : (rows : List Row) (r b x : ℕ) → ConflictOn rows x r b → Touches rows r (length (cowns_of rows r)) (wait_of rows b x)
touches_wait rows r b x conflict =
    let own = conflict.first in
    let at : slice_index (cowns_of rows r) own.0 ≡ x = get_or_default (cowns_of rows r) own.0 0 x own.1 ∙ own.2 in
    elim (among_tells x (written_of rows b)) [
      | inl y ↦ record { i = own.0; below = own.1; there = own.1; at = inl (rw (y.0, at) refl) }
      | inr n ↦ record {
        i = own.0;
        below = own.1;
        there = own.1;
        at = inr (rw (n.0, at) (omega arith), rw at (elim conflict.wrote [ inl w ↦ w | inr w ↦ absurd (n.1 w) ]));
      }
    ]

pub conflict_touched : (rows : List Row) (r j b x : ℕ) → Contains (cowns_of rows b) x → Touches rows r j (wait_of rows b x) → ConflictOn rows x r b
conflict_touched rows r j b x own t = elim (among_tells x (written_of rows b)) [
  | inl y ↦ (
      let w : wait_of rows b x ≡ 2 * x + 1 = rw y.0 refl in
      elim t.at [
        | inl e ↦ (let same : slice_index (cowns_of rows r) t.i ≡ x = omega (arith, e, w) in
            record { first = has same; second = own; wrote = inr y.1 })
        | inr e ↦ absurd (let e0 = e.0 in omega (arith, e0, w))
      ])
  | inr n ↦ (
      let w : wait_of rows b x ≡ 2 * x = rw n.0 (omega arith) in
      elim t.at [
        | inl e ↦ absurd (omega (arith, e, w))
        | inr e ↦ (let e0 = e.0 in let same : slice_index (cowns_of rows r) t.i ≡ x = omega (arith, e0, w) in
            record { first = has same; second = own; wrote = inl (subst (Contains (written_of rows r)) same e.1) })
      ])
]
  where
    has : slice_index (cowns_of rows r) t.i ≡ x → Contains (cowns_of rows r) x
    has same = (t.i, t.there, get_or_default (cowns_of rows r) t.i x 0 t.there ∙ same)

module _ (rows : List Row) (hr : IsRows rows) (c : Course) (r : ℕ) (h : IsInHand rows r c) (first : IsAt c.places.items r First)
    (not_front : (j : ℕ) → front_of c.kin.items j ≢ Some r) (clear : AreClear rows r c.free.items c.tick) (starts' : Vec ℕ)
    (starts_is : starts'.items ≡ set c.starts.items r c.tick) (free' : Vec ℕ)
    (raised : AreRaised rows r (c.tick + ticks_of rows r) (length (cowns_of rows r)) c.free.items free'.items) (mid : List Place)
    (m : Moves c.places.items mid r Started) (places' : Vec Place) (n : BTreeSet (ℕ × ℕ))
    (sp : AreSpawned rows r c.tick (length rows) mid places'.items c.next.keys n.keys) (end' : ℕ) (end_is : end' ≡ max c.end (c.tick + ticks_of rows r)) where
  abbrev begun : Course
  begun = record c { starts = starts'; end = end'; places = places'; free = free'; next = n }

  k : IsKeptBut rows r c
  k = h.kept

  waiting : IsWaiting rows c.starts.items c.tick r
  waiting = h.place First first

  tick_early : c.tick < later
  tick_early = omega (arith, k.tick_low, hand_low rows hr c r h first)

  now : start_of starts'.items r ≡ c.tick
  now = ap (λ xs. start_of xs r) starts_is ∙ get_or-set_same c.starts.items r c.tick 0 (omega (arith, h.there, k.of_rows.starts_whole))

  others : (b : ℕ) → b ≢ r → start_of starts'.items b ≡ start_of c.starts.items b
  others b ne = ap (λ xs. start_of xs b) starts_is ∙ get_or-set_other c.starts.items r b c.tick 0 ne

  no_later : (b : ℕ) → start_of starts'.items b ≤ start_of c.starts.items b
  no_later b = elim (cases_eq b r) [
    | inl e ↦ rw e (omega (arith, now, waiting.not_started, tick_early))
    | inr ne ↦ (let o = others b ne in omega (arith, o))
  ]

  -- a row that has started before isn't this one
  other_started : (b : ℕ) → start_of c.starts.items b < later → b ≢ r
  other_started b s e = (
      let z : start_of c.starts.items b ≡ start_of c.starts.items r = ap (start_of c.starts.items) e in
      omega (arith, z, s, waiting.not_started))

  spawned_is : (u b : ℕ) → IsSpawnedBy rows c.starts.items u b → IsSpawnedBy rows starts'.items u b
  spawned_is u b s = λ a child. (let x = s a child in let y = no_later a in omega (arith, x, y))

  spawned_was : (u b : ℕ) → (IsChild rows r b → ⊥) → IsSpawnedBy rows starts'.items u b → IsSpawnedBy rows c.starts.items u b
  spawned_was u b none s = λ a child. (
      let x = s a child in
      let o = others a (λ e. none (subst (λ (z : ℕ). IsChild rows z b) e child)) in
      omega (arith, x, o))

  -- a child of this row isn't spawned yet
  not_spawned : (b u : ℕ) → IsChild rows r b → u < later → IsSpawnedBy rows c.starts.items u b → ⊥
  not_spawned b u child low s = (let x = s r child in omega (arith, x, waiting.not_started, low))

  child_above : (b : ℕ) → IsChild rows r b → r < b
  child_above b child = subst (λ (x : ℕ). x < b) child.parent (hr.parent_before b child.not_main child.there)

  unborn_at : (b : ℕ) → IsChild rows r b → (place : Place) → Stands rows c b place → place ≡ Unspawned
  unborn_at b child Unspawned s = refl
  unborn_at b child New s = absurd (
      let i = k.next_are s.1.tick b s.1.queued in
      not_spawned b s.1.tick child (omega (arith, i.low, hand_low rows hr c r h first)) i.spawned)
  unborn_at b child First s = absurd (not_spawned b c.tick child tick_early s.0.spawned)
  unborn_at b child (FirstFor wait) s = absurd (not_spawned b c.tick child tick_early s.0.spawned)
  unborn_at b child BehindKin s = absurd (not_spawned b c.tick child tick_early s.0.spawned)
  unborn_at b child (BehindFor wait) s = absurd (not_spawned b c.tick child tick_early s.0.spawned)
  unborn_at b child Started s = absurd (not_spawned b (start_of c.starts.items b) child s (k.so_far.spawned b child.there s))

  unborn : (b : ℕ) → IsChild rows r b → IsAt c.places.items b Unspawned
  unborn b child =
      let p = item_at c.places.items b (omega (arith, child.there, k.of_rows.places_whole)) in
      let above = child_above b child in
      let s = k.stands b p.0 child.there (λ e. omega (arith, e, above)) p.1 in
      p.1 ∙ ap (λ (x : Place). Some x) (unborn_at b child p.0 s)

  unborn_later : (b : ℕ) → IsChild rows r b → start_of c.starts.items b ≡ later
  unborn_later b child =
      let above = child_above b child in
      (k.stands b Unspawned child.there (λ e. omega (arith, e, above)) (unborn b child)).0

  child_or_not : (b : ℕ) → b < length rows → IsChild rows r b ⊎ (IsChild rows r b → ⊥)
  child_or_not b hb = elim (cases_lt 0 b) [
    | inl pos ↦ elim (cases_eq (parent_of rows b) r) [
      | inl e ↦ inl (record { not_main = pos; there = hb; parent = e })
      | inr ne ↦ inr (λ child. ne child.parent)
    ]
    | inr none ↦ inr (λ child. omega (arith, child.not_main, none))
  ]

  -- ---- the places

  stays_at : (b : ℕ) (place : Place) → b ≢ r → (IsChild rows r b → ⊥) → IsAt c.places.items b place → IsAt places'.items b place
  stays_at b place ne none at = sp.others b (λ low. none) ∙ (m.others b ne ∙ at)

  was_at : (b : ℕ) (place : Place) → b ≢ r → (IsChild rows r b → ⊥) → IsAt places'.items b place → IsAt c.places.items b place
  was_at b place ne none at = sym (sp.others b (λ low. none) ∙ m.others b ne) ∙ at

  own_at : IsAt places'.items r Started
  own_at = sp.others r (λ low child. (let above = child_above r child in omega (arith, above))) ∙ m.at

  -- a row at another place than where the children are, and this row was, stays there
  stays_there : (b : ℕ) (place : Place) → (First ≡ place → ⊥) → (Unspawned ≡ place → ⊥) → IsAt c.places.items b place → IsAt places'.items b place
  stays_there b place not_first born at = stays_at b place (other_row c.places.items r First first b place at not_first)
      (λ child. born (one_place c.places.items b Unspawned place (unborn b child) at)) at

  -- ---- the plan so far

  past : (b : ℕ) → b < length rows → start_of starts'.items b < later → (start_of starts'.items b < c.tick)
      ⊎ ((start_of starts'.items b ≡ c.tick) × (b ≤ c.row))
  past b hb s = elim (cases_eq b r) [
    | inl e ↦ inr (ap (start_of starts'.items) e ∙ now, omega (arith, e, h.is_row))
    | inr ne ↦ rw (others b ne) (k.so_far.past b hb (rw (others b ne) at s))
  ]

  spawned : (b : ℕ) → b < length rows → start_of starts'.items b < later → IsSpawnedBy rows starts'.items (start_of starts'.items b) b
  spawned b hb s = elim (cases_eq b r) [
    | inl e ↦ subst (λ (x : ℕ). IsSpawnedBy rows starts'.items (start_of starts'.items x) x) (sym e)
        (subst (λ (t : ℕ). IsSpawnedBy rows starts'.items t r) (sym now) (spawned_is c.tick r waiting.spawned))
    | inr ne ↦ subst (λ (t : ℕ). IsSpawnedBy rows starts'.items t b) (sym (others b ne))
        (spawned_is (start_of c.starts.items b) b (k.so_far.spawned b hb (rw (others b ne) at s)))
  ]

  clear_at : (a b : ℕ) → b < length rows → start_of starts'.items b < later → IsInTheWay rows starts'.items (start_of starts'.items b) a b → ⊥
  clear_at a b hb s way = elim (cases_eq b r) [
    | inl e ↦ (
        let way' : IsInTheWay rows starts'.items c.tick a r = subst (λ (t : ℕ). IsInTheWay rows starts'.items t a r) now
        (subst (λ (x : ℕ). IsInTheWay rows starts'.items (start_of starts'.items x) a x) e way) in
        none_in_way rows hr c.starts.items c.free.items c.tick c.row k.so_far k.free_are a r c.tick h.there tick_early clear
        (way_same rows starts'.items c.starts.items a r c.tick (sym (others a way'.other)) way'))
    | inr ne ↦ elim (cases_eq a r) [
      | inl e ↦ (
          let s' : start_of c.starts.items b < later = rw (others b ne) at s in
          let o = others b ne in
          let at : start_of starts'.items a ≡ c.tick = ap (start_of starts'.items) e ∙ now in
          elim (k.so_far.past b hb s') [
            | inl l ↦ elim way.begun [ inl g ↦ omega (arith, g, l, o, at) | inr g ↦ (let g0 = g.0 in omega (arith, g0, l, o, at)) ]
            | inr q ↦ elim way.begun [
              | inl g ↦ (let q0 = q.0 in omega (arith, g, q0, o, at))
              | inr g ↦ (let q1 = q.1 in let g1 = g.1 in omega (arith, q1, g1, e, h.is_row))
            ]
          ])
      | inr na ↦ k.so_far.clear a b hb (rw (others b ne) at s)
          (way_same rows starts'.items c.starts.items a b (start_of c.starts.items b) (sym (others a na))
          (subst (λ (t : ℕ). IsInTheWay rows starts'.items t a b) (others b ne) way))
    ]
  ]

  not_yet : (b u : ℕ) → u ≤ c.tick → u < start_of starts'.items b → u < start_of c.starts.items b
  not_yet b u low s = (let o = no_later b in omega (arith, o, s))

  held : (b u : ℕ) → b < length rows → IsSpawnedBy rows starts'.items u b → u < start_of starts'.items b → IsBefore u b c.tick c.row
      → (a : ℕ) × IsInTheWay rows starts'.items u a b
  held b u hb s before_start before =
      let low : u ≤ c.tick = elim before [ inl l ↦ omega (arith, l) | inr q ↦ (let q0 = q.0 in omega (arith, q0)) ] in
      elim (child_or_not b hb) [
        | inl child ↦ absurd (let x = s r child in let off = hr.offset_above b child.not_main child.there in omega (arith, x, now, low, off))
        | inr none ↦ (
            let way = k.so_far.held b u hb (spawned_was u b none s) (not_yet b u low before_start) before in
            let on : start_of c.starts.items way.0 < later = elim way.1.begun [
              | inl l ↦ omega (arith, l, low, tick_early)
              | inr q ↦ (let q0 = q.0 in omega (arith, q0, low, tick_early))
            ] in
            (way.0, way_same rows c.starts.items starts'.items way.0 b u (others way.0 (other_started way.0 on)) way.1))
      ]

  -- ---- what is free

  free_are : AreFree rows starts'.items free'.items
  free_are = record {
    whole = raised.whole ∙ k.free_are.whole;
    none_later = λ a b x ha hb s conflict. elim (cases_eq a r) [
      | inl e ↦ (
          let up = raised.raised (wait_of rows b x) (touches_wait rows r b x (subst (λ (z : ℕ). ConflictOn rows x z b) e conflict)) in
          let at : end_of rows starts'.items a ≡ c.tick + ticks_of rows r = ap (end_of rows starts'.items) e ∙ ap (λ (t : ℕ). t + ticks_of rows r) now in
          omega (arith, up, at))
      | inr ne ↦ (
          let o = others a ne in
          let old = k.free_are.none_later a b x ha hb (rw (others a ne) at s) conflict in
          let up = raised.grows (wait_of rows b x) in
          omega (arith, o, old, up))
    ];
    reached = λ b x hb own. elim (raised.was (wait_of rows b x)) [
      | inl same ↦ elim (k.free_are.reached b x hb own) [
        | inl none ↦ inl (same ∙ none)
        | inr (a, ha, s, conflict, e) ↦ (
            let ne = other_started a s in
            let o = others a ne in
            inr (a, ha, rw o s, conflict, ap (λ (t : ℕ). t + ticks_of rows a) o ∙ (e ∙ sym same)))
      ]
      | inr (e, touched) ↦ inr (
        r,
        h.there,
        omega (arith, now, tick_early),
        conflict_touched rows r (length (cowns_of rows r)) b x own touched,
        ap (λ (t : ℕ). t + ticks_of rows r) now ∙ sym e,
      )
    ];
  }

  can_was : (b u : ℕ) → (IsChild rows r b → ⊥) → CanStart rows starts'.items free'.items u b → CanStart rows c.starts.items c.free.items u b
  can_was b u none can = record {
    spawned = spawned_was u b none can.spawned;
    clear = λ x own. (let f = can.clear x own in let g = raised.grows (wait_of rows b x) in omega (arith, f, g));
  }

  -- ---- where the rows stand

  waits_on : (b : ℕ) → b ≢ r → IsWaiting rows c.starts.items c.tick b → IsWaiting rows starts'.items c.tick b
  waits_on b ne w = record { not_started = others b ne ∙ w.not_started; spawned = spawned_is c.tick b w.spawned }

  due_on : (b : ℕ) (Was Is : ℕ → Type 0) → ((u : ℕ) → Is u → Was u) → IsDue c.next.keys c.tick b Was → IsDue n.keys c.tick b Is
  due_on b Was Is less d = record { tick = d.tick; queued = sp.stays _ d.queued; early = λ u now w. d.early u now (less u w) }

  stands_on : (b : ℕ) (place : Place) → b ≢ r → (IsChild rows r b → ⊥) → Stands rows c b place → Stands rows begun b place
  stands_on b Unspawned ne none s = (others b ne ∙ s.0, λ a child. others a (λ e. none (subst (λ (z : ℕ). IsChild rows z b) e child)) ∙ s.1 a child, s.2)
  stands_on b New ne none s = (others b ne ∙ s.0, due_on b _ _ (λ u w. spawned_was u b none w) s.1)
  stands_on b First ne none s = (waits_on b ne s.0, due_on b _ _ (λ u w. can_was b u none w) s.1)
  stands_on b (FirstFor wait) ne none s = (waits_on b ne s.0, s.1, due_on b _ _ (λ u w. (let g = raised.grows wait in omega (arith, g, w))) s.2)
  stands_on b BehindKin ne none s = (waits_on b ne s.0, s.1)
  stands_on b (BehindFor wait) ne none s = (waits_on b ne s.0, s.1, s.2)
  stands_on b Started ne none s = (let o = others b ne in omega (arith, o, s))

  new_stands : (b : ℕ) → IsChild rows r b → Stands rows begun b New
  new_stands b child =
      let above = child_above b child in (
        others b (λ e. omega (arith, e, above)) ∙ unborn_later b child,
        record {
          tick = c.tick + offset_of rows b;
          queued = (sp.child b child.there child).1;
          early = λ u later_on s. (let x = s r child in omega (arith, x, now));
        },
      )

  stands_all : (b : ℕ) (place : Place) → b < length rows → IsAt places'.items b place → Stands rows begun b place
  stands_all b place hb at = elim (cases_eq b r) [
    | inl e ↦ subst (λ (z : ℕ). Stands rows begun z place) (sym e) (subst (λ (p : Place). Stands rows begun r p)
        (one_place places'.items r Started place own_at (subst (λ (z : ℕ). IsAt places'.items z place) e at)) (omega (arith, now, tick_early)))
    | inr ne ↦ elim (child_or_not b hb) [
      | inl child ↦ subst (λ (p : Place). Stands rows begun b p) (one_place places'.items b New place (sp.child b hb child).0 at) (new_stands b child)
      | inr none ↦ stands_on b place ne none (k.stands b place hb ne (was_at b place ne none at))
    ]
  ]

  stays_first : (b : ℕ) → b ≢ r → IsFirstOfKin c.places.items b → IsFirstOfKin places'.items b
  stays_first b ne (inl at) = inl (stays_at b First ne (λ child. (let e = one_place c.places.items b Unspawned First (unborn b child) at in cc)) at)
  stays_first b ne (inr (inl (wait, at))) = inr (inl (wait, stays_there b (FirstFor wait) (λ e. (cc)) (λ e. (cc)) at))
  stays_first b ne (inr (inr (wait, at))) = inr (inr (wait, stays_there b (BehindFor wait) (λ e. (cc)) (λ e. (cc)) at))

  next_are : (u b : ℕ) → Contains n.keys (u, b) → IsNext rows starts'.items c.tick c.row end' u b
  next_are u b q = elim (sp.was (u, b) q) [
    | inl old ↦ (
        let i = k.next_are u b old in
        record { there = i.there; after = i.after; spawned = spawned_is u b i.spawned; low = omega (arith, i.low, end_is) })
    | inr (child, e) ↦ (
        let covers : offset_of rows b ≤ ticks_of rows r = subst (λ (x : ℕ). offset_of rows b ≤ ticks_of rows x) child.parent
        (hr.ticks_cover b child.not_main child.there) in
        let off = hr.offset_above b child.not_main child.there in
        record {
          there = child.there;
          after = inl (omega (arith, e, off));
          spawned = λ a child'. (
              let same : a ≡ r = sym child'.parent ∙ child.parent in
              let at : start_of starts'.items a ≡ c.tick = ap (start_of starts'.items) same ∙ now in
              omega (arith, at, e));
          low = omega (arith, e, covers, end_is);
        })
  ]

  ends : IsEndSoFar rows starts'.items end'
  ends = record {
    none_later = λ b hb s. elim (cases_eq b r) [
      | inl e ↦ (
          let at : end_of rows starts'.items b ≡ c.tick + ticks_of rows r = ap (end_of rows starts'.items) e ∙ ap (λ (t : ℕ). t + ticks_of rows r) now in
          omega (arith, at, end_is))
      | inr ne ↦ (
          let o = others b ne in
          let old = k.ends.none_later b hb (rw (others b ne) at s) in
          omega (arith, old, o, end_is))
    ];
    reached = elim (cases_lt c.end (c.tick + ticks_of rows r)) [
      | inl more ↦ inr (r, h.there, omega (arith, now, tick_early), omega (arith, now, end_is, more))
      | inr less ↦ elim k.ends.reached [
        | inl none ↦ inl (omega (arith, none, end_is, less))
        | inr (b, hb, s, e) ↦ (
            let o = others b (other_started b s) in
            inr (b, hb, rw o s, omega (arith, o, e, end_is, less)))
      ]
    ];
    low =
        let there : r < length c.starts.items = omega (arith, h.there, k.of_rows.starts_whole) in
        let was : start_of c.starts.items r ≡ later = waiting.not_started in
        let sum : count_left (set c.starts.items r c.tick) + cond (nat_lt (start_of c.starts.items r) later) 0 1
        ≡ count_left c.starts.items + cond (nat_lt c.tick later) 0 1 =
        sum_by-set (λ (x : ℕ). cond (nat_lt x later) 0 1) c.starts.items r c.tick 0 there in
        let sum' : count_left (set c.starts.items r c.tick) + 1 ≡ count_left c.starts.items + cond (nat_lt c.tick later) 0 1 = rw was at sum in
        let left : count_left starts'.items ≡ count_left (set c.starts.items r c.tick) = ap count_left starts_is in
        let none = counts_none c.tick tick_early in
        let high = hr.ticks_high r h.there in
        omega (arith, sum', none, left, k.ends.low, k.tick_low, end_is, high);
  }

  pub starts_row : IsLookedAt rows c begun
  starts_row = record {
    kept = record {
      of_rows = record {
        starts_whole = ap (λ (xs : List ℕ). length xs) starts_is ∙ (length-set c.starts.items r c.tick ∙ k.of_rows.starts_whole);
        places_whole = sp.whole ∙ (m.whole ∙ k.of_rows.places_whole);
        kinds_are = k.of_rows.kinds_are;
        youngers = k.of_rows.youngers;
      };
      so_far = record { past = past; spawned = spawned; clear = clear_at; held = held };
      free_are = free_are;
      free_low = λ wait. elim (raised.was wait) [
        | inl same ↦ (let low = k.free_low wait in omega (arith, same, low, end_is))
        | inr (e, touched) ↦ omega (arith, e, end_is)
      ];
      kin_are = record {
        whole = k.kin_are.whole;
        behind = λ j b stands. (
            let old = k.kin_are.behind j b stands in
            (old.0, old.1, stays_there b BehindKin (λ e. (cc)) (λ e. (cc)) old.2));
        front = λ j b is. (
            let old = k.kin_are.front j b is in
            (old.0, old.1, stays_first b (λ e. not_front j (is ∙ ap (λ (z : ℕ). Some z) e)) old.2));
      };
      queues_are = record {
        whole = k.queues_are.whole;
        behind = λ wait b stands. (
            let old = k.queues_are.behind wait b stands in
            (old.0, stays_there b (BehindFor wait) (λ e. (cc)) (λ e. (cc)) old.1));
        front = λ wait b is. (
            let old = k.queues_are.front wait b is in
            (old.0, stays_there b (FirstFor wait) (λ e. (cc)) (λ e. (cc)) old.1));
      };
      stands = λ b place hb ne at. stands_all b place hb at;
      next_are = next_are;
      ends = ends;
      tick_low = omega (arith, k.tick_low, end_is);
      row_there = k.row_there;
    };
    tick = refl;
    row = refl;
  }
