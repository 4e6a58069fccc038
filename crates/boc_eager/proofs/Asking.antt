-- The row in hand is first of those that wait for a cown: it waits on, or goes on, and the next one is looked at.
use Rattle.std.proofs.Common.{◌≡◌, ◌≢◌, ℕ, ◌<◌, List, length, refl, sym, ap, ◌∙◌, subst, arith, inl, inr}
use Rattle.std.specs.Prelude.{Some, None, slice_index}
use Rattle.std.specs.List.{Contains}
use Rattle.std.specs.BTreeSet.{BTreeSet}
use Rattle.std.specs.Global.{Vec}
use Rattle.std.proofs.lemmas.Bool.{cases_eq}
use Rattle.boc_runs.specs.declared.rows.Row.{Row}
use Rattle.boc_runs.specs.Rows.{IsRows}
use Rattle.boc_eager.specs.declared.course.Course.{Course}
use Rattle.boc_eager.specs.declared.line.Line.{Line}
use Rattle.boc_eager.specs.declared.place.Place.{Place}
use Rattle.boc_eager.specs.declared.place.Place.TheVariants.{Unspawned, New, First, FirstFor, BehindKin, BehindFor, Started}
use Rattle.boc_eager.specs.Lines.{Adds, behind_of, front_of}
use Rattle.boc_eager.specs.Courses.{InHand, IsAt, IsBehind, IsFirstOfKin, IsInHand, IsKeptBut, IsLookedAt, IsPassedOn, IsWaiting, Stands, WaitsAt}
use Rattle.boc_eager.proofs.Going.{spawned_on}
use Rattle.boc_eager.proofs.Leaving.{Moves, due_more, one_place, other_row, stays_at, stays_first, was_at}
use Rattle.boc_eager.proofs.Lining.{GoesFrom, GoesLast}
use Rattle.boc_eager.proofs.Waiting.{wait_low}

module _ (rows : List Row) (hr : IsRows rows) (c : Course) (r : ℕ) (h : IsInHand rows r c) (wait : ℕ) (at : IsAt c.places.items r (FirstFor wait)) where
  k : IsKeptBut rows r c
  k = h.kept

  waits : IsWaiting rows c.starts.items c.tick r × WaitsAt rows r wait
  waits = h.place (FirstFor wait) at

  pub wait_there : wait < length c.queues.items
  wait_there = (let low = wait_low rows hr r wait h.there waits.1 in omega (arith, low, k.queues_are.whole))

  module _ (n : BTreeSet (ℕ × ℕ)) (held : c.tick < slice_index c.free.items wait) (adds : Adds c.next.keys n.keys (slice_index c.free.items wait, r)) where
    abbrev again : Course
    again = record c { next = n }

    stands_again : (b : ℕ) (place : Place) → Stands rows c b place → Stands rows again b place
    stands_again b Unspawned s = s
    stands_again b New s = (s.0, due_more _ _ _ adds _ b _ s.1)
    stands_again b First s = (s.0, due_more _ _ _ adds _ b _ s.1)
    stands_again b (FirstFor w) s = (s.0, s.1, due_more _ _ _ adds _ b _ s.2)
    stands_again b BehindKin s = s
    stands_again b (BehindFor w) s = s
    stands_again b Started s = s

    pub asks_again : IsLookedAt rows c again
    asks_again = record {
      kept = record {
        of_rows = k.of_rows;
        so_far = k.so_far;
        free_are = k.free_are;
        free_low = k.free_low;
        kin_are = k.kin_are;
        queues_are = k.queues_are;
        stands = λ b place hb ne at'. elim (cases_eq b r) [
          | inl e ↦ subst (λ (z : ℕ). Stands rows again z place) (sym e) (subst (λ (p : Place). Stands rows again r p)
              (one_place c.places.items r (FirstFor wait) place at (subst (λ (z : ℕ). IsAt c.places.items z place) e at'))
              (waits.0, waits.1, record { tick = slice_index c.free.items wait; queued = adds.here; early = λ u now low. low }))
          | inr other ↦ stands_again b place (k.stands b place hb other at')
        ];
        next_are = λ u b q. elim (adds.was (u, b) q) [
          | inl e ↦ (
              let eu : u ≡ slice_index c.free.items wait = ap (λ (p : ℕ × ℕ). p.0) e in
              let eb : b ≡ r = ap (λ (p : ℕ × ℕ). p.1) e in
              let later_on : c.tick < u = omega (arith, eu, held) in
              let low = k.free_low wait in
              record {
                there = omega (arith, eb, h.there);
                after = inl later_on;
                spawned = spawned_on rows c.starts.items c.tick u b (omega (arith, later_on)) (rw eb waits.0.spawned);
                low = omega (arith, eu, low);
              })
          | inr o ↦ k.next_are u b o
        ];
        ends = k.ends;
        tick_low = k.tick_low;
        row_there = k.row_there;
      };
      tick = refl;
      row = refl;
    }

  -- the row in hand is in front of no other line at a cown
  own_wait : (w : ℕ) → front_of c.queues.items w ≡ Some r → w ≡ wait
  own_wait w is = (let e = one_place c.places.items r (FirstFor wait) (FirstFor w) at (k.queues_are.front w r is).1 in cc)

  not_kin : (j b : ℕ) → Contains (behind_of c.kin.items j) b → b ≢ r
  not_kin j b stands = other_row c.places.items r (FirstFor wait) at b BehindKin (k.kin_are.behind j b stands).2 (λ e. (cc))

  module _ (queues' : Vec Line) (g : GoesLast c.queues.items queues'.items wait r) (places' : Vec Place)
      (m : Moves c.places.items places'.items r First) where
    abbrev alone : Course
    alone = record c { queues = queues'; places = places' }

    still_behind : (w b : ℕ) → IsBehind c.queues.items w b → IsBehind queues'.items w b
    still_behind w b s = record {
      stands = rw (g.behind w) s.stands;
      front = s.front;
      is_front = elim (cases_eq w wait) [
        | inl e ↦ elim g.front [
          | inl (was, none) ↦ absurd (g.none_behind was b (subst (λ (z : ℕ). Contains (behind_of c.queues.items z) b) e s.stands))
          | inr (o, same) ↦ ap (front_of queues'.items) e ∙ (same ∙ (ap (front_of c.queues.items) (sym e) ∙ s.is_front))
        ]
        | inr ne ↦ g.fronts w ne ∙ s.is_front
      ];
      lower = s.lower;
    }

    stands_alone : (b : ℕ) (place : Place) → Stands rows c b place → Stands rows alone b place
    stands_alone b Unspawned s = s
    stands_alone b New s = s
    stands_alone b First s = s
    stands_alone b (FirstFor w) s = s
    stands_alone b BehindKin s = s
    stands_alone b (BehindFor w) s = (s.0, s.1, still_behind w b s.2)
    stands_alone b Started s = s

    front_was : (w b : ℕ) → front_of queues'.items w ≡ Some b → (front_of c.queues.items w ≡ Some b) × (b ≢ r)
    front_was w b is = elim (cases_eq w wait) [
      | inl e ↦ elim g.front [
        | inl (was, none) ↦ absurd (let z : None ≡ Some b = sym none ∙ (ap (front_of queues'.items) (sym e) ∙ is) in cc)
        | inr (o, same) ↦ (
            let old : front_of c.queues.items wait ≡ Some b = sym same ∙ (ap (front_of queues'.items) (sym e) ∙ is) in
            (ap (front_of c.queues.items) e ∙ old, λ eb. o (old ∙ ap (λ (z : ℕ). Some z) eb)))
      ]
      | inr ne ↦ (
          let old : front_of c.queues.items w ≡ Some b = sym (g.fronts w ne) ∙ is in
          (old, λ eb. ne (own_wait w (old ∙ ap (λ (z : ℕ). Some z) eb))))
    ]

    kin_first : (b : ℕ) → IsFirstOfKin c.places.items b → IsFirstOfKin places'.items b
    kin_first b o = elim (cases_eq b r) [
      | inl e ↦ subst (λ (z : ℕ). IsFirstOfKin places'.items z) (sym e) (inl m.at)
      | inr ne ↦ stays_first _ _ _ _ m b ne o
    ]

    alone_hand : IsInHand rows r alone
    alone_hand = record {
      kept = record {
        of_rows = record {
          starts_whole = k.of_rows.starts_whole;
          places_whole = m.whole ∙ k.of_rows.places_whole;
          kinds_are = k.of_rows.kinds_are;
          youngers = k.of_rows.youngers;
        };
        so_far = k.so_far;
        free_are = k.free_are;
        free_low = k.free_low;
        kin_are = record {
          whole = k.kin_are.whole;
          behind = λ j b stands. (
              let o = k.kin_are.behind j b stands in
              (o.0, o.1, stays_at _ _ _ _ m b BehindKin (not_kin j b stands) o.2));
          front = λ j b is. (
              let o = k.kin_are.front j b is in
              (o.0, o.1, kin_first b o.2));
        };
        queues_are = record {
          whole = g.whole ∙ k.queues_are.whole;
          behind = λ w b stands. (
              let o = k.queues_are.behind w b (rw (← (g.behind w)) stands) in
              (o.0, stays_at _ _ _ _ m b (BehindFor w) (other_row c.places.items r (FirstFor wait) at b (BehindFor w) o.1 (λ e. (cc))) o.1));
          front = λ w b is. (
              let old = front_was w b is in
              let o = k.queues_are.front w b old.0 in
              (o.0, stays_at _ _ _ _ m b (FirstFor w) old.1 o.1));
        };
        stands = λ b place hb ne at'. stands_alone b place (k.stands b place hb ne (was_at _ _ _ _ m b place ne at'));
        next_are = k.next_are;
        ends = k.ends;
        tick_low = k.tick_low;
        row_there = k.row_there;
      };
      is_row = h.is_row;
      there = h.there;
      place = λ place at'. subst (λ (p : Place). InHand rows alone r p) (one_place places'.items r First place m.at at') waits.0;
    }

    pub goes_alone : IsPassedOn rows r c alone
    goes_alone = record { hand = alone_hand; first = m.at; tick = refl; row = refl }

  module _ (next : ℕ) (queues' : Vec Line) (g : GoesFrom c.queues.items queues'.items wait r next) (mid : List Place)
      (m' : Moves c.places.items mid r First) (places' : Vec Place) (m : Moves mid places'.items next (FirstFor wait)) (n : BTreeSet (ℕ × ℕ))
      (adds : Adds c.next.keys n.keys (c.tick, next)) where
    abbrev onward : Course
    onward = record c { queues = queues'; places = places'; next = n }

    was : (next < length rows) × IsAt c.places.items next (BehindFor wait)
    was = k.queues_are.behind wait next g.was_behind

    other : next ≢ r
    other = other_row c.places.items r (FirstFor wait) at next (BehindFor wait) was.1 (λ e. (cc))

    stood : Stands rows c next (BehindFor wait)
    stood = k.stands next (BehindFor wait) was.0 other was.1

    above : r < next
    above =
        let e : Some stood.2.front ≡ Some r = sym stood.2.is_front ∙ g.was_front in
        let same : stood.2.front ≡ r = cc in
        omega (arith, stood.2.lower, same)

    still : (b : ℕ) (place : Place) → b ≢ next → b ≢ r → IsAt c.places.items b place → IsAt places'.items b place
    still b place ne nr a = stays_at _ _ _ _ m b place ne (stays_at _ _ _ _ m' b place nr a)

    before : (b : ℕ) (place : Place) → b ≢ next → b ≢ r → IsAt places'.items b place → IsAt c.places.items b place
    before b place ne nr a = was_at _ _ _ _ m' b place nr (was_at _ _ _ _ m b place ne a)

    next_at : IsAt places'.items next (FirstFor wait)
    next_at = m.at

    own_at : IsAt places'.items r First
    own_at = stays_at _ _ _ _ m r First (λ e. other (sym e)) m'.at

    -- another row than these two stays at its place
    stays_there : (b : ℕ) (place : Place) → (BehindFor wait ≡ place → ⊥) → (FirstFor wait ≡ place → ⊥) → IsAt c.places.items b place
        → IsAt places'.items b place
    stays_there b place x y a = still b place (other_row c.places.items next (BehindFor wait) was.1 b place a x)
        (other_row c.places.items r (FirstFor wait) at b place a y) a

    stays_behind : (w b : ℕ) → b ≢ next → IsBehind c.queues.items w b → IsBehind queues'.items w b
    stays_behind w b ne s = elim (cases_eq w wait) [
      | inl e ↦ subst (λ (j : ℕ). IsBehind queues'.items j b) (sym e) (
          elim (g.stays b (subst (λ (j : ℕ). Contains (behind_of c.queues.items j) b) e s.stands)) [
            | inl same ↦ absurd (ne same)
            | inr stands ↦ record { stands = stands; front = next; is_front = g.front; lower = g.lowest b stands }
          ])
      | inr nw ↦ record { stands = rw (g.others w nw) s.stands; front = s.front; is_front = g.fronts w nw ∙ s.is_front; lower = s.lower }
    ]

    stands_on : (b : ℕ) (place : Place) → b ≢ next → Stands rows c b place → Stands rows onward b place
    stands_on b Unspawned ne s = s
    stands_on b New ne s = (s.0, due_more _ _ _ adds _ b _ s.1)
    stands_on b First ne s = (s.0, due_more _ _ _ adds _ b _ s.1)
    stands_on b (FirstFor w) ne s = (s.0, s.1, due_more _ _ _ adds _ b _ s.2)
    stands_on b BehindKin ne s = s
    stands_on b (BehindFor w) ne s = (s.0, s.1, stays_behind w b ne s.2)
    stands_on b Started ne s = s

    kin_on : (b : ℕ) → IsFirstOfKin c.places.items b → IsFirstOfKin places'.items b
    kin_on b o = elim (cases_eq b r) [
      | inl e ↦ subst (λ (z : ℕ). IsFirstOfKin places'.items z) (sym e) (inl own_at)
      | inr nr ↦ elim (cases_eq b next) [
        | inl e ↦ subst (λ (z : ℕ). IsFirstOfKin places'.items z) (sym e) (inr (inl (wait, next_at)))
        | inr ne ↦ by_place b nr ne o
      ]
    ]
      where
        by_place : (b : ℕ) → b ≢ r → b ≢ next → IsFirstOfKin c.places.items b → IsFirstOfKin places'.items b
        by_place b nr ne (inl a) = inl (still b First ne nr a)
        by_place b nr ne (inr (inl (w, a))) = inr (inl (w, still b (FirstFor w) ne nr a))
        by_place b nr ne (inr (inr (w, a))) = inr (inr (w, still b (BehindFor w) ne nr a))

    behind_on : (w b : ℕ) → Contains (behind_of queues'.items w) b → (b < length rows) × IsAt places'.items b (BehindFor w)
    behind_on w b stands = elim (cases_eq w wait) [
      | inl e ↦ (
          let here : Contains (behind_of queues'.items wait) b = subst (λ (z : ℕ). Contains (behind_of queues'.items z) b) e stands in
          let o = k.queues_are.behind wait b (g.was b here) in
          let low : next < b = g.lowest b here in (
            o.0,
            subst (λ (z : ℕ). IsAt places'.items b (BehindFor z)) (sym e) (still b (BehindFor wait) (λ same. omega (arith, same, low))
                (λ same. omega (arith, same, low, above)) o.1),
          ))
      | inr nw ↦ (
          let o = k.queues_are.behind w b (rw (← (g.others w nw)) stands) in
          (o.0, stays_there b (BehindFor w) (λ e. nw (cc)) (λ e. (cc)) o.1))
    ]

    front_on : (w b : ℕ) → front_of queues'.items w ≡ Some b → (b < length rows) × IsAt places'.items b (FirstFor w)
    front_on w b is = elim (cases_eq w wait) [
      | inl e ↦ (
          let s : Some next ≡ Some b = sym g.front ∙ (ap (front_of queues'.items) (sym e) ∙ is) in
          let same : next ≡ b = cc in (
            subst (λ (z : ℕ). z < length rows) same was.0,
            subst (λ (z : ℕ). IsAt places'.items b (FirstFor z)) (sym e)
                (subst (λ (z : ℕ). IsAt places'.items z (FirstFor wait)) same next_at),
          ))
      | inr nw ↦ (
          let o = k.queues_are.front w b (sym (g.fronts w nw) ∙ is) in
          (o.0, stays_there b (FirstFor w) (λ e. (cc)) (λ e. nw (cc)) o.1))
    ]

    onward_hand : IsInHand rows r onward
    onward_hand = record {
      kept = record {
        of_rows = record {
          starts_whole = k.of_rows.starts_whole;
          places_whole = m.whole ∙ (m'.whole ∙ k.of_rows.places_whole);
          kinds_are = k.of_rows.kinds_are;
          youngers = k.of_rows.youngers;
        };
        so_far = k.so_far;
        free_are = k.free_are;
        free_low = k.free_low;
        kin_are = record {
          whole = k.kin_are.whole;
          behind = λ j b stands. (
              let o = k.kin_are.behind j b stands in
              (o.0, o.1, stays_there b BehindKin (λ e. (cc)) (λ e. (cc)) o.2));
          front = λ j b is. (
              let o = k.kin_are.front j b is in
              (o.0, o.1, kin_on b o.2));
        };
        queues_are = record { whole = g.whole ∙ k.queues_are.whole; behind = behind_on; front = front_on };
        stands = λ b place hb ne at'. elim (cases_eq b next) [
          | inl e ↦ subst (λ (z : ℕ). Stands rows onward z place) (sym e) (subst (λ (p : Place). Stands rows onward next p)
              (one_place places'.items next (FirstFor wait) place next_at (subst (λ (z : ℕ). IsAt places'.items z place) e at'))
              (stood.0, stood.1, record { tick = c.tick; queued = adds.here; early = λ u now low. now }))
          | inr nx ↦ stands_on b place nx (k.stands b place hb ne (before b place nx ne at'))
        ];
        next_are = λ u b q. elim (adds.was (u, b) q) [
          | inl e ↦ (
              let eu : u ≡ c.tick = ap (λ (p : ℕ × ℕ). p.0) e in
              let eb : b ≡ next = ap (λ (p : ℕ × ℕ). p.1) e in
              record {
                there = omega (arith, eb, was.0);
                after = inr (sym eu, omega (arith, eb, above, h.is_row));
                spawned = rw (eu, eb) stood.0.spawned;
                low = omega (arith, eu, k.tick_low);
              })
          | inr o ↦ k.next_are u b o
        ];
        ends = k.ends;
        tick_low = k.tick_low;
        row_there = k.row_there;
      };
      is_row = h.is_row;
      there = h.there;
      place = λ place at'. subst (λ (p : Place). InHand rows onward r p) (one_place places'.items r First place own_at at') waits.0;
    }

    pub goes_onward : IsPassedOn rows r c onward
    goes_onward = record { hand = onward_hand; first = own_at; tick = refl; row = refl }
