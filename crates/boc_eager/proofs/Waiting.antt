-- The row in hand stands in line, with those of its kind or with those that wait for the same.
use Rattle.std.proofs.Common.{◌≡◌, ◌≢◌, ℕ, ◌+◌, ◌*◌, Bool, true, false, cond, ◌<◌, ◌⊎◌, List, length, refl, sym, ap, ◌∙◌, subst, arith, inl, inr}
use Rattle.std.specs.Prelude.{Some, slice_index}
use Rattle.std.specs.List.{Contains}
use Rattle.std.specs.BTreeSet.{BTreeSet}
use Rattle.std.specs.Global.{Vec}
use Rattle.std.proofs.lemmas.Bool.{cases_eq}
use Rattle.std.proofs.lemmas.List.Elements.{All-contains}
use Rattle.boc_program.specs.declared.limits.TheConstants.{MOST_COWNS}
use Rattle.boc_order.specs.Least.{wrote_cown}
use Rattle.boc_runs.specs.declared.rows.Row.{Row}
use Rattle.boc_runs.specs.Rows.{IsRows, cowns_of}
use Rattle.boc_eager.specs.declared.course.Course.{Course}
use Rattle.boc_eager.specs.declared.line.Line.{Line}
use Rattle.boc_eager.specs.declared.place.Place.{Place}
use Rattle.boc_eager.specs.declared.place.Place.TheVariants.{Unspawned, New, First, FirstFor, BehindKin, BehindFor, Started}
use Rattle.boc_eager.specs.Lines.{Adds, behind_of, front_of}
use Rattle.boc_eager.specs.Courses.{InHand, IsAt, IsBehind, IsFirstOfKin, IsInHand, IsKeptBut, IsLookedAt, IsMissing, IsWaiting, Stands, WaitsAt}
use Rattle.boc_eager.proofs.Going.{spawned_on}
use Rattle.boc_eager.proofs.Leaving.{Moves, due_more, one_place, other_row, stays_at, stays_first, was_at}
use Rattle.boc_eager.proofs.Lining.{ComesBehind, ComesInFront}

-- those behind a line's front stay there as a row comes
pub behind_stays : (lines lines' : List Line) (k r : ℕ) → ComesBehind lines lines' k r → (j b : ℕ) → IsBehind lines j b → IsBehind lines' j b
behind_stays lines lines' k r g j b s = record {
  stands = elim (cases_eq j k) [
    | inl e ↦ subst (λ (z : ℕ). Contains (behind_of lines' z) b) (sym e) (g.joins.stays b (subst (λ (z : ℕ). Contains (behind_of lines z) b) e s.stands))
    | inr ne ↦ rw (g.others j ne) s.stands
  ];
  front = s.front;
  is_front = g.fronts j ∙ s.is_front;
  lower = s.lower;
}

-- the row that came is behind the front
pub behind_comes : (lines lines' : List Line) (k r : ℕ) → ComesBehind lines lines' k r → IsBehind lines' k r
behind_comes lines lines' k r g = record {
  stands = g.joins.here;
  front = g.front;
  is_front = g.fronts k ∙ g.is_front;
  lower = g.lower;
}

-- who stands behind the front was there, or came
pub behind_was : (lines lines' : List Line) (k r : ℕ) → ComesBehind lines lines' k r → (j b : ℕ) → Contains (behind_of lines' j) b
    → ((j ≡ k) × (b ≡ r)) ⊎ Contains (behind_of lines j) b
behind_was lines lines' k r g j b stands = elim (cases_eq j k) [
  | inl e ↦ elim (g.joins.was b (subst (λ (z : ℕ). Contains (behind_of lines' z) b) e stands)) [
    | inl same ↦ inl (e, same)
    | inr old ↦ inr (subst (λ (z : ℕ). Contains (behind_of lines z) b) (sym e) old)
  ]
  | inr ne ↦ inr (rw (← (g.others j ne)) stands)
]

-- those behind a front are behind the one that came before it
pub front_stays : (lines lines' : List Line) (k r : ℕ) → ComesInFront lines lines' k r → (j b : ℕ) → b ≢ r → IsBehind lines j b → IsBehind lines' j b
front_stays lines lines' k r g j b ne s = elim (cases_eq j k) [
  | inl e ↦ (
      let low = g.none_lower s.front (ap (front_of lines) (sym e) ∙ s.is_front) in
      record {
        stands = rw (g.behind j) s.stands;
        front = r;
        is_front = ap (front_of lines') e ∙ g.front;
        lower = omega (arith, low, s.lower);
      })
  | inr nj ↦ record { stands = rw (g.behind j) s.stands; front = s.front; is_front = g.fronts j nj ∙ s.is_front; lower = s.lower }
]

pub front_was : (lines lines' : List Line) (k r : ℕ) → ComesInFront lines lines' k r → (j b : ℕ) → front_of lines' j ≡ Some b
    → ((j ≡ k) × (b ≡ r)) ⊎ (front_of lines j ≡ Some b)
front_was lines lines' k r g j b is = elim (cases_eq j k) [
  | inl e ↦ (let s : Some b ≡ Some r = sym is ∙ (ap (front_of lines') e ∙ g.front) in let same : b ≡ r = cc in inl (e, same))
  | inr ne ↦ inr (sym (g.fronts j ne) ∙ is)
]

-- there are as many lines at cowns as a row may wait at
pub wait_low : (rows : List Row) → IsRows rows → (r wait : ℕ) → r < length rows → WaitsAt rows r wait → wait < 512
wait_low rows hr r wait there w = by_test (wrote_cown rows w.cown r) w.is
  where
    small : w.cown < 256
    small = All-contains (λ x. x < MOST_COWNS) (cowns_of rows r) w.cown (hr.cowns_below r there) w.own

    by_test : (b : Bool) → 2 * w.cown + cond b 1 0 ≡ wait → wait < 512
    by_test true e = omega (arith, e, small)
    by_test false e = omega (arith, e, small)

module _ (rows : List Row) (hr : IsRows rows) (c : Course) (r : ℕ) (h : IsInHand rows r c) where
  k : IsKeptBut rows r c
  k = h.kept

  kind : ℕ
  kind = slice_index c.kinds.items r

  -- ---- a new row, in line with those of its kind

  module _ (new : IsAt c.places.items r New) where
    new_waits : IsWaiting rows c.starts.items c.tick r
    new_waits = h.place New new

    new_kin : (b : ℕ) → IsFirstOfKin c.places.items b → b ≢ r
    new_kin b (inl at) = other_row c.places.items r New new b First at (λ e. (cc))
    new_kin b (inr (inl (wait, at))) = other_row c.places.items r New new b (FirstFor wait) at (λ e. (cc))
    new_kin b (inr (inr (wait, at))) = other_row c.places.items r New new b (BehindFor wait) at (λ e. (cc))

    module _ (kin' : Vec Line) (g : ComesBehind c.kin.items kin'.items (slice_index c.kinds.items r) r) (places' : Vec Place)
        (m : Moves c.places.items places'.items r BehindKin) where
      abbrev behind_kin : Course
      behind_kin = record c { kin = kin'; places = places' }

      stands_behind : (b : ℕ) (place : Place) → Stands rows c b place → Stands rows behind_kin b place
      stands_behind b Unspawned s = s
      stands_behind b New s = s
      stands_behind b First s = s
      stands_behind b (FirstFor wait) s = s
      stands_behind b BehindKin s = (s.0, behind_stays _ _ _ _ g (slice_index c.kinds.items b) b s.1)
      stands_behind b (BehindFor wait) s = s
      stands_behind b Started s = s

      pub comes_behind_kin : IsLookedAt rows c behind_kin
      comes_behind_kin = record {
        kept = record {
          of_rows = record {
            starts_whole = k.of_rows.starts_whole;
            places_whole = m.whole ∙ k.of_rows.places_whole;
            kinds_are = k.of_rows.kinds_are;
            youngers = k.of_rows.youngers;
          };
          so_far = k.so_far;
          free_are = k.free_are;
          free_low = k.free_low;
          kin_are = record {
            whole = g.whole ∙ k.kin_are.whole;
            behind = λ j b stands. elim (behind_was _ _ _ _ g j b stands) [
              | inl (ej, eb) ↦ (
                omega (arith, eb, h.there),
                ap (slice_index c.kinds.items) eb ∙ sym ej,
                subst (λ (z : ℕ). IsAt places'.items z BehindKin) (sym eb) m.at,
              )
              | inr old ↦ (
                  let o = k.kin_are.behind j b old in
                  (o.0, o.1, stays_at _ _ _ _ m b BehindKin (other_row c.places.items r New new b BehindKin o.2 (λ e. (cc))) o.2))
            ];
            front = λ j b is. (
                let o = k.kin_are.front j b (sym (g.fronts j) ∙ is) in
                (o.0, o.1, stays_first _ _ _ _ m b (new_kin b o.2) o.2));
          };
          queues_are = record {
            whole = k.queues_are.whole;
            behind = λ wait b stands. (
                let o = k.queues_are.behind wait b stands in
                (o.0, stays_at _ _ _ _ m b (BehindFor wait) (other_row c.places.items r New new b (BehindFor wait) o.1 (λ e. (cc))) o.1));
            front = λ wait b is. (
                let o = k.queues_are.front wait b is in
                (o.0, stays_at _ _ _ _ m b (FirstFor wait) (other_row c.places.items r New new b (FirstFor wait) o.1 (λ e. (cc))) o.1));
          };
          stands = λ b place hb ne at. elim (cases_eq b r) [
            | inl e ↦ subst (λ (z : ℕ). Stands rows behind_kin z place) (sym e) (subst (λ (p : Place). Stands rows behind_kin r p)
                (one_place places'.items r BehindKin place m.at (subst (λ (z : ℕ). IsAt places'.items z place) e at))
                (new_waits, behind_comes _ _ _ _ g))
            | inr other ↦ stands_behind b place (k.stands b place hb other (was_at _ _ _ _ m b place other at))
          ];
          next_are = k.next_are;
          ends = k.ends;
          tick_low = k.tick_low;
          row_there = k.row_there;
        };
        tick = refl;
        row = refl;
      }

    module _ (kin' : Vec Line) (g : ComesInFront c.kin.items kin'.items (slice_index c.kinds.items r) r) (places' : Vec Place)
        (m : Moves c.places.items places'.items r First) where
      abbrev first_kin : Course
      first_kin = record c { kin = kin'; places = places' }

      stands_first : (b : ℕ) (place : Place) → b ≢ r → Stands rows c b place → Stands rows first_kin b place
      stands_first b Unspawned ne s = s
      stands_first b New ne s = s
      stands_first b First ne s = s
      stands_first b (FirstFor wait) ne s = s
      stands_first b BehindKin ne s = (s.0, front_stays _ _ _ _ g (slice_index c.kinds.items b) b ne s.1)
      stands_first b (BehindFor wait) ne s = s
      stands_first b Started ne s = s

      pub comes_first_of_kin : IsInHand rows r first_kin
      comes_first_of_kin = record {
        kept = record {
          of_rows = record {
            starts_whole = k.of_rows.starts_whole;
            places_whole = m.whole ∙ k.of_rows.places_whole;
            kinds_are = k.of_rows.kinds_are;
            youngers = k.of_rows.youngers;
          };
          so_far = k.so_far;
          free_are = k.free_are;
          free_low = k.free_low;
          kin_are = record {
            whole = g.whole ∙ k.kin_are.whole;
            behind = λ j b stands. (
                let o = k.kin_are.behind j b (rw (← (g.behind j)) stands) in
                (o.0, o.1, stays_at _ _ _ _ m b BehindKin (other_row c.places.items r New new b BehindKin o.2 (λ e. (cc))) o.2));
            front = λ j b is. elim (front_was _ _ _ _ g j b is) [
              | inl (ej, eb) ↦ (
                omega (arith, eb, h.there),
                ap (slice_index c.kinds.items) eb ∙ sym ej,
                subst (λ (z : ℕ). IsFirstOfKin places'.items z) (sym eb) (inl m.at),
              )
              | inr old ↦ (
                  let o = k.kin_are.front j b old in
                  (o.0, o.1, stays_first _ _ _ _ m b (new_kin b o.2) o.2))
            ];
          };
          queues_are = record {
            whole = k.queues_are.whole;
            behind = λ wait b stands. (
                let o = k.queues_are.behind wait b stands in
                (o.0, stays_at _ _ _ _ m b (BehindFor wait) (other_row c.places.items r New new b (BehindFor wait) o.1 (λ e. (cc))) o.1));
            front = λ wait b is. (
                let o = k.queues_are.front wait b is in
                (o.0, stays_at _ _ _ _ m b (FirstFor wait) (other_row c.places.items r New new b (FirstFor wait) o.1 (λ e. (cc))) o.1));
          };
          stands = λ b place hb ne at. stands_first b place ne (k.stands b place hb ne (was_at _ _ _ _ m b place ne at));
          next_are = k.next_are;
          ends = k.ends;
          tick_low = k.tick_low;
          row_there = k.row_there;
        };
        is_row = h.is_row;
        there = h.there;
        place = λ place at. subst (λ (p : Place). InHand rows first_kin r p) (one_place places'.items r First place m.at at) new_waits;
      }

  -- ---- a row that waits for a cown

  module _ (first : IsAt c.places.items r First) (wait : ℕ) (missing : IsMissing rows r c.free.items c.tick wait) where
    first_waits : IsWaiting rows c.starts.items c.tick r
    first_waits = h.place First first

    not_behind : (j b : ℕ) → Contains (behind_of c.kin.items j) b → b ≢ r
    not_behind j b stands = other_row c.places.items r First first b BehindKin (k.kin_are.behind j b stands).2 (λ e. (cc))

    module _ (queues' : Vec Line) (g : ComesBehind c.queues.items queues'.items wait r) (places' : Vec Place)
        (m : Moves c.places.items places'.items r (BehindFor wait)) where
      abbrev behind_queue : Course
      behind_queue = record c { queues = queues'; places = places' }

      stands_queue : (b : ℕ) (place : Place) → Stands rows c b place → Stands rows behind_queue b place
      stands_queue b Unspawned s = s
      stands_queue b New s = s
      stands_queue b First s = s
      stands_queue b (FirstFor w) s = s
      stands_queue b BehindKin s = s
      stands_queue b (BehindFor w) s = (s.0, s.1, behind_stays _ _ _ _ g w b s.2)
      stands_queue b Started s = s

      kin_first : (b : ℕ) → IsFirstOfKin c.places.items b → IsFirstOfKin places'.items b
      kin_first b o = elim (cases_eq b r) [
        | inl e ↦ subst (λ (z : ℕ). IsFirstOfKin places'.items z) (sym e) (inr (inr (wait, m.at)))
        | inr ne ↦ stays_first _ _ _ _ m b ne o
      ]

      pub comes_behind_queue : IsLookedAt rows c behind_queue
      comes_behind_queue = record {
        kept = record {
          of_rows = record {
            starts_whole = k.of_rows.starts_whole;
            places_whole = m.whole ∙ k.of_rows.places_whole;
            kinds_are = k.of_rows.kinds_are;
            youngers = k.of_rows.youngers;
          };
          so_far = k.so_far;
          free_are = k.free_are;
          free_low = k.free_low;
          kin_are = record {
            whole = k.kin_are.whole;
            behind = λ j b stands. (
                let o = k.kin_are.behind j b stands in
                (o.0, o.1, stays_at _ _ _ _ m b BehindKin (not_behind j b stands) o.2));
            front = λ j b is. (
                let o = k.kin_are.front j b is in
                (o.0, o.1, kin_first b o.2));
          };
          queues_are = record {
            whole = g.whole ∙ k.queues_are.whole;
            behind = λ w b stands. elim (behind_was _ _ _ _ g w b stands) [
              | inl (ew, eb) ↦ (
                omega (arith, eb, h.there),
                subst (λ (z : ℕ). IsAt places'.items b (BehindFor z)) (sym ew)
                    (subst (λ (z : ℕ). IsAt places'.items z (BehindFor wait)) (sym eb) m.at),
              )
              | inr old ↦ (
                  let o = k.queues_are.behind w b old in
                  (o.0, stays_at _ _ _ _ m b (BehindFor w) (other_row c.places.items r First first b (BehindFor w) o.1 (λ e. (cc))) o.1))
            ];
            front = λ w b is. (
                let o = k.queues_are.front w b (sym (g.fronts w) ∙ is) in
                (o.0, stays_at _ _ _ _ m b (FirstFor w) (other_row c.places.items r First first b (FirstFor w) o.1 (λ e. (cc))) o.1));
          };
          stands = λ b place hb ne at. elim (cases_eq b r) [
            | inl e ↦ subst (λ (z : ℕ). Stands rows behind_queue z place) (sym e) (subst (λ (p : Place). Stands rows behind_queue r p)
                (one_place places'.items r (BehindFor wait) place m.at (subst (λ (z : ℕ). IsAt places'.items z place) e at))
                (first_waits, missing.waits, behind_comes _ _ _ _ g))
            | inr other ↦ stands_queue b place (k.stands b place hb other (was_at _ _ _ _ m b place other at))
          ];
          next_are = k.next_are;
          ends = k.ends;
          tick_low = k.tick_low;
          row_there = k.row_there;
        };
        tick = refl;
        row = refl;
      }

    module _ (queues' : Vec Line) (g : ComesInFront c.queues.items queues'.items wait r) (places' : Vec Place)
        (m : Moves c.places.items places'.items r (FirstFor wait)) (n : BTreeSet (ℕ × ℕ))
        (adds : Adds c.next.keys n.keys (slice_index c.free.items wait, r)) where
      abbrev first_queue : Course
      first_queue = record c { queues = queues'; places = places'; next = n }

      stands_first_queue : (b : ℕ) (place : Place) → b ≢ r → Stands rows c b place → Stands rows first_queue b place
      stands_first_queue b Unspawned ne s = s
      stands_first_queue b New ne s = (s.0, due_more _ _ _ adds _ b _ s.1)
      stands_first_queue b First ne s = (s.0, due_more _ _ _ adds _ b _ s.1)
      stands_first_queue b (FirstFor w) ne s = (s.0, s.1, due_more _ _ _ adds _ b _ s.2)
      stands_first_queue b BehindKin ne s = s
      stands_first_queue b (BehindFor w) ne s = (s.0, s.1, front_stays _ _ _ _ g w b ne s.2)
      stands_first_queue b Started ne s = s

      front_first : (b : ℕ) → IsFirstOfKin c.places.items b → IsFirstOfKin places'.items b
      front_first b o = elim (cases_eq b r) [
        | inl e ↦ subst (λ (z : ℕ). IsFirstOfKin places'.items z) (sym e) (inr (inl (wait, m.at)))
        | inr ne ↦ stays_first _ _ _ _ m b ne o
      ]

      pub comes_first_queue : IsLookedAt rows c first_queue
      comes_first_queue = record {
        kept = record {
          of_rows = record {
            starts_whole = k.of_rows.starts_whole;
            places_whole = m.whole ∙ k.of_rows.places_whole;
            kinds_are = k.of_rows.kinds_are;
            youngers = k.of_rows.youngers;
          };
          so_far = k.so_far;
          free_are = k.free_are;
          free_low = k.free_low;
          kin_are = record {
            whole = k.kin_are.whole;
            behind = λ j b stands. (
                let o = k.kin_are.behind j b stands in
                (o.0, o.1, stays_at _ _ _ _ m b BehindKin (not_behind j b stands) o.2));
            front = λ j b is. (
                let o = k.kin_are.front j b is in
                (o.0, o.1, front_first b o.2));
          };
          queues_are = record {
            whole = g.whole ∙ k.queues_are.whole;
            behind = λ w b stands. (
                let o = k.queues_are.behind w b (rw (← (g.behind w)) stands) in
                (o.0, stays_at _ _ _ _ m b (BehindFor w) (other_row c.places.items r First first b (BehindFor w) o.1 (λ e. (cc))) o.1));
            front = λ w b is. elim (front_was _ _ _ _ g w b is) [
              | inl (ew, eb) ↦ (
                omega (arith, eb, h.there),
                subst (λ (z : ℕ). IsAt places'.items b (FirstFor z)) (sym ew)
                    (subst (λ (z : ℕ). IsAt places'.items z (FirstFor wait)) (sym eb) m.at),
              )
              | inr old ↦ (
                  let o = k.queues_are.front w b old in
                  (o.0, stays_at _ _ _ _ m b (FirstFor w) (other_row c.places.items r First first b (FirstFor w) o.1 (λ e. (cc))) o.1))
            ];
          };
          stands = λ b place hb ne at. elim (cases_eq b r) [
            | inl e ↦ subst (λ (z : ℕ). Stands rows first_queue z place) (sym e) (subst (λ (p : Place). Stands rows first_queue r p)
                (one_place places'.items r (FirstFor wait) place m.at (subst (λ (z : ℕ). IsAt places'.items z place) e at))
                (first_waits, missing.waits, record { tick = slice_index c.free.items wait; queued = adds.here; early = λ u now low. low }))
            | inr other ↦ stands_first_queue b place other (k.stands b place hb other (was_at _ _ _ _ m b place other at))
          ];
          next_are = λ u b q. elim (adds.was (u, b) q) [
            | inl e ↦ (
                let eu : u ≡ slice_index c.free.items wait = ap (λ (p : ℕ × ℕ). p.0) e in
                let eb : b ≡ r = ap (λ (p : ℕ × ℕ). p.1) e in
                let later_on : c.tick < u = omega (arith, eu, missing.held) in
                let low = k.free_low wait in
                record {
                  there = omega (arith, eb, h.there);
                  after = inl later_on;
                  spawned = spawned_on rows c.starts.items c.tick u b (omega (arith, later_on)) (rw eb first_waits.spawned);
                  low = omega (arith, eu, low);
                })
            | inr o ↦ k.next_are u b o
          ];
          ends = k.ends;
          tick_low = k.tick_low;
          row_there = k.row_there;
        };
        tick = refl;
        row = refl;
      }
