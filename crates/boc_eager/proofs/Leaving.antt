-- The next row of a line is looked at, where the row in hand goes from it.
use Rattle.std.proofs.Common.{◌≡◌, ◌≢◌, ℕ, ◌<◌, List, length, set, get_or, refl, sym, ap, ◌∙◌, subst, arith, inl, inr, length-set}
use Rattle.std.specs.Prelude.{Some, None, slice_get, slice_index}
use Rattle.std.specs.List.{Contains}
use Rattle.std.specs.BTreeSet.{BTreeSet}
use Rattle.std.specs.Global.{Vec}
use Rattle.std.proofs.lemmas.Bool.{cases_eq}
use Rattle.std.proofs.lemmas.List.{get_or_default}
use Rattle.boc_program.proofs.ChangedItems.{set_same, set_other}
use Rattle.boc_runs.specs.declared.rows.Row.{Row}
use Rattle.boc_runs.specs.Rows.{IsRows}
use Rattle.boc_eager.specs.declared.course.Course.{Course}
use Rattle.boc_eager.specs.declared.line.Line.{Line}
use Rattle.boc_eager.specs.declared.place.Place.{Place}
use Rattle.boc_eager.specs.declared.place.Place.TheVariants.{Unspawned, New, First, FirstFor, BehindKin, BehindFor, Started}
use Rattle.boc_eager.specs.Lines.{Adds, behind_of, front_of}
use Rattle.boc_eager.specs.Courses.{CanStart, InHand, IsAt, IsBehind, IsDue, IsFirstOfKin, IsInHand, IsKeptBut, IsLetGo, Stands, later}
use Rattle.boc_eager.proofs.Lining.{GoesFrom, GoesLast}

-- the places, of which that of one row is another
pub record Moves (places places' : List Place) (r : ℕ) (place : Place) : Type 0 where
  pub whole : length places' ≡ length places
  pub at : IsAt places' r place
  pub others : (b : ℕ) → b ≢ r → slice_get places' b ≡ slice_get places b

pub moves : (places : List Place) (r : ℕ) (place : Place) → r < length places → Moves places (set places r place) r place
moves places r place h = record {
  whole = length-set places r place;
  at = set_same places r place h;
  others = λ b ne. set_other places r b place ne;
}

-- two places of one row are the same
pub one_place : (places : List Place) (r : ℕ) (x y : Place) → IsAt places r x → IsAt places r y → x ≡ y
one_place places r x y a b = (let e : Some x ≡ Some y = sym a ∙ b in cc)

-- a row at another place is another row
pub other_row : (places : List Place) (r : ℕ) (x : Place) → IsAt places r x → (b : ℕ) (y : Place) → IsAt places b y → (x ≡ y → ⊥) → b ≢ r
other_row places r x at b y at' differs e = differs (one_place places r x y at (subst (λ (z : ℕ). IsAt places z y) e at'))

module _ (places places' : List Place) (r : ℕ) (place : Place) (m : Moves places places' r place) where
  pub was_at : (b : ℕ) (x : Place) → b ≢ r → IsAt places' b x → IsAt places b x
  was_at b x ne at = sym (m.others b ne) ∙ at

  pub stays_at : (b : ℕ) (x : Place) → b ≢ r → IsAt places b x → IsAt places' b x
  stays_at b x ne at = m.others b ne ∙ at

  pub stays_first : (b : ℕ) → b ≢ r → IsFirstOfKin places b → IsFirstOfKin places' b
  stays_first b ne (inl at) = inl (stays_at b First ne at)
  stays_first b ne (inr (inl (wait, at))) = inr (inl (wait, stays_at b (FirstFor wait) ne at))
  stays_first b ne (inr (inr (wait, at))) = inr (inr (wait, stays_at b (BehindFor wait) ne at))

pub due_more : (next next' : List (ℕ × ℕ)) (x : ℕ × ℕ) → Adds next next' x → (t b : ℕ) (Ticks : ℕ → Type 0) → IsDue next t b Ticks → IsDue next' t b Ticks
due_more next next' x a t b Ticks d = record { tick = d.tick; queued = a.stays _ d.queued; early = d.early }

-- the kind of the row in hand, as it is read
pub kind_read : (rows : List Row) (c : Course) (r : ℕ) → IsInHand rows r c → (x : ℕ) → x ≡ get_or c.kinds.items r x
    → (x ≡ slice_index c.kinds.items r) × (x < length c.kin.items)
kind_read rows c r h x e =
    let are = h.kept.of_rows.kinds_are in
    let is : x ≡ slice_index c.kinds.items r = e ∙ get_or_default c.kinds.items r x 0 (omega (arith, h.there, are.whole)) in
    (is, omega (arith, is, are.below r h.there, h.kept.kin_are.whole))

module _ (rows : List Row) (hr : IsRows rows) (c : Course) (r : ℕ) (h : IsInHand rows r c) (first : IsAt c.places.items r First) where
  k : IsKeptBut rows r c
  k = h.kept

  pub hand_low : c.end < later
  hand_low = omega (arith, k.ends.low, hr.not_many)

  kind : ℕ
  kind = slice_index c.kinds.items r

  -- the row in hand is in front of no line of another kind
  pub own_kind : (j : ℕ) → front_of c.kin.items j ≡ Some r → slice_index c.kinds.items r ≡ j
  own_kind j e = (k.kin_are.front j r e).1

  module _ (next : ℕ) (kin' : Vec Line) (g : GoesFrom c.kin.items kin'.items (slice_index c.kinds.items r) r next) (places' : Vec Place)
      (m : Moves c.places.items places'.items next First) (n : BTreeSet (ℕ × ℕ)) (adds : Adds c.next.keys n.keys (c.tick, next)) where
    abbrev gone : Course
    gone = record c { kin = kin'; places = places'; next = n }

    was : (next < length rows) × (slice_index c.kinds.items next ≡ slice_index c.kinds.items r) × IsAt c.places.items next BehindKin
    was = k.kin_are.behind (slice_index c.kinds.items r) next g.was_behind

    other : next ≢ r
    other = other_row c.places.items r First first next BehindKin was.2 (λ e. (cc))

    stood : Stands rows c next BehindKin
    stood = k.stands next BehindKin was.0 other was.2

    above : r < next
    above =
        let e : Some stood.1.front ≡ Some r = sym stood.1.is_front ∙ (ap (front_of c.kin.items) was.1 ∙ g.was_front) in
        let same : stood.1.front ≡ r = cc in
        omega (arith, stood.1.lower, same)

    due_now : IsDue n.keys c.tick next (λ u. CanStart rows c.starts.items c.free.items u next)
    due_now = record { tick = c.tick; queued = adds.here; early = λ u now can. now }

    -- those behind it have a front still
    stays_behind : (b : ℕ) → b ≢ next → IsBehind c.kin.items (slice_index c.kinds.items b) b → IsBehind kin'.items (slice_index c.kinds.items b) b
    stays_behind b ne s = elim (cases_eq (slice_index c.kinds.items b) (slice_index c.kinds.items r)) [
      | inl e ↦ subst (λ (j : ℕ). IsBehind kin'.items j b) (sym e) (
          elim (g.stays b (subst (λ (j : ℕ). Contains (behind_of c.kin.items j) b) e s.stands)) [
            | inl same ↦ absurd (ne same)
            | inr stands ↦ record { stands = stands; front = next; is_front = g.front; lower = g.lowest b stands }
          ])
      | inr nk ↦ record {
        stands = rw (g.others _ nk) s.stands;
        front = s.front;
        is_front = g.fronts _ nk ∙ s.is_front;
        lower = s.lower;
      }
    ]

    stands_on : (b : ℕ) (place : Place) → b ≢ next → Stands rows c b place → Stands rows gone b place
    stands_on b Unspawned ne s = s
    stands_on b New ne s = (s.0, due_more _ _ _ adds _ b _ s.1)
    stands_on b First ne s = (s.0, due_more _ _ _ adds _ b _ s.1)
    stands_on b (FirstFor wait) ne s = (s.0, s.1, due_more _ _ _ adds _ b _ s.2)
    stands_on b BehindKin ne s = (s.0, stays_behind b ne s.1)
    stands_on b (BehindFor wait) ne s = s
    stands_on b Started ne s = s

    stands_all : (b : ℕ) (place : Place) → b < length rows → b ≢ r → IsAt places'.items b place → Stands rows gone b place
    stands_all b place hb ne at = elim (cases_eq b next) [
      | inl e ↦ subst (λ (z : ℕ). Stands rows gone z place) (sym e) (subst (λ (p : Place). Stands rows gone next p)
          (one_place places'.items next First place m.at (subst (λ (z : ℕ). IsAt places'.items z place) e at)) (stood.0, due_now))
      | inr nx ↦ stands_on b place nx (k.stands b place hb ne (was_at _ _ _ _ m b place nx at))
    ]

    pub lets_go : IsLetGo rows r c gone
    lets_go = record {
      hand = record {
        kept = record {
          of_rows = record {
            starts_whole = k.of_rows.starts_whole;
            places_whole = m.whole ∙ k.of_rows.places_whole;
            kinds_are = k.of_rows.kinds_are;
            youngers = k.of_rows.youngers;
          };
          so_far = k.so_far;
          free_are = k.free_are;
          free_low = k.free_low;
          kin_are = record {
            whole = g.whole ∙ k.kin_are.whole;
            behind = λ j b stands. behind_on j b stands;
            front = λ j b is. front_on j b is;
          };
          queues_are = record {
            whole = k.queues_are.whole;
            behind = λ wait b stands. (
                let old = k.queues_are.behind wait b stands in
                (old.0, stays_at _ _ _ _ m b (BehindFor wait) (other_row c.places.items next BehindKin was.2 b (BehindFor wait) old.1 (λ e. (cc))) old.1));
            front = λ wait b is. (
                let old = k.queues_are.front wait b is in
                (old.0, stays_at _ _ _ _ m b (FirstFor wait) (other_row c.places.items next BehindKin was.2 b (FirstFor wait) old.1 (λ e. (cc))) old.1));
          };
          stands = stands_all;
          next_are = λ u b q. elim (adds.was (u, b) q) [
            | inl e ↦ (
                let eu : u ≡ c.tick = ap (λ (p : ℕ × ℕ). p.0) e in
                let eb : b ≡ next = ap (λ (p : ℕ × ℕ). p.1) e in
                record {
                  there = omega (arith, eb, was.0);
                  after = inr (sym eu, omega (arith, eb, above, h.is_row));
                  spawned = rw (eu, eb) stood.0.spawned;
                  low = omega (arith, eu, k.tick_low);
                })
            | inr o ↦ k.next_are u b o
          ];
          ends = k.ends;
          tick_low = k.tick_low;
          row_there = k.row_there;
        };
        is_row = h.is_row;
        there = h.there;
        place = λ place at. (
            let e : First ≡ place = one_place c.places.items r First place first (was_at _ _ _ _ m r place (λ e. other (sym e)) at) in
            subst (λ (p : Place). InHand rows gone r p) e (h.place First first));
      };
      first = stays_at _ _ _ _ m r First (λ e. other (sym e)) first;
      not_front = λ j is. elim (cases_eq j (slice_index c.kinds.items r)) [
        | inl e ↦ (let s : Some next ≡ Some r = sym g.front ∙ (ap (front_of kin'.items) (sym e) ∙ is) in other (cc))
        | inr ne ↦ ne (sym (own_kind j (sym (g.fronts j ne) ∙ is)))
      ];
      free = refl;
      tick = refl;
    }
      where
        behind_on : (j b : ℕ) → Contains (behind_of kin'.items j) b → (b < length rows) × (slice_index c.kinds.items b ≡ j) × IsAt places'.items b BehindKin
        behind_on j b stands = elim (cases_eq j (slice_index c.kinds.items r)) [
          | inl e ↦ (
              let here : Contains (behind_of kin'.items (slice_index c.kinds.items r)) b = subst (λ (z : ℕ). Contains (behind_of kin'.items z) b) e stands in
              let old = k.kin_are.behind (slice_index c.kinds.items r) b (g.was b here) in
              let low : next < b = g.lowest b here in
              (old.0, old.1 ∙ sym e, stays_at _ _ _ _ m b BehindKin (λ same. omega (arith, same, low)) old.2))
          | inr ne ↦ (
              let old = k.kin_are.behind j b (rw (← (g.others j ne)) stands) in
              (old.0, old.1, stays_at _ _ _ _ m b BehindKin (λ same. ne (sym old.1 ∙ (ap (slice_index c.kinds.items) same ∙ was.1))) old.2))
        ]

        front_on : (j b : ℕ) → front_of kin'.items j ≡ Some b → (b < length rows) × (slice_index c.kinds.items b ≡ j) × IsFirstOfKin places'.items b
        front_on j b is = elim (cases_eq j (slice_index c.kinds.items r)) [
          | inl e ↦ (
              let s : Some next ≡ Some b = sym g.front ∙ (ap (front_of kin'.items) (sym e) ∙ is) in
              let same : next ≡ b = cc in (
                subst (λ (z : ℕ). z < length rows) same was.0,
                ap (slice_index c.kinds.items) (sym same) ∙ (was.1 ∙ sym e),
                subst (λ (z : ℕ). IsFirstOfKin places'.items z) same (inl m.at),
              ))
          | inr ne ↦ (
              let old = k.kin_are.front j b (sym (g.fronts j ne) ∙ is) in
              (old.0, old.1, stays_first _ _ _ _ m b (λ same. ne (sym old.1 ∙ (ap (slice_index c.kinds.items) same ∙ was.1))) old.2))
        ]

  module _ (kin' : Vec Line) (g : GoesLast c.kin.items kin'.items (slice_index c.kinds.items r) r) where
    abbrev last : Course
    last = record c { kin = kin' }

    -- the front of another line stays, and so does that of this line if it has rows behind it
    still_behind : (j b : ℕ) → IsBehind c.kin.items j b → IsBehind kin'.items j b
    still_behind j b s = record {
      stands = rw (g.behind j) s.stands;
      front = s.front;
      is_front = elim (cases_eq j (slice_index c.kinds.items r)) [
        | inl e ↦ elim g.front [
          | inl (was, none) ↦ absurd (g.none_behind was b (subst (λ (z : ℕ). Contains (behind_of c.kin.items z) b) e s.stands))
          | inr (o, same) ↦ ap (front_of kin'.items) e ∙ (same ∙ (ap (front_of c.kin.items) (sym e) ∙ s.is_front))
        ]
        | inr ne ↦ g.fronts j ne ∙ s.is_front
      ];
      lower = s.lower;
    }

    stands_last : (b : ℕ) (place : Place) → Stands rows c b place → Stands rows last b place
    stands_last b Unspawned s = s
    stands_last b New s = s
    stands_last b First s = s
    stands_last b (FirstFor wait) s = s
    stands_last b BehindKin s = (s.0, still_behind (slice_index c.kinds.items b) b s.1)
    stands_last b (BehindFor wait) s = s
    stands_last b Started s = s

    front_was : (j b : ℕ) → front_of kin'.items j ≡ Some b → front_of c.kin.items j ≡ Some b
    front_was j b is = elim (cases_eq j (slice_index c.kinds.items r)) [
      | inl e ↦ elim g.front [
        | inl (was, none) ↦ absurd (let z : None ≡ Some b = sym none ∙ (ap (front_of kin'.items) (sym e) ∙ is) in cc)
        | inr (o, same) ↦ ap (front_of c.kin.items) e ∙ (sym same ∙ (ap (front_of kin'.items) (sym e) ∙ is))
      ]
      | inr ne ↦ sym (g.fronts j ne) ∙ is
    ]

    pub lets_last : IsLetGo rows r c last
    lets_last = record {
      hand = record {
        kept = record {
          of_rows = k.of_rows;
          so_far = k.so_far;
          free_are = k.free_are;
          free_low = k.free_low;
          kin_are = record {
            whole = g.whole ∙ k.kin_are.whole;
            behind = λ j b stands. k.kin_are.behind j b (rw (← (g.behind j)) stands);
            front = λ j b is. k.kin_are.front j b (front_was j b is);
          };
          queues_are = k.queues_are;
          stands = λ b place hb ne at. stands_last b place (k.stands b place hb ne at);
          next_are = k.next_are;
          ends = k.ends;
          tick_low = k.tick_low;
          row_there = k.row_there;
        };
        is_row = h.is_row;
        there = h.there;
        place = λ place at. (
            let e : First ≡ place = one_place c.places.items r First place first at in
            subst (λ (p : Place). InHand rows last r p) e (h.place First first));
      };
      first = first;
      not_front = λ j is. elim (cases_eq j (slice_index c.kinds.items r)) [
        | inl e ↦ elim g.front [
          | inl (was, none) ↦ (let z : None ≡ Some r = sym none ∙ (ap (front_of kin'.items) (sym e) ∙ is) in cc)
          | inr (o, same) ↦ o (sym same ∙ (ap (front_of kin'.items) (sym e) ∙ is))
        ]
        | inr ne ↦ ne (sym (own_kind j (sym (g.fronts j ne) ∙ is)))
      ];
      free = refl;
      tick = refl;
    }
