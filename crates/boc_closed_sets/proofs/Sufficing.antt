-- The free places of a closed set are enough, and so are all free places.
use Rattle.std.proofs.Common.{◌≡◌, ◌≢◌, ◌⊎◌, ℕ, ◌+◌, ◌<◌, inl, inr, List, [], ◌∷◌, ◌++◌, length, refl, sym, ◌∙◌, ap, subst, arith, length-append, ℤ}
use Rattle.std.specs.Prelude.{slice_get, Option, Some, None}
use Rattle.std.specs.List.{Contains}
use Rattle.boc_program.specs.declared.program.Program.{Program}
use Rattle.boc_program.proofs.ChangedItems.{place_below, item_at}
use Rattle.boc_program.proofs.RisingNumbers.{has_first, has_later, first_or_later, none_in_none}
use Rattle.boc_runs.specs.Serial.{Behaviour, behaviour_of, Serial, after_turns, serial_along}
use Rattle.boc_machine_laws.proofs.Lists.{same_or_not}
use Rattle.boc_fronts.specs.Orders.{HasWish, CanSpawn, IsOrderFrom, IsOrder}
use Rattle.boc_fronts.specs.Fronts.{LiveRow, Front, Stands, IsFree}
use Rattle.boc_fronts.proofs.Layers.{has_wish, named_has_wish, free_can, can_free, next_can}
use Rattle.boc_closed_sets.specs.Footprints.{AreFootprints, IsInFootprint, IsFootprint}
use Rattle.boc_closed_sets.specs.Closed.{IsClosedFor, IsClosedSet}
use Rattle.boc_closed_sets.specs.Enough.{EndsWhole, IsUnfinished, GoesOnAt, IsEnough, AreFreeOf, AreAllFree}
use Rattle.boc_closed_sets.proofs.Turns.{turns_parts, order_parts, order_whole, wishes_begin, next_there}
use Rattle.boc_closed_sets.proofs.Finding.{Behind, FarApart, Waits, found_whole, found_long}

-- ---- whether a row is named at one of these places

abbrev pub IsNamedIn : List ℕ → List ℕ → ℕ → Type 0
IsNamedIn names inside r = (i : ℕ) × Contains inside i × (slice_get names i ≡ Some r)

is_or_not : (o : Option ℕ) (r : ℕ) → (o ≡ Some r) ⊎ (o ≡ Some r → ⊥)
is_or_not None r = inr (λ e. cc)
is_or_not (Some q) r =
    elim (same_or_not q r) [
      | inl e ↦ inl (ap (λ z. Some z) e)
      | inr n ↦ inr (λ e. n (let f : Some q ≡ Some r = e in cc))
    ]

named_or_not : (names inside : List ℕ) (r : ℕ) → IsNamedIn names inside r ⊎ (IsNamedIn names inside r → ⊥)
named_or_not names [] r = inr (λ n. none_in_none n.0 n.1)
named_or_not names (i ∷ inside) r =
    elim (is_or_not (slice_get names i) r) [
      | inl e ↦ inl (i, has_first i inside, e)
      | inr other ↦ elim (named_or_not names inside r) [
        | inl n ↦ inl (n.0, has_later i n.0 inside n.1, n.2)
        | inr never ↦ inr (λ n. elim (first_or_later i n.0 inside n.1) [
          | inl e ↦ other (ap (slice_get names) e ∙ n.2)
          | inr later ↦ never (n.0, later, n.2)
        ])
      ]
    ]

-- ---- a closed set of a front that stands for an order

module _ (p : Program) (footprint : Behaviour → ℕ → Type 0) (f : Front) (inside : List ℕ) (foot : AreFootprints p footprint)
    (closed : IsClosedFor footprint f inside)
    (parents names : List ℕ) (st : Stands p parents names f) where
  abbrev s : Serial
  s = serial_along p parents

  abbrev Inside : ℕ → Type 0
  Inside = IsNamedIn names inside

  -- the row at the place of a name
  row_at : (i r : ℕ) → slice_get names i ≡ Some r → (l : LiveRow) × (slice_get f.live i ≡ Some l)
  row_at i r e = item_at f.live i (omega (arith, st.loosely.many, place_below names i r e))

  -- a row that can spawn is at a free place
  free_at : (i r : ℕ) → slice_get names i ≡ Some r → CanSpawn s.rows r → IsFree f i
  free_at i r e can =
      let z = can_free p parents names f st r can in
      subst (IsFree f) (st.loosely.once z.0 i r z.1 e) z.2

  can_at : (i r : ℕ) → slice_get names i ≡ Some r → IsFree f i → CanSpawn s.rows r
  can_at i r e free =
      let z = free_can p parents names f st i free in
      let same : z.0 ≡ r = (let g : Some z.0 ≡ Some r = sym z.1 ∙ e in cc) in
      subst (CanSpawn s.rows) same z.2

  can_now : (r : ℕ) → Inside r → CanSpawn s.rows r ⊎ Behind p footprint foot Inside s r
  can_now r in_r =
      let l = row_at in_r.0 r in_r.2 in
      elim (closed.behind in_r.0 l.0 in_r.1 l.1) [
        | inl free ↦ inl (can_at in_r.0 r in_r.2 free)
        | inr j ↦
            let q = item_at names j.0 (omega (arith, st.loosely.many, st.loosely.before_low in_r.0 j.0 l.0 l.1 j.2)) in
            inr (record {
              earlier = q.0;
              inside = (j.0, j.1, q.1);
              before = (st.loosely.before in_r.0 j.0 r q.0 l.0 in_r.2 l.1 q.1).0 j.2;
              wishes = named_has_wish p parents names f st j.0 q.0 q.1;
            })
      ]

  apart_now : FarApart p footprint foot Inside s
  apart_now r q c b far in_r can next out has among reached =
      let free = free_at in_r.0 r in_r.2 can in
      let begin = wishes_begin s.rows r can.wishes in
      let same : b ≡ behaviour_of can.wishes.wish =
      (let g : Some b ≡ Some (behaviour_of can.wishes.wish) = sym next ∙ next_there s.rows r can.wishes in cc) in
      let j = st.loosely.all q (has_wish s.rows q (λ none. none_in_none far (subst (λ bs. Contains bs far) none has))) in
      let other = row_at j.0 q j.1 in
      closed.apart in_r.0 j.0 c free.row other.0 b far begin.0 in_r.1 free free.is
      (sym (st.loosely.wishes in_r.0 r free.row in_r.2 free.is) ∙ begin.1 ∙ ap (λ z. z ∷ begin.0) (sym same))
      (λ in_j. out (j.0, in_j, j.1)) other.1 (subst (λ bs. Contains bs far) (st.loosely.wishes j.0 q other.0 j.1 other.1) has) among reached

  waits_now : Waits p footprint foot Inside s
  waits_now = record {
    there = λ r in_r. st.loosely.there in_r.0 r in_r.2;
    can = can_now;
    apart = apart_now;
  }

  -- a row of the set that can spawn
  record FirstOne : Type 0 where
    row : ℕ
    in_set : Inside row
    can : CanSpawn s.rows row

  first_one : FirstOne
  first_one =
      let z = free_can p parents names f st closed.some.0 closed.some.2 in
      record { row = z.0; in_set = (closed.some.0, closed.some.1, z.1); can = z.2 }

  some_rows : 0 < length s.rows
  some_rows = let x = first_one in omega (arith, st.loosely.there x.in_set.0 x.row x.in_set.2)

  order_now : (rest : List ℕ) → IsOrder p (parents ++ rest) → IsOrderFrom p s rest
  order_now rest order = (order_parts p (serial_along p []) parents rest order).1

  order_then : (rest others : List ℕ) → IsOrder p (parents ++ rest) → IsOrderFrom p s others → IsOrder p (parents ++ others)
  order_then rest others order next =
      order_whole p (serial_along p []) parents others (order_parts p (serial_along p []) parents rest order).0 next

  end_is : (rest : List ℕ) → serial_along p (parents ++ rest) ≡ after_turns p s rest
  end_is rest = turns_parts p (serial_along p []) parents rest

  same_length : (rest others : List ℕ) (r : ℕ) → length others + 1 ≡ length rest → length (parents ++ r ∷ others) ≡ length (parents ++ rest)
  same_length rest others r e = omega (arith, e, length-append parents (r ∷ others), length-append parents rest)

  module _ (places : List ℕ) (free : AreFreeOf f inside places) where
    place_of : (r : ℕ) (others : List ℕ) → (in_r : Inside r) → IsOrderFrom p s (r ∷ others) → Contains places in_r.0
    place_of r others in_r order = (free in_r.0).1 (in_r.1, free_at in_r.0 r in_r.2 (next_can s.rows r some_rows order.0))

    whole_so : (values : List ℤ) (rest : List ℕ) → EndsWhole p values (parents ++ rest)
        → GoesOnAt (EndsWhole p values) parents names places (length rest)
    whole_so values rest ends =
        let whole = ends.0 in
        let x = first_one in
        let fd = found_whole p footprint foot Inside (named_or_not names inside) s names f st.loosely waits_now some_rows x.row x.in_set x.can rest
        (order_now rest whole.order)
        (λ g. whole.none_left g.0 (subst (λ (z : Serial). HasWish z.rows g.0) (sym (end_is rest)) g.1)) in
        let long = same_length rest fd.others fd.row fd.as_many in
        record {
          place = fd.inside.0;
          among = place_of fd.row fd.others fd.inside fd.order;
          row = fd.row;
          named = fd.inside.2;
          others = fd.others;
          as_many = fd.as_many;
          is = (
            record {
              order = order_then rest (fd.row ∷ fd.others) whole.order fd.order;
              some = omega (arith, long, whole.some);
              few = omega (arith, long, whole.few);
              none_left = λ r h.
                  let g = fd.ends.back (r, subst (λ (z : Serial). HasWish z.rows r) (end_is (fd.row ∷ fd.others)) h) in
                  whole.none_left g.0 (subst (λ (z : Serial). HasWish z.rows g.0) (sym (end_is rest)) g.1);
            },
            ap (λ (z : Serial). z.values) (end_is (fd.row ∷ fd.others)) ∙ sym fd.ends.values
                ∙ ap (λ (z : Serial). z.values) (sym (end_is rest)) ∙ ends.1,
          );
        }

    endless_so : (rest : List ℕ) → rest ≢ [] → IsUnfinished p (parents ++ rest) → GoesOnAt (IsUnfinished p) parents names places (length rest)
    endless_so rest more ends =
        let x = first_one in
        let fd = found_long p footprint foot Inside (named_or_not names inside) s names f st.loosely waits_now some_rows x.row x.in_set x.can rest more
        (order_now rest ends.0) (ends.1.0, subst (λ (z : Serial). HasWish z.rows ends.1.0) (end_is rest) ends.1.1) in
        record {
          place = fd.inside.0;
          among = place_of fd.row fd.others fd.inside fd.order;
          row = fd.row;
          named = fd.inside.2;
          others = fd.others;
          as_many = fd.as_many;
          is = (
            order_then rest (fd.row ∷ fd.others) ends.0 fd.order,
            (fd.goes.0, subst (λ (z : Serial). HasWish z.rows fd.goes.0) (sym (end_is (fd.row ∷ fd.others))) fd.goes.1),
          );
        }

-- the free places of a closed set are enough
pub closed_are_enough : (p : Program) (footprint : Behaviour → ℕ → Type 0) (f : Front) (inside places : List ℕ) → AreFootprints p footprint
    → IsClosedFor footprint f inside → AreFreeOf f inside places → IsEnough p f places
closed_are_enough p footprint f inside places foot closed free = record {
  free = λ i among. ((free i).0 among).1;
  whole = λ values parents names rest st more ends. whole_so p footprint f inside foot closed parents names st places free values rest ends;
  endless = λ parents names rest st more ends. endless_so p footprint f inside foot closed parents names st places free rest more ends;
}

-- footprints by kinds are footprints
pub footprints_of_kinds : (p : Program) (reach : ℕ → ℕ → Type 0) → IsFootprint p reach → AreFootprints p (IsInFootprint reach)
footprints_of_kinds p reach foot = record {
  own = λ b c has. inl has;
  wishes = λ b values w among c reached. elim reached [
    | inl has ↦ foot.cowns b values w among c has
    | inr more ↦ inr (foot.kinds b values w among c more)
  ];
}

pub closed_sets_are_enough : (p : Program) (reach : ℕ → ℕ → Type 0) (f : Front) (inside places : List ℕ) → IsFootprint p reach
    → IsClosedSet reach f inside → AreFreeOf f inside places → IsEnough p f places
closed_sets_are_enough p reach f inside places foot closed free =
    closed_are_enough p (IsInFootprint reach) f inside places (footprints_of_kinds p reach foot) closed free

-- ---- all free places

-- a front with a live row stands for no empty run
pub some_rows_of : (p : Program) (parents names : List ℕ) (f : Front) → Stands p parents names f → f.live ≢ [] → 0 < length (serial_along p parents).rows
some_rows_of p parents names f st live =
    let low = more_than_none f.live live in
    let q = item_at names 0 (omega (arith, st.loosely.many, low)) in
    omega (arith, st.loosely.there 0 q.0 q.1)
  where
    more_than_none : (ls : List LiveRow) → ls ≢ [] → 0 < length ls
    more_than_none [] h = absurd (h refl)
    more_than_none (l ∷ ls) h = omega arith

free_first : (p : Program) (Kind : List ℕ → Type 0) (f : Front) (places parents names rest : List ℕ)
    → (is_order : (qs : List ℕ) → Kind qs → IsOrder p qs) → f.live ≢ [] → AreAllFree f places
    → Stands p parents names f → rest ≢ [] → Kind (parents ++ rest) → GoesOnAt Kind parents names places (length rest)
free_first p Kind f places parents names [] is_order live free st more kind = absurd (more refl)
free_first p Kind f places parents names (r ∷ others) is_order live free st more kind =
    let order = (order_parts p (serial_along p []) parents (r ∷ others) (is_order (parents ++ r ∷ others) kind)).1 in
    let can = next_can (serial_along p parents).rows r (some_rows_of p parents names f st live) order.0 in
    let z = can_free p parents names f st r can in
    record {
      place = z.0;
      among = (free z.0).1 z.2;
      row = r;
      named = z.1;
      others = others;
      as_many = omega arith;
      is = kind;
    }

pub free_places_are_enough : (p : Program) (f : Front) (places : List ℕ) → f.live ≢ [] → AreAllFree f places → IsEnough p f places
free_places_are_enough p f places live free = record {
  free = λ i among. (free i).0 among;
  whole = λ values parents names rest. free_first p (EndsWhole p values) f places parents names rest (λ qs k. k.0.order) live free;
  endless = λ parents names rest. free_first p (IsUnfinished p) f places parents names rest (λ qs k. k.0) live free;
}
