-- Two turns over different cowns the other way round: a front that stands for the one run stands for the other, with the names of the new rows exchanged.
use Rattle.std.proofs.Common.{◌≡◌, ◌≢◌, ◌⊎◌, ℕ, zero, suc, ◌+◌, ◌<◌, ◌≤◌, inl, inr, List}
use Rattle.std.proofs.Common.{[], ◌∷◌, ◌++◌, length, map, refl, sym, ◌∙◌, ap, subst, arith, length-append}
use Rattle.std.specs.Prelude.{slice_get, nat_eq, drop, Option, Some}
use Rattle.std.specs.Option.{option_map_or}
use Rattle.std.proofs.lemmas.Bool.{cases_lt}
use Rattle.boc_program.specs.declared.program.Program.{Program}
use Rattle.boc_program.proofs.ChangedItems.{front_item, last_item}
use Rattle.boc_runs.specs.Serial.{Behaviour, behaviour_of, SerialRow, Serial, children, run_at_once, with_row, after_turn, next_behaviour}
use Rattle.boc_runs.specs.machine.Queues.{times}
use Rattle.boc_machine_laws.proofs.Lists.{same_or_not, not_eq}
use Rattle.boc_machine_laws.proofs.Core.{one_if}
use Rattle.boc_machine_laws.proofs.Twins.{read_more}
use Rattle.boc_fronts.specs.Apart.{AreApart}
use Rattle.boc_fronts.specs.Orders.{others_of, HasWish, IsBefore}
use Rattle.boc_fronts.specs.Claims.{Claims, ClaimsOne}
use Rattle.boc_fronts.specs.Fronts.{Front, wishes_left, StandsLoosely}
use Rattle.boc_fronts.proofs.Orderly.{wish_below}
use Rattle.boc_fronts.proofs.Layers.{has_wish}
use Rattle.boc_fronts.proofs.Claiming.{has_low, before_on, before_back}
use Rattle.boc_fronts.proofs.Commuting.{both_turns, turns_commute}
use Rattle.boc_fronts.proofs.LooseSteps.{before_less}
use Rattle.boc_fronts.proofs.Swapping.{first_before, second_before, claims_of_both, both_claim}
use Rattle.boc_fronts.proofs.WishesLeft.{children_now}
use Rattle.boc_closed_sets.proofs.Turns.{some_left}

-- no cown of the one list is in the other
abbrev pub Apart : List ℕ → List ℕ → Type 0
Apart cs ds = (d : ℕ) → 0 < times d cs → times d ds ≡ 0

pub apart_too : (cs ds : List ℕ) → Apart cs ds → Apart ds cs
apart_too cs ds apart d has =
    elim (same_or_not (times d cs) 0) [
      | inl e ↦ e
      | inr n ↦ absurd (omega (arith, has, apart d (more_than_none (times d cs) n)))
    ]
  where
    more_than_none : (n : ℕ) → n ≢ 0 → 0 < n
    more_than_none zero h = absurd (h refl)
    more_than_none (suc n) h = omega arith

-- ---- the numbers of rows, the last two of which are exchanged

abbrev Moved : ℕ → ℕ → ℕ → Type 0
Moved n r q = ((r < n) × (q ≡ r)) ⊎ (((r ≡ n) × (q ≡ n + 1)) ⊎ ((r ≡ n + 1) × (q ≡ n)))

moved_back : (n r q : ℕ) → Moved n r q → Moved n q r
moved_back n r q (inl h) = inl (omega (arith, h.0, h.1), sym h.1)
moved_back n r q (inr (inl h)) = inr (inr (h.1, h.0))
moved_back n r q (inr (inr h)) = inr (inl (h.1, h.0))

moved_old : (n r q : ℕ) → Moved n r q → r < n → q ≡ r
moved_old n r q (inl h) low = h.1
moved_old n r q (inr (inl h)) low = absurd (omega (arith, h.0, low))
moved_old n r q (inr (inr h)) low = absurd (omega (arith, h.0, low))

moved_first : (n r q : ℕ) → Moved n r q → r ≡ n → q ≡ n + 1
moved_first n r q (inl h) e = absurd (omega (arith, h.0, e))
moved_first n r q (inr (inl h)) e = h.1
moved_first n r q (inr (inr h)) e = absurd (omega (arith, h.0, e))

moved_second : (n r q : ℕ) → Moved n r q → r ≡ n + 1 → q ≡ n
moved_second n r q (inl h) e = absurd (omega (arith, h.0, e))
moved_second n r q (inr (inl h)) e = absurd (omega (arith, h.0, e))
moved_second n r q (inr (inr h)) e = h.1

moved_same : (n r q v : ℕ) → Moved n r q → Moved n r v → q ≡ v
moved_same n r q v (inl h) m = h.1 ∙ sym (moved_old n r v m h.0)
moved_same n r q v (inr (inl h)) m = h.1 ∙ sym (moved_first n r v m h.0)
moved_same n r q v (inr (inr h)) m = h.1 ∙ sym (moved_second n r v m h.0)

moved_low : (n r q : ℕ) → Moved n r q → q < n + 2
moved_low n r q (inl h) = omega (arith, h.0, h.1)
moved_low n r q (inr (inl h)) = omega (arith, h.1)
moved_low n r q (inr (inr h)) = omega (arith, h.1)

moved_there : (n q : ℕ) → q < n + 2 → (r : ℕ) × Moved n q r
moved_there n q low =
    elim (cases_lt q n) [
      | inl old ↦ (q, inl (old, refl))
      | inr past ↦ elim (same_or_not q n) [
        | inl e ↦ (n + 1, inr (inl (e, refl)))
        | inr other ↦ elim (cases_lt n q) [
          | inl more ↦ (n, inr (inr (omega (arith, low, more), refl)))
          | inr less ↦ absurd (other (omega (arith, past, less)))
        ]
      ]
    ]

-- ---- two rows more, in the one order and in the other

-- who claims one of some cowns is there
claims_low : (rows : List SerialRow) (x : SerialRow) (cowns : List ℕ) (a : ℕ) → ClaimsOne rows cowns a → a < length rows
claims_low rows x cowns a k =
    let low = has_low rows x k.cown k.claims.row k.claims.has in
    elim k.claims.is [
      | inl e ↦ omega (arith, e, low)
      | inr h ↦ omega (arith, before_less rows a k.claims.row h, low)
    ]

claim_low : (rows : List SerialRow) (x : SerialRow) (c a : ℕ) → Claims rows c a → a < length rows
claim_low rows x c a k =
    let low = has_low rows x c k.row k.has in
    elim k.is [
      | inl e ↦ omega (arith, e, low)
      | inr h ↦ omega (arith, before_less rows a k.row h, low)
    ]

module _ (rows : List SerialRow) (x y : SerialRow) (apart : Apart x.behaviour.cowns y.behaviour.cowns) where
  abbrev n : ℕ
  n = length rows

  abbrev one : List SerialRow
  one = (rows ++ (x ∷ [])) ++ (y ∷ [])

  abbrev two : List SerialRow
  two = (rows ++ (y ∷ [])) ++ (x ∷ [])

  long_x : length (rows ++ (x ∷ [])) ≡ n + 1
  long_x = length-append rows (x ∷ [])

  long_y : length (rows ++ (y ∷ [])) ≡ n + 1
  long_y = length-append rows (y ∷ [])

  back : Apart y.behaviour.cowns x.behaviour.cowns
  back = apart_too x.behaviour.cowns y.behaviour.cowns apart

  -- who is before whom
  before_moved : (r q r' q' : ℕ) → Moved n r q → Moved n r' q' → IsBefore one r' r → IsBefore two q' q
  before_moved r q r' q' (inl h) m b =
      let old = before_back rows x r' r h.0 (before_back (rows ++ (x ∷ [])) y r' r (omega (arith, h.0, long_x)) b) in
      let first : q' ≡ r' = moved_old n r' q' m (omega (arith, h.0, before_less rows r' r old)) in
      subst (λ (z : ℕ). IsBefore two z q) (sym first)
      (subst (λ (z : ℕ). IsBefore two r' z) (sym h.1) (before_on (rows ++ (y ∷ [])) x r' r (before_on rows y r' r old)))
  before_moved r q r' q' (inr (inl h)) m b =
      let k = (first_before rows x y apart r').0 (subst (λ (z : ℕ). IsBefore one r' z) h.0 b) in
      let first : q' ≡ r' = moved_old n r' q' m (claims_low rows x x.behaviour.cowns r' k) in
      subst (λ (z : ℕ). IsBefore two z q) (sym first)
      (subst (λ (z : ℕ). IsBefore two r' z) (sym h.1) ((second_before rows y x back r').1 k))
  before_moved r q r' q' (inr (inr h)) m b =
      let k = (second_before rows x y apart r').0 (subst (λ (z : ℕ). IsBefore one r' z) h.0 b) in
      let first : q' ≡ r' = moved_old n r' q' m (claims_low rows x y.behaviour.cowns r' k) in
      subst (λ (z : ℕ). IsBefore two z q) (sym first)
      (subst (λ (z : ℕ). IsBefore two r' z) (sym h.1) ((first_before rows y x back r').1 k))

  -- who claims a cown
  claims_moved : (c r q : ℕ) → Moved n r q → Claims one c r → Claims two c q
  claims_moved c r q m k =
      both_claim rows y x back c q (elim (claims_of_both rows x y apart c r k) [
        | inl h ↦ inl (subst (λ (z : ℕ). Claims rows c z) (sym (moved_old n r q m (claim_low rows x c r h))) h)
        | inr h ↦ elim h [
          | inl f ↦ inr (inr (
            f.0,
            elim f.1 [
              | inl e ↦ inl (moved_first n r q m e)
              | inr g ↦ inr (subst (λ (z : ℕ). ClaimsOne rows x.behaviour.cowns z)
                  (sym (moved_old n r q m (claims_low rows x x.behaviour.cowns r g))) g)
            ],
          ))
          | inr f ↦ inr (inl (
            f.0,
            elim f.1 [
              | inl e ↦ inl (moved_second n r q m e)
              | inr g ↦ inr (subst (λ (z : ℕ). ClaimsOne rows y.behaviour.cowns z)
                  (sym (moved_old n r q m (claims_low rows x y.behaviour.cowns r g))) g)
            ],
          ))
        ]
      ])

  -- the rows themselves
  old_item : (r : ℕ) → r < n → slice_get one r ≡ slice_get rows r
  old_item r low = front_item (rows ++ (x ∷ [])) y r (omega (arith, low, long_x)) ∙ front_item rows x r low

  first_item : slice_get one n ≡ Some x
  first_item = front_item (rows ++ (x ∷ [])) y n (omega (arith, long_x)) ∙ last_item rows x

  second_item : slice_get one (n + 1) ≡ Some y
  second_item = ap (slice_get one) (sym long_x) ∙ last_item (rows ++ (x ∷ [])) y

module _ (rows : List SerialRow) (x y : SerialRow) (apart : Apart x.behaviour.cowns y.behaviour.cowns)
    (x_low : x.parent < length rows) (y_low : y.parent < length rows)
    (childless : (r : ℕ) → length rows ≤ r → children r (others_of rows) ≡ 0) where
  abbrev n2 : ℕ
  n2 = length rows

  abbrev first2 : List SerialRow
  first2 = (rows ++ (x ∷ [])) ++ (y ∷ [])

  abbrev second2 : List SerialRow
  second2 = (rows ++ (y ∷ [])) ++ (x ∷ [])

  children_both : (r : ℕ) → children r (others_of first2)
      ≡ children r (others_of rows) + one_if (nat_eq x.parent r) + one_if (nat_eq y.parent r)
  children_both r = omega (
    arith,
    children_now (rows ++ (x ∷ [])) y r (omega (arith, length-append rows (x ∷ []))),
    children_now rows x r (omega (arith, x_low)),
  )

  none_new : (r : ℕ) → n2 ≤ r → children r (others_of first2) ≡ 0
  none_new r past = omega (
    arith,
    children_both r,
    childless r past,
    ap one_if (not_eq x.parent r (λ e. omega (arith, e, x_low, past))),
    ap one_if (not_eq y.parent r (λ e. omega (arith, e, y_low, past))),
  )

module _ (rows : List SerialRow) (x y : SerialRow) (apart : Apart x.behaviour.cowns y.behaviour.cowns)
    (x_low : x.parent < length rows) (y_low : y.parent < length rows)
    (childless : (r : ℕ) → length rows ≤ r → children r (others_of rows) ≡ 0) where
  abbrev n3 : ℕ
  n3 = length rows

  abbrev one3 : List SerialRow
  one3 = (rows ++ (x ∷ [])) ++ (y ∷ [])

  abbrev two3 : List SerialRow
  two3 = (rows ++ (y ∷ [])) ++ (x ∷ [])

  abbrev left_of : Option SerialRow → ℕ → List Behaviour
  left_of o k = map behaviour_of (drop k (option_map_or (λ (z : SerialRow). z.means.wishes) o []))

  back3 : Apart y.behaviour.cowns x.behaviour.cowns
  back3 = apart_too x.behaviour.cowns y.behaviour.cowns apart

  children_moved : (r q : ℕ) → Moved n3 r q → children r (others_of one3) ≡ children q (others_of two3)
  children_moved r q (inl h) =
      omega (arith, children_both rows x y apart x_low y_low childless r, children_both rows y x back3 y_low x_low childless r)
      ∙ ap (λ (z : ℕ). children z (others_of two3)) (sym h.1)
  children_moved r q (inr (inl h)) =
      none_new rows x y apart x_low y_low childless r (omega (arith, h.0))
      ∙ sym (none_new rows y x back3 y_low x_low childless q (omega (arith, h.1)))
  children_moved r q (inr (inr h)) =
      none_new rows x y apart x_low y_low childless r (omega (arith, h.0))
      ∙ sym (none_new rows y x back3 y_low x_low childless q (omega (arith, h.1)))

  item_moved : (r q : ℕ) → Moved n3 r q → slice_get one3 r ≡ slice_get two3 q
  item_moved r q (inl h) =
      old_item rows x y apart r h.0 ∙ sym (old_item rows y x back3 r h.0) ∙ ap (slice_get two3) (sym h.1)
  item_moved r q (inr (inl h)) =
      ap (slice_get one3) h.0 ∙ first_item rows x y apart ∙ sym (second_item rows y x back3) ∙ ap (slice_get two3) (sym h.1)
  item_moved r q (inr (inr h)) =
      ap (slice_get one3) h.0 ∙ second_item rows x y apart ∙ sym (first_item rows y x back3) ∙ ap (slice_get two3) (sym h.1)

  left_moved : (r q : ℕ) → Moved n3 r q → wishes_left one3 r ≡ wishes_left two3 q
  left_moved r q m =
      ap (λ o. left_of o (children r (others_of one3))) (item_moved r q m) ∙ ap (left_of (slice_get two3 q)) (children_moved r q m)

-- ---- the names

abbrev two_more : List ℕ → ℕ → ℕ → List ℕ
two_more names v w = (names ++ (v ∷ [])) ++ (w ∷ [])

kept_place : (names : List ℕ) (v w v' w' k q : ℕ) → slice_get (two_more names v w) k ≡ Some q
    → ((slice_get names k ≡ Some q) × (slice_get (two_more names v' w') k ≡ Some q))
    ⊎ (((v ≡ q) × (slice_get (two_more names v' w') k ≡ Some v')) ⊎ ((w ≡ q) × (slice_get (two_more names v' w') k ≡ Some w')))
kept_place names v w v' w' k q e =
    let long : length (names ++ (v ∷ [])) ≡ length names + 1 = length-append names (v ∷ []) in
    let long' : length (names ++ (v' ∷ [])) ≡ length names + 1 = length-append names (v' ∷ []) in
    elim (read_more (names ++ (v ∷ [])) w k q e) [
      | inl h ↦ elim (read_more names v k q h.1) [
        | inl old ↦ inl (
          old.1,
          front_item (names ++ (v' ∷ [])) w' k (omega (arith, old.0, long')) ∙ front_item names v' k old.0 ∙ old.1,
        )
        | inr first ↦ inr (inl (
          first.1,
          front_item (names ++ (v' ∷ [])) w' k (omega (arith, first.0, long')) ∙ ap (slice_get (names ++ (v' ∷ []))) first.0 ∙ last_item names v',
        ))
      ]
      | inr h ↦ inr (inr (
        h.1,
        ap (slice_get (two_more names v' w')) (omega (arith, h.0, long, long')) ∙ last_item (names ++ (v' ∷ [])) w',
      ))
    ]

-- a name that is the same as another
named_too : (names : List ℕ) (k q v : ℕ) → slice_get names k ≡ Some q → q ≡ v → slice_get names k ≡ Some v
named_too names k q v e same = e ∙ ap (λ z. Some z) same

-- ---- the front

module _ (s : Serial) (names : List ℕ) (x y : SerialRow) (apart : Apart x.behaviour.cowns y.behaviour.cowns)
    (x_low : x.parent < length s.rows) (y_low : y.parent < length s.rows)
    (childless : (r : ℕ) → length s.rows ≤ r → children r (others_of s.rows) ≡ 0)
    (there : (k r : ℕ) → slice_get names k ≡ Some r → r < length s.rows)
    (same_values : (with_row (with_row s x) y).values ≡ (with_row (with_row s y) x).values)
    (h : Front) (m : ℕ) (m_is : m ≡ length s.rows + 1)
    (st : StandsLoosely (with_row (with_row s x) y) (two_more names (length s.rows) m) h) where
  abbrev n4 : ℕ
  n4 = length s.rows

  abbrev t : Serial
  t = with_row (with_row s x) y

  abbrev u : Serial
  u = with_row (with_row s y) x

  abbrev olds : List ℕ
  olds = two_more names n4 m

  abbrev news : List ℕ
  news = two_more names (n4 + 1) n4

  back4 : Apart y.behaviour.cowns x.behaviour.cowns
  back4 = apart_too x.behaviour.cowns y.behaviour.cowns apart

  -- the name at a place in the one run, of one in the other
  name_was : (k q : ℕ) → slice_get news k ≡ Some q → (r : ℕ) × (slice_get olds k ≡ Some r) × Moved n4 r q
  name_was k q e =
      elim (kept_place names (n4 + 1) n4 n4 m k q e) [
        | inl z ↦ (q, z.1, inl (there k q z.0, refl))
        | inr z ↦ elim z [
          | inl f ↦ (n4, f.1, inr (inl (refl, sym f.0)))
          | inr f ↦ (m, f.1, inr (inr (m_is, sym f.0)))
        ]
      ]

  name_now : (k r : ℕ) → slice_get olds k ≡ Some r → (q : ℕ) × (slice_get news k ≡ Some q) × Moved n4 r q
  name_now k r e =
      elim (kept_place names n4 m (n4 + 1) n4 k r e) [
        | inl z ↦ (r, z.1, inl (there k r z.0, refl))
        | inr z ↦ elim z [
          | inl f ↦ (n4 + 1, f.1, inr (inl (sym f.0, refl)))
          | inr f ↦ (n4, f.1, inr (inr (sym f.0 ∙ m_is, refl)))
        ]
      ]

  long : length u.rows ≡ n4 + 2
  long = omega (arith, length-append (s.rows ++ (y ∷ [])) (x ∷ []), length-append s.rows (y ∷ []))

  left : (r q : ℕ) → Moved n4 r q → wishes_left t.rows r ≡ wishes_left u.rows q
  left = left_moved s.rows x y apart x_low y_low childless

  all_now : (q : ℕ) → HasWish u.rows q → (k : ℕ) × (slice_get news k ≡ Some q)
  all_now q w =
      let r = moved_there n4 q (omega (arith, wish_below u.rows q w, long)) in
      let moved = moved_back n4 q r.0 r.1 in
      let k = st.all r.0 (has_wish t.rows r.0 (λ none. some_left u.rows q w (sym (left r.0 q moved) ∙ none))) in
      let z = name_now k.0 r.0 k.1 in
      (k.0, named_too news k.0 z.0 q z.1 (moved_same n4 r.0 z.0 q z.2 moved))

  once_now : (i j q : ℕ) → slice_get news i ≡ Some q → slice_get news j ≡ Some q → i ≡ j
  once_now i j q a b =
      let v = name_was i q a in
      let w = name_was j q b in
      let same : v.0 ≡ w.0 = moved_same n4 q v.0 w.0 (moved_back n4 v.0 q v.2) (moved_back n4 w.0 q w.2) in
      st.once i j v.0 v.1 (named_too olds j w.0 v.0 w.1 (sym same))

  pub exchanged : StandsLoosely u news h
  exchanged = record {
    values_are = sym same_values ∙ st.values_are;
    many = omega (
      arith,
      st.many,
      length-append (names ++ (n4 ∷ [])) (m ∷ []),
      length-append names (n4 ∷ []),
      length-append (names ++ ((n4 + 1) ∷ [])) (n4 ∷ []),
      length-append names ((n4 + 1) ∷ []),
    );
    there = λ k q e. let z = name_was k q e in omega (arith, moved_low n4 z.0 q z.2, long);
    childless = λ r past. none_new s.rows y x back4 y_low x_low childless r (omega (arith, past, long));
    all = all_now;
    once = once_now;
    wishes = λ k q l e is. let z = name_was k q e in sym (left z.0 q z.2) ∙ st.wishes k z.0 l z.1 is;
    before_low = st.before_low;
    before = λ i j r q l a is b.
        let v = name_was i r a in
        let w = name_was j q b in
        let old = st.before i j v.0 w.0 l v.1 is w.1 in (
          λ has. before_moved s.rows x y apart v.0 r w.0 q v.2 w.2 (old.0 has),
          λ now. old.1 (before_moved s.rows y x back4 r v.0 q w.0 (moved_back n4 v.0 r v.2) (moved_back n4 w.0 q w.2) now),
        );
    claims = λ i r c l a is.
        let v = name_was i r a in
        let old = st.claims i v.0 c l v.1 is in (
          λ has. claims_moved s.rows x y apart c v.0 r v.2 (old.0 has),
          λ now. old.1 (claims_moved s.rows y x back4 c r v.0 (moved_back n4 v.0 r v.2) now),
        );
  }

-- a front that stands for a run with two turns over different cowns stands for that with the turns exchanged
pub turns_exchanged : (p : Program) (s : Serial) (names : List ℕ) (f h : Front) (a b : ℕ) → StandsLoosely s names f → (apart : AreApart s a b)
    → StandsLoosely (after_turn p (after_turn p s a) b) (two_more names (length s.rows) (length (after_turn p s a).rows)) h
    → StandsLoosely (after_turn p (after_turn p s b) a) (two_more names (length s.rows + 1) (length s.rows)) h
turns_exchanged p s names f h a b st apart now =
    let x : SerialRow = run_at_once p s.values a (Some apart.first) in
    let y : SerialRow = run_at_once p s.values b (Some apart.second) in
    let back = apart_too apart.first.cowns apart.second.cowns apart.apart in
    let one = both_turns p s a b apart.first apart.second apart.differ apart.there_too apart.first_is apart.second_is back in
    let other = both_turns p s b a apart.second apart.first (λ e. apart.differ (sym e)) apart.there apart.second_is apart.first_is apart.apart in
    subst (λ (z : Serial). StandsLoosely z (two_more names (length s.rows + 1) (length s.rows)) h) (sym other)
    (exchanged s names x y apart.apart apart.there apart.there_too st.childless st.there
    (ap (λ (z : Serial). z.values) (sym one) ∙ (turns_commute p s a b apart).values ∙ ap (λ (z : Serial). z.values) other)
    h (length (after_turn p s a).rows) (length-append s.rows ((run_at_once p s.values a (next_behaviour s.rows a)) ∷ []))
    (subst (λ (z : Serial). StandsLoosely z (two_more names (length s.rows) (length (after_turn p s a).rows)) h) one now))
