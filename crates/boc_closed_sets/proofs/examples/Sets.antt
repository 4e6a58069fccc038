-- The definitions tried on small fronts: which sets are closed and which are not, and lists of cowns that make no footprint.
use Rattle.std.proofs.Common.{◌≡◌, ◌⊎◌, ℕ, zero, suc, ◌<◌, inl, inr, List, [], ◌∷◌, refl, sym, ◌∙◌, ap, subst, arith, pos}
use Rattle.std.specs.Prelude.{slice_get, slice_index_or, Some, None}
use Rattle.std.specs.List.{Contains}
use Rattle.boc_program.specs.Meaning.{Wish}
use Rattle.boc_program.proofs.examples.Transfer.{program}
use Rattle.boc_program.proofs.RisingNumbers.{has_first, has_later, first_or_later, none_in_none}
use Rattle.boc_runs.specs.Serial.{Behaviour, main_behaviour}
use Rattle.boc_runs.specs.machine.Queues.{times}
use Rattle.boc_machine_laws.proofs.Outputs.{contains_times}
use Rattle.boc_fronts.specs.Fronts.{LiveRow, Front, IsFree}
use Rattle.boc_closed_sets.specs.Meant.{meant_at}
use Rattle.boc_closed_sets.specs.Footprints.{IsListed, IsFootprint}
use Rattle.boc_closed_sets.specs.Closed.{IsClosedSet}

-- the cowns a, b, p, q that each kind reaches: main, one, two, left, right; left asks for one over a and b, right for two over a
abbrev reached : ℕ → List ℕ
reached kind = slice_index_or ((0 ∷ 1 ∷ 2 ∷ 3 ∷ []) ∷ [] ∷ [] ∷ (0 ∷ 1 ∷ []) ∷ (0 ∷ []) ∷ []) kind []

abbrev one_of : List ℕ → Behaviour
one_of cowns = record { kind = 1; args = []; cowns = cowns }

abbrev two_of : List ℕ → Behaviour
two_of cowns = record { kind = 2; args = []; cowns = cowns }

abbrev row_of : Behaviour → List ℕ → List ℕ → LiveRow
row_of wish before claims = record { wishes = wish ∷ []; before = before; claims = claims }

abbrev front_of : List LiveRow → Front
front_of live = record { values = pos 0 ∷ pos 0 ∷ pos 0 ∷ pos 0 ∷ []; live = live }

nobody_before : (l : LiveRow) (live : List LiveRow) (i : ℕ) → slice_get live i ≡ Some l → l.before ≡ [] → IsFree (front_of live) i
nobody_before l live i is none = record {
  row = l;
  is = is;
  none = λ j low has. none_in_none j (subst (λ bs. Contains bs j) none has);
}

only_one : (d c : ℕ) → 0 < times c (d ∷ []) → d ≡ c
only_one d c h =
    elim (first_or_later d c [] (contains_times c (d ∷ []) h)) [
      | inl e ↦ e
      | inr later ↦ absurd (none_in_none c later)
    ]

-- ---- left and right, which both ask for a

abbrev left_row : LiveRow
left_row = row_of (one_of (0 ∷ 1 ∷ [])) [] (2 ∷ [])

abbrev right_row : LiveRow
right_row = row_of (two_of (0 ∷ [])) [] (3 ∷ [])

abbrev both : Front
both = front_of (left_row ∷ right_row ∷ [])

-- one of the two is not closed: the other may come first
left_alone : IsClosedSet (IsListed reached) both (0 ∷ []) → ⊥
left_alone closed =
    closed.apart 0 1 0 left_row right_row (one_of (0 ∷ 1 ∷ [])) (two_of (0 ∷ [])) [] (has_first 0 [])
    (nobody_before left_row (left_row ∷ right_row ∷ []) 0 refl refl) refl refl
    (λ has. elim (first_or_later 0 1 [] has) [
      | inl e ↦ omega (arith, e)
      | inr later ↦ none_in_none 1 later
    ])
    refl (has_first (two_of (0 ∷ [])) []) (omega arith) (inl (omega arith))

-- an empty set is not closed
none_of_them : IsClosedSet (IsListed reached) both [] → ⊥
none_of_them closed = none_in_none closed.some.0 closed.some.1

-- both are
both_together : IsClosedSet (IsListed reached) both (0 ∷ 1 ∷ [])
both_together = record {
  some = (0, has_first 0 (1 ∷ []), nobody_before left_row (left_row ∷ right_row ∷ []) 0 refl refl);
  apart = λ i j c row other wish far rest inside free is wishes out there has among reached_too. none_outside j other out there;
  behind = λ i row inside is. inl (free_at i row is);
}
  where
    none_outside : (j : ℕ) (other : LiveRow) → (Contains (0 ∷ 1 ∷ []) j → ⊥) → slice_get both.live j ≡ Some other → ⊥
    none_outside zero other out there = out (has_first 0 (1 ∷ []))
    none_outside (suc zero) other out there = out (has_later 0 1 (1 ∷ []) (has_first 1 []))
    none_outside (suc (suc j)) other out there = (let f : None ≡ Some other = there in cc)

    free_at : (i : ℕ) (row : LiveRow) → slice_get both.live i ≡ Some row → IsFree both i
    free_at zero row is = nobody_before left_row both.live 0 refl refl
    free_at (suc zero) row is = nobody_before right_row both.live 1 refl refl
    free_at (suc (suc i)) row is = absurd (let f : None ≡ Some row = is in cc)

-- ---- one that asks for b, and one behind it that asks for a

abbrev first_row : LiveRow
first_row = row_of (one_of (1 ∷ [])) [] (2 ∷ [])

abbrev behind_row : LiveRow
behind_row = row_of (two_of (0 ∷ [])) (0 ∷ []) (2 ∷ [])

abbrev waiting : Front
waiting = front_of (first_row ∷ behind_row ∷ [])

-- the one that waits is not closed without the one that it waits for
waiting_alone : IsClosedSet (IsListed reached) waiting (1 ∷ []) → ⊥
waiting_alone closed =
    elim (closed.behind 1 behind_row (has_first 1 []) refl) [
      | inl free ↦
          let same : behind_row ≡ free.row = (let f : Some behind_row ≡ Some free.row = free.is in cc) in
          free.none 0 (omega arith) (subst (λ (l : LiveRow). Contains l.before 0) same (has_first 0 []))
      | inr j ↦ elim (first_or_later 1 j.0 [] j.1) [
        | inl e ↦ elim (first_or_later 0 j.0 [] j.2) [
          | inl f ↦ omega (arith, e, f)
          | inr later ↦ none_in_none j.0 later
        ]
        | inr later ↦ none_in_none j.0 later
      ]
    ]

-- the first one is closed: it asks for no cown of the other
first_alone : IsClosedSet (IsListed reached) waiting (0 ∷ [])
first_alone = record {
  some = (0, has_first 0 [], nobody_before first_row waiting.live 0 refl refl);
  apart = λ i j c row other wish far rest inside free is wishes out there has among reached_too.
      elim (first_or_later 0 i [] inside) [
        | inl e ↦ at_first i c row wish rest (sym e) is wishes among (far_is j c other far out there has reached_too)
        | inr later ↦ none_in_none i later
      ];
  behind = λ i row inside is.
      elim (first_or_later 0 i [] inside) [
        | inl e ↦ inl (subst (IsFree waiting) e (nobody_before first_row waiting.live 0 refl refl))
        | inr later ↦ absurd (none_in_none i later)
      ];
}
  where
    -- a cown in a footprint outside is a
    of_two : (c : ℕ) (far : Behaviour) → two_of (0 ∷ []) ≡ far → (0 < times c far.cowns) ⊎ IsListed reached far.kind c → 0 ≡ c
    of_two c far e (inl among) = only_one 0 c (subst (λ (z : Behaviour). 0 < times c z.cowns) (sym e) among)
    of_two c far e (inr listed) = absurd (none_in_none c (subst (λ (z : Behaviour). IsListed reached z.kind c) (sym e) listed))

    far_is : (j c : ℕ) (other : LiveRow) (far : Behaviour) → (Contains (0 ∷ []) j → ⊥) → slice_get waiting.live j ≡ Some other
        → Contains other.wishes far → (0 < times c far.cowns) ⊎ IsListed reached far.kind c → 0 ≡ c
    far_is zero c other far out there has reached_too = absurd (out (has_first 0 []))
    far_is (suc zero) c other far out there has reached_too =
        let same : behind_row ≡ other = (let f : Some behind_row ≡ Some other = there in cc) in
        elim (first_or_later (two_of (0 ∷ [])) far [] (subst (λ (l : LiveRow). Contains l.wishes far) (sym same) has)) [
          | inl e ↦ of_two c far e reached_too
          | inr later ↦ absurd (none_in_none far later)
        ]
    far_is (suc (suc j)) c other far out there has reached_too = absurd (let f : None ≡ Some other = there in cc)

    at_first : (i c : ℕ) (row : LiveRow) (wish : Behaviour) (rest : List Behaviour) → i ≡ 0 → slice_get waiting.live i ≡ Some row
        → row.wishes ≡ wish ∷ rest → 0 < times c wish.cowns → 0 ≡ c → ⊥
    at_first i c row wish rest e is wishes among none =
        let same : first_row ≡ row = (let f : Some first_row ≡ Some row = ap (slice_get waiting.live) (sym e) ∙ is in cc) in
        let mine : one_of (1 ∷ []) ≡ wish =
        (let f : one_of (1 ∷ []) ∷ [] ≡ wish ∷ rest = ap (λ (l : LiveRow). l.wishes) same ∙ wishes in cc) in
        omega (arith, only_one 1 c (subst (λ (z : Behaviour). 0 < times c z.cowns) (sym mine) among), none)

-- ---- lists of cowns that make no footprint

-- main's first wish is over the first cown, which is not its own: lists without it make no footprint
nothing_listed : IsFootprint program (IsListed (λ kind. [])) → ⊥
nothing_listed foot =
    let first : Wish = slice_index_or (meant_at program main_behaviour []).wishes 0 (record { kind = 0; offset = 0; args = []; cowns = [] }) in
    elim (foot.cowns main_behaviour [] first (0, omega arith, refl) 0 (omega arith)) [
      | inl h ↦ omega (arith, h)
      | inr h ↦ none_in_none 0 h
    ]
