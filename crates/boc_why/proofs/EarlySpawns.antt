-- Rows of which those of one def spawn as early as they can.
use Rattle.std.proofs.Common.{◌≡◌, ◌⊎◌, inl, inr, ℕ, zero, suc, ◌<◌, ◌≤◌, List, [], ◌∷◌, length}
use Rattle.std.proofs.Common.{Some, refl, ap, sym, ◌∙◌, arith}
use Rattle.std.specs.Prelude.{slice_get, slice_index}
use Rattle.std.proofs.lemmas.Bool.{cases_eq, cases_lt}
use Rattle.boc_runs.specs.declared.rows.Row.{Row}
use Rattle.boc_runs.specs.Rows.{parent_of, offset_of}
use Rattle.boc_runs.proofs.Scaling.{last_exists, last_of_same}
use Rattle.boc_why.specs.Causes.{IsSpawnedBy, AreSpawnedEarly}
use Rattle.boc_why.proofs.EarlierSpawns.{AreSameButOffsets, AreEarlierTo, same_parents, some_row, up_to}

-- as soon as can be, whatever the offset was
abbrev pub at_once : ℕ → ℕ
at_once offset = 0

pub at_once_less : (offset : ℕ) → at_once offset ≤ offset
at_once_less offset = omega arith

module _ (rows : List Row) (defs : List ℕ) (def : ℕ) where
  pub all_early : (n : ℕ) (after : List Row) (lasts : List ℕ) → length rows ≤ n → AreEarlierTo at_once rows defs def n after lasts
      → AreSpawnedEarly rows defs def after
  all_early n after lasts all k = record {
    whole = k.same.whole;
    same = k.same.same;
    early = λ b elder child l. omega (arith, k.early b elder (omega (arith, child.1, all)) child l);
    others = k.others;
  }

  -- ---- there is one such list of rows

  is_spawned : (b : ℕ) → IsSpawnedBy rows defs def b ⊎ (IsSpawnedBy rows defs def b → ⊥)
  is_spawned b = elim (cases_lt 0 b) [
    | inl some ↦ elim (cases_lt b (length rows)) [
      | inl there ↦ elim (cases_eq (slice_index defs (parent_of rows b)) def) [
        | inl own ↦ inl (some, there, own)
        | inr not ↦ inr (λ child. not child.2)
      ]
      | inr out ↦ inr (λ child. omega (arith, out, child.1))
    ]
    | inr none ↦ inr (λ child. omega (arith, none, child.0))
  ]

  module _ (after other : List Row) (s : AreSpawnedEarly rows defs def after) (t : AreSpawnedEarly rows defs def other) where
    same_after : AreSameButOffsets rows after
    same_after = record { whole = s.whole; same = s.same }

    same_other : AreSameButOffsets rows other
    same_other = record { whole = t.whole; same = t.same }

    parents_alike : (r : ℕ) → parent_of other r ≡ parent_of after r
    parents_alike r = same_parents rows other same_other r ∙ sym (same_parents rows after same_after r)

    offset_alike : (n : ℕ) → ((b : ℕ) → b < n → offset_of other b ≡ offset_of after b) → offset_of other n ≡ offset_of after n
    offset_alike n before = elim (is_spawned n) [
      | inl child ↦ (
          let elder = last_exists after n (parent_of rows n) in
          t.early n elder.0 child (last_of_same after other n (parent_of rows n) elder.0 (λ a below. parents_alike a) before elder.1)
          ∙ sym (s.early n elder.0 child elder.1))
      | inr not ↦ t.others n not ∙ sym (s.others n not)
    ]

    offsets_alike : (n b : ℕ) → b < n → offset_of other b ≡ offset_of after b
    offsets_alike zero b below = absurd (omega (arith, below))
    offsets_alike (suc n) b below = elim (up_to b n (omega (arith, below))) [
      | inl e ↦ rw e (offset_alike n (offsets_alike n))
      | inr less ↦ offsets_alike n b less
    ]

    row_alike : (r : ℕ) (y z : Row) → r < length rows → slice_get after r ≡ Some y → slice_get other r ≡ Some z → y ≡ z
    row_alike r y z there e f =
        let x = some_row rows r there in
        let offsets : y.offset ≡ z.offset = rw (e, f) at (sym (offsets_alike (suc r) r (omega arith))) in
        s.same r x.0 y x.1 e ∙ ap (λ (k : ℕ). record x.0 { offset = k }) offsets ∙ sym (t.same r x.0 z x.1 f)

lists_alike : (xs ys : List Row) → length xs ≡ length ys
    → ((r : ℕ) (y z : Row) → r < length xs → slice_get xs r ≡ Some y → slice_get ys r ≡ Some z → y ≡ z) → xs ≡ ys
lists_alike [] [] whole alike = refl
lists_alike [] (y ∷ ys) whole alike = absurd (omega (arith, whole))
lists_alike (x ∷ xs) [] whole alike = absurd (omega (arith, whole))
lists_alike (x ∷ xs) (y ∷ ys) whole alike =
    ap (λ (z : Row). z ∷ xs) (alike 0 x y (omega arith) refl refl)
    ∙ ap (λ (l : List Row). y ∷ l) (lists_alike xs ys (omega (arith, whole)) (λ r u v below e f. alike (suc r) u v (omega (arith, below)) e f))

pub one_early : (rows : List Row) (defs : List ℕ) (def : ℕ) (after other : List Row) → AreSpawnedEarly rows defs def after
    → AreSpawnedEarly rows defs def other → after ≡ other
one_early rows defs def after other s t = lists_alike after other (s.whole ∙ sym t.whole)
    (λ r y z below e f. row_alike rows defs def after other s t r y z (omega (arith, below, s.whole)) e f)
