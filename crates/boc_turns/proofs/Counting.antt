-- How many cowns the rows before a row have.
use Rattle.std.proofs.Common.{◌≡◌, ℕ, zero, suc, ◌+◌, ◌-◌, ◌<◌, ◌≤◌, List, [], ◌∷◌, length, get_or, take, drop, Option, Some, refl, subst, ap, ◌∙◌, arith}
use Rattle.std.specs.Prelude.{slice_get}
use Rattle.std.proofs.lemmas.List.{length-drop, take_all}
use Rattle.std.proofs.lemmas.List.Sums.{sum_by_more}
use Rattle.std.proofs.lemmas.Option.{slice_get-get_or}
use Rattle.boc_runs.specs.declared.rows.Row.{Row}
use Rattle.boc_runs.specs.Rows.{cowns_of}
use Rattle.boc_uses.specs.declared.uses.Use.{Use}
use Rattle.boc_turns.specs.Turns.{cowns_before, AreUses}

module _ (rows : List Row) where
  pub before_more : (n : ℕ) → n < length rows → cowns_before rows (n + 1) ≡ cowns_before rows n + length (cowns_of rows n)
  before_more n there = more rows n there
    where
      more : (list : List Row) (n : ℕ) → n < length list → cowns_before list (n + 1) ≡ cowns_before list n + length (cowns_of list n)
      more [] n there = absurd (omega (arith, there))
      more (x ∷ xs) n there =
          let f : Row → ℕ = λ (y : Row). length y.cowns.items in
          let here : slice_get (x ∷ xs) n ≡ Some (get_or (x ∷ xs) n x) = slice_get-get_or (x ∷ xs) n x there in
          let cowns : length (cowns_of (x ∷ xs) n) ≡ f (get_or (x ∷ xs) n x) = rw here refl in
          omega (arith, cowns, sum_by_more f (x ∷ xs) n x there)

  pub before_le : (d a b : ℕ) → a + d ≡ b → b ≤ length rows → cowns_before rows a ≤ cowns_before rows b
  before_le zero a b e there =
      let same : a ≡ b = omega (arith, e) in
      subst (λ (k : ℕ). cowns_before rows a ≤ cowns_before rows k) same (omega arith)
  before_le (suc d) a b e there =
      let same : a + d + 1 ≡ b = omega (arith, e) in
      let step = before_more (a + d) (omega (arith, e, there)) in
      let low = before_le d a (a + d) refl (omega (arith, e, there)) in
      subst (λ (k : ℕ). cowns_before rows a ≤ cowns_before rows k) same (omega (arith, step, low))

  module _ (uses : List (Option Use)) (are : AreUses rows uses) (n : ℕ) (there : n < length rows) where
    own_within : cowns_before rows n + length (cowns_of rows n) ≤ length uses
    own_within =
        let up = before_le (length rows - (n + 1)) (n + 1) (length rows) (omega (arith, there)) (omega arith) in
        omega (arith, up, before_more n there, are.whole)

    pub passed_within : (passed : ℕ) → passed ≡ cowns_before rows n → passed ≤ length uses
    passed_within passed is = omega (arith, is, own_within)

    pub own_enough : length (cowns_of rows n) ≤ length (drop (cowns_before rows n) uses)
    own_enough = omega (arith, own_within, length-drop (cowns_before rows n) uses)

    pub part_is : (passed : ℕ) → passed ≡ cowns_before rows n → take (length uses - passed) (drop passed uses) ≡ drop (cowns_before rows n) uses
    part_is passed is = ap (λ (k : ℕ). take (length uses - k) (drop k uses)) is
        ∙ take_all (length uses - cowns_before rows n) (drop (cowns_before rows n) uses) (omega (arith, length-drop (cowns_before rows n) uses))
