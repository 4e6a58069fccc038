-- The first rows with each code.
use Rattle.std.proofs.Common.{◌≡◌, ◌≢◌, ℕ, ◌+◌, ◌<◌, ◌≤◌, List, [], ◌∷◌, ◌++◌, length, arith, sym, ap, subst, ◌∙◌}
use Rattle.std.proofs.Common.{⊎_elim, refl, Option, Some, None, cond, eqb, true, false}
use Rattle.std.specs.Prelude.{slice_index, MatchOption}
use Rattle.std.specs.Option.{unwrap_or}
use Rattle.std.proofs.lemmas.Bool.{cases_lt}
use Rattle.std.proofs.lemmas.Bool.Decides.{eqb_tells}
use Rattle.std.proofs.lemmas.List.{length_push, get_or_push, get_or_append_left}
use Rattle.boc_runs.specs.declared.rows.Row.{Row}
use Rattle.boc_eager.specs.Kinds.{AreKinds, kind_code}

-- the first row with a code
pub record IsFirstWith (code : ℕ → ℕ) (x n first : ℕ) : Type 0 where
  pub there : first < n
  pub same : code first ≡ x
  pub none_before : (j : ℕ) → j < first → code j ≢ x

-- none of the first n rows has the code
abbrev pub HasNone : (ℕ → ℕ) → ℕ → ℕ → Type 0
HasNone code n x = (j : ℕ) → j < n → code j ≢ x

-- the first rows with the codes of the first n rows
pub record HasFirsts (code : ℕ → ℕ) (n : ℕ) (known : ℕ → Option ℕ) (firsts : List ℕ) : Type 0 where
  pub many : length firsts ≡ n
  pub at : (k : ℕ) → k < n → IsFirstWith code (code k) n (slice_index firsts k)
  pub knows : (x : ℕ) → MatchOption (known x) (HasNone code n x) (IsFirstWith code x n)

module _ (code : ℕ → ℕ) (n : ℕ) where
  later_on : (x first : ℕ) → IsFirstWith code x n first → IsFirstWith code x (n + 1) first
  later_on x first f = record { there = omega (arith, f.there); same = f.same; none_before = f.none_before }

  first_is : (o : Option ℕ) → MatchOption o (HasNone code n (code n)) (IsFirstWith code (code n) n) → IsFirstWith code (code n) (n + 1) (unwrap_or o n)
  first_is None none = record { there = omega arith; same = refl; none_before = none }
  first_is (Some first) known = later_on (code n) first known

  others_stay : (x : ℕ) → x ≢ code n → (o : Option ℕ) → MatchOption o (HasNone code n x) (IsFirstWith code x n)
      → MatchOption o (HasNone code (n + 1) x) (IsFirstWith code x (n + 1))
  others_stay x apart None none = λ j h e. ⊎_elim (λ (l : j < n). none j l e)
      (λ (g : n ≤ j). apart (sym e ∙ ap code (omega arith))) (cases_lt j n)
  others_stay x apart (Some first) known = later_on x first known

  pub firsts_more : (known new : ℕ → Option ℕ) (firsts : List ℕ) (first : ℕ) → HasFirsts code n known firsts → first ≡ unwrap_or (known (code n)) n
      → ((q : ℕ) → new q ≡ cond (eqb q (code n)) (Some first) (known q)) → HasFirsts code (n + 1) new (firsts ++ first ∷ [])
  firsts_more known new firsts first has is now =
      let fresh : IsFirstWith code (code n) (n + 1) first = subst (IsFirstWith code (code n) (n + 1)) (sym is)
      (first_is (known (code n)) (has.knows (code n))) in
      record {
        many = omega (arith, has.many, length_push firsts first);
        at = λ k l. ⊎_elim
            (λ (b : k < n). subst (IsFirstWith code (code k) (n + 1)) (sym (get_or_append_left firsts (first ∷ []) 0 k (omega (arith, has.many))))
            (later_on (code k) (slice_index firsts k) (has.at k b)))
            (λ (g : n ≤ k). let e : n ≡ k = omega (arith, l) in
            subst (λ (m : ℕ). IsFirstWith code (code m) (n + 1) (slice_index (firsts ++ first ∷ []) m)) e
            (subst (IsFirstWith code (code n) (n + 1)) (sym (get_or_push firsts first 0 n has.many)) fresh))
            (cases_lt k n);
        knows = λ q. subst (λ (o : Option ℕ). MatchOption o (HasNone code (n + 1) q) (IsFirstWith code q (n + 1))) (sym (now q)) (⊎_elim
            (λ (same : (eqb q (code n) ≡ true) × (q ≡ code n)). rw same.0 (subst (λ (x : ℕ). IsFirstWith code x (n + 1) first) (sym same.1) fresh))
            (λ (apart : (eqb q (code n) ≡ false) × (q ≢ code n)). rw apart.0 (others_stay q apart.1 (known q) (has.knows q)))
            (eqb_tells q (code n)));
      }

pub kinds_from_firsts : (rows : List Row) (n : ℕ) (known : ℕ → Option ℕ) (firsts : List ℕ) → n ≡ length rows → HasFirsts (kind_code rows) n known firsts
    → AreKinds rows firsts
kinds_from_firsts rows n known firsts all has = record {
  whole = has.many ∙ all;
  below = λ r h. (let f = has.at r (omega (arith, h, all)) in omega (arith, f.there, all));
  each = λ a b ha hb.
      let fa = has.at a (omega (arith, ha, all)) in
      let fb = has.at b (omega (arith, hb, all)) in (
        λ e. sym fa.same ∙ (ap (kind_code rows) e ∙ fb.same),
        λ e. one (kind_code rows) n (kind_code rows a) (slice_index firsts a) (slice_index firsts b) fa
            (subst (λ (x : ℕ). IsFirstWith (kind_code rows) x n (slice_index firsts b)) (sym e) fb),
      );
}
  where
    one : (code : ℕ → ℕ) (n x p q : ℕ) → IsFirstWith code x n p → IsFirstWith code x n q → p ≡ q
    one code n x p q f g = ⊎_elim (λ (l : p < q). absurd (g.none_before p l f.same))
        (λ (ge : q ≤ p). ⊎_elim (λ (l : q < p). absurd (f.none_before q l g.same)) (λ (le : p ≤ q). omega (arith, ge, le)) (cases_lt q p)) (cases_lt p q)
