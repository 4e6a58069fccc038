-- The cowns of a row, as they come to it.
use Rattle.std.proofs.Common.{◌≡◌, ◌≢◌, ◌⊎◌, inl, inr, ℕ, zero, suc, ◌+◌, ◌<◌, ◌≤◌, Bool, true, false, List, [], ◌∷◌, ◌++◌, length, get_or}
use Rattle.std.proofs.Common.{drop, Option, Some, None}
use Rattle.std.proofs.Common.{refl, subst, sym, ap, ◌∙◌, arith}
use Rattle.std.specs.Prelude.{◌==◌, slice_get, slice_index, slice_index_or}
use Rattle.std.specs.List.{Contains}
use Rattle.std.proofs.lemmas.Bool.Decides.{nat_tests}
use Rattle.std.proofs.lemmas.List.{get_or_default, length_push}
use Rattle.std.proofs.lemmas.List.Kept.{AllPairs-from_increasing}
use Rattle.std.proofs.lemmas.List.Elements.{Contains-get_or}
use Rattle.std.proofs.lemmas.Option.{slice_get-get_or}
use Rattle.boc_runs.specs.declared.rows.Row.{Row}
use Rattle.boc_runs.specs.Rows.{IsRows, cowns_of}
use Rattle.boc_uses.specs.declared.uses.Use.{Use}
use Rattle.boc_turns.specs.declared.coming.Coming.{Coming}
use Rattle.boc_turns.specs.Pace.{hold_of}
use Rattle.boc_turns.specs.Turns.{cowns_before, use_at, use_of}
use Rattle.boc_turns.specs.Course.{marked, coming_by, AreComing}
use Rattle.boc_turns.proofs.Pacing.{contains_rest}

pub got_push : {X : Type 0} (xs : List X) (x : X) (k : ℕ) (y : X) → slice_get (xs ++ x ∷ []) k ≡ Some y
    → (slice_get xs k ≡ Some y) ⊎ ((k ≡ length xs) × (x ≡ y))
got_push [] x zero y e = inr (refl, cc)
got_push [] x (suc k) y e = absurd cc
got_push (z ∷ zs) x zero y e = inl e
got_push (z ∷ zs) x (suc k) y e = elim (got_push zs x k y e) [ inl g ↦ inl g | inr (at, same) ↦ inr (omega (arith, at), same) ]

module _ (rows : List Row) (marks : List Bool) (uses : List (Option Use)) (held wrote : List ℕ) (r : ℕ) where
  pub coming_none : (coming : List Coming) → coming ≡ [] → AreComing rows marks uses held wrote r 0 coming
  coming_none coming e = rw e (record { whole = refl; each = λ k x at. absurd cc })

  pub coming_more : (i : ℕ) (coming : List Coming) (x : Coming) → AreComing rows marks uses held wrote r i coming
      → x ≡ coming_by rows held wrote r (slice_index (cowns_of rows r) i)
      (hold_of (marked marks (slice_index (cowns_of rows r) i)) (slice_index_or uses i None))
      → AreComing rows marks uses held wrote r (i + 1) (coming ++ x ∷ [])
  coming_more i coming x are is = record {
    whole = omega (arith, length_push coming x, are.whole);
    each = λ k y at. elim (got_push coming x k y at) [
      | inl before ↦ are.each k y before
      | inr (here, same) ↦ (
          let place : i ≡ k = omega (arith, here, are.whole) in
          sym same ∙ (is ∙ ap (λ (j : ℕ). coming_by rows held wrote r (slice_index (cowns_of rows r) j)
          (hold_of (marked marks (slice_index (cowns_of rows r) j)) (slice_index_or uses j None))) place))
    ];
  }

-- ---- the uses by cown

pub use_has : (cowns : List ℕ) (uses : List (Option Use)) (c : ℕ) (u : Use) → use_at cowns uses c ≡ Some u → Contains cowns c
use_has [] uses c u e = absurd cc
use_has (x ∷ cowns) [] c u e = absurd cc
use_has (x ∷ cowns) (o ∷ uses) c u e = go (λ h. use_has cowns uses c u h) (x == c) refl
  where
    go : (use_at cowns uses c ≡ Some u → Contains cowns c) → (b : Bool) → (x == c) ≡ b → Contains (x ∷ cowns) c
    go rest true t = (let same : x ≡ c = grind (arith, nat_tests) in (0, omega arith, same))
    go rest false t = contains_rest x cowns c (rest (rw t at e))

-- at its place a cown has its use
pub use_there : (cowns : List ℕ) (uses : List (Option Use)) (k : ℕ) → ((i j : ℕ) → i < j → j < length cowns → slice_index cowns i ≢ slice_index cowns j)
    → k < length cowns → k < length uses → use_at cowns uses (slice_index cowns k) ≡ slice_index_or uses k None
use_there [] uses k apart h there = absurd (omega (arith, h))
use_there (x ∷ cowns) [] k apart h there = absurd (omega (arith, there))
use_there (x ∷ cowns) (o ∷ uses) zero apart h there = (let t : (x == x) ≡ true = grind (arith, nat_tests) in rw t)
use_there (x ∷ cowns) (o ∷ uses) (suc k) apart h there =
    let ne : x ≢ slice_index cowns k = apart 0 (suc k) (omega arith) h in
    let t : (x == slice_index cowns k) ≡ false = grind (arith, nat_tests) in
    rw t (use_there cowns uses k (λ i j lt low. apart (suc i) (suc j) (omega (arith, lt)) (omega (arith, low))) (omega (arith, h)) (omega (arith, there)))

module _ (rows : List Row) (hr : IsRows rows) (uses : List (Option Use)) (r : ℕ) (there : r < length rows) where
  pub distinct : (i j : ℕ) → i < j → j < length (cowns_of rows r) → slice_index (cowns_of rows r) i ≢ slice_index (cowns_of rows r) j
  distinct i j lt low same =
      omega (arith, same, AllPairs-from_increasing (cowns_of rows r) (hr.cowns_rise r there) i j 0 lt low)

  module _ (marks : List Bool) (held wrote : List ℕ) (coming : List Coming) (enough : length (cowns_of rows r) ≤ length (drop (cowns_before rows r) uses))
      (are : AreComing rows marks (drop (cowns_before rows r) uses) held wrote r (length (cowns_of rows r)) coming) where
    -- each that comes is one of the row's cowns, with its use
    pub comes_sound : (x : Coming) → Contains coming x
        → Contains (cowns_of rows r) x.cown × (x ≡ coming_by rows held wrote r x.cown (hold_of (marked marks x.cown) (use_of rows uses r x.cown)))
    comes_sound x (k, h, e) =
        let c : ℕ = slice_index (cowns_of rows r) k in
        let low : k < length (cowns_of rows r) = omega (arith, h, are.whole) in
        let at : slice_get coming k ≡ Some x = slice_get-get_or coming k x h ∙ ap (λ (y : Coming). Some y) e in
        let is = are.each k x at in
        let cown : x.cown ≡ c = ap (λ (y : Coming). y.cown) is in
        let u : slice_index_or (drop (cowns_before rows r) uses) k None ≡ use_of rows uses r c =
        sym (use_there (cowns_of rows r) (drop (cowns_before rows r) uses) k distinct low (omega (arith, low, enough))) in (
          subst (Contains (cowns_of rows r)) (sym cown) (Contains-get_or (cowns_of rows r) k 0 low),
          is ∙ (ap (λ (o : Option Use). coming_by rows held wrote r c (hold_of (marked marks c) o)) u
              ∙ ap (λ (d : ℕ). coming_by rows held wrote r d (hold_of (marked marks d) (use_of rows uses r d))) (sym cown)),
        )

    -- each of the row's cowns comes
    pub comes_complete : (c : ℕ) → Contains (cowns_of rows r) c
        → Contains coming (coming_by rows held wrote r c (hold_of (marked marks c) (use_of rows uses r c)))
    comes_complete c (k, h, e) =
        let there : k < length coming = omega (arith, h, are.whole) in
        let d : Coming = coming_by rows held wrote r c (hold_of (marked marks c) (use_of rows uses r c)) in
        let x : Coming = get_or coming k d in
        let has : Contains coming x = Contains-get_or coming k d there in
        let s = comes_sound x has in
        let at : slice_index (cowns_of rows r) k ≡ c = get_or_default (cowns_of rows r) k 0 c h ∙ e in
        let cown : x.cown ≡ c = ap (λ (y : Coming). y.cown) (are.each k x (slice_get-get_or coming k d there)) ∙ at in
        subst (Contains coming) (s.1 ∙ ap (λ (b : ℕ). coming_by rows held wrote r b (hold_of (marked marks b) (use_of rows uses r b))) cown) has
