-- How rows hold their cowns, one cown after another.
use Rattle.std.proofs.Common.{◌≡◌, inl, inr, ℕ, zero, suc, ◌+◌, ◌<◌, ◌≤◌, Bool, cond, List, [], ◌∷◌, ◌++◌, length, drop}
use Rattle.std.proofs.Common.{Option, Some, None, refl, subst, sym, ap, ◌∙◌, arith}
use Rattle.std.specs.Prelude.{slice_get, slice_index, slice_index_or}
use Rattle.std.specs.List.{Contains}
use Rattle.std.proofs.lemmas.Bool.{cases_eq}
use Rattle.std.proofs.lemmas.List.{get_or-drop, get_or_default, length_push, length-drop}
use Rattle.std.proofs.lemmas.Option.{get_or_from_slice_get}
use Rattle.boc_runs.specs.declared.rows.Row.{Row}
use Rattle.boc_runs.specs.Rows.{IsRows, ticks_of, cowns_of}
use Rattle.boc_order.proofs.Found.{among_tells}
use Rattle.boc_uses.specs.declared.uses.Use.{Use}
use Rattle.boc_turns.specs.Turns.{cowns_before, use_of, AreUses}
use Rattle.boc_turns.specs.Course.{marked}
use Rattle.boc_turns.proofs.Counting.{before_more, own_enough}
use Rattle.boc_turns.proofs.Gathering.{use_has, use_there, distinct}
use Rattle.boc_used_greedy.specs.Holds.{hold_by, hold}
use Rattle.boc_used_greedy.proofs.Leaving.{one_or_none}

-- the use of a cown of a row at its place
pub use_placed : (rows : List Row) → IsRows rows → (uses : List (Option Use)) → (r k c : ℕ) → r < length rows
    → length (cowns_of rows r) ≤ length (drop (cowns_before rows r) uses) → k < length (cowns_of rows r) → slice_index (cowns_of rows r) k ≡ c
    → use_of rows uses r c ≡ slice_index_or uses (cowns_before rows r + k) None
use_placed rows hr uses r k c there enough low at =
    let is = use_there (cowns_of rows r) (drop (cowns_before rows r) uses) k (distinct rows hr uses r there) low (omega (arith, low, enough)) in
    ap (use_of rows uses r) (sym at) ∙ (is ∙ get_or-drop (cowns_before rows r) uses k None)

-- how a row holds its cown of this place
abbrev pub held_at : List Row → List (Option Use) → List Bool → ℕ → ℕ → Option Use
held_at rows uses marks r k = hold_by (marked marks (slice_index (cowns_of rows r) k)) (slice_index_or uses (cowns_before rows r + k) None) (ticks_of rows r)

-- the cowns of the rows before one are noted, and its first n cowns
pub record AreHeldTo (rows : List Row) (uses : List (Option Use)) (marks : List Bool) (row n : ℕ) (all : List (Option Use)) : Type 0 where
  pub whole : length all ≡ cowns_before rows row + n
  pub before : (r k : ℕ) → r < row → k < length (cowns_of rows r) → slice_get all (cowns_before rows r + k) ≡ Some (held_at rows uses marks r k)
  pub own : (k : ℕ) → k < n → slice_get all (cowns_before rows row + k) ≡ Some (held_at rows uses marks row k)

module _ (rows : List Row) (hr : IsRows rows) (uses : List (Option Use)) (are : AreUses rows uses) (marks : List Bool) where
  get_more : (all : List (Option Use)) (x : Option Use) (k : ℕ) (y : Option Use) → slice_get all k ≡ Some y → slice_get (all ++ x ∷ []) k ≡ Some y
  get_more [] x k y e = absurd cc
  get_more (z ∷ all) x zero y e = e
  get_more (z ∷ all) x (suc k) y e = get_more all x k y e

  get_last : (all : List (Option Use)) (x : Option Use) → slice_get (all ++ x ∷ []) (length all) ≡ Some x
  get_last [] x = refl
  get_last (z ∷ all) x = get_last all x

  pub held_none : (all : List (Option Use)) → all ≡ [] → AreHeldTo rows uses marks 0 0 all
  held_none all e = rw e (record { whole = refl; before = λ r k lt. absurd (omega (arith, lt)); own = λ k lt. absurd (omega (arith, lt)) })

  pub held_more : (row n : ℕ) (all : List (Option Use)) (x : Option Use) → AreHeldTo rows uses marks row n all → x ≡ held_at rows uses marks row n
      → AreHeldTo rows uses marks row (n + 1) (all ++ x ∷ [])
  held_more row n all x h is = record {
    whole = omega (arith, length_push all x, h.whole);
    before = λ r k lt low. get_more all x _ _ (h.before r k lt low);
    own = λ k lt. elim (cases_eq k n) [
      | inl e ↦ (
          let place : cowns_before rows row + k ≡ length all = omega (arith, h.whole, e) in
          ap (slice_get (all ++ x ∷ [])) place ∙ (get_last all x ∙ ap (λ (o : Option Use). Some o) (is ∙ ap (held_at rows uses marks row) (sym e))))
      | inr ne ↦ get_more all x _ _ (h.own k (omega (arith, lt, ne)))
    ];
  }

  pub held_next : (row : ℕ) (all : List (Option Use)) (n : ℕ) → row < length rows → n ≡ length (cowns_of rows row) → AreHeldTo rows uses marks row n all
      → AreHeldTo rows uses marks (row + 1) 0 all
  held_next row all n there is h = record {
    whole = omega (arith, h.whole, is, before_more rows row there);
    before = λ r k lt low. elim (cases_eq r row) [
      | inl e ↦ subst (λ (x : ℕ). slice_get all (cowns_before rows x + k) ≡ Some (held_at rows uses marks x k)) (sym e)
          (h.own k (omega (arith, low, is, ap (λ (x : ℕ). length (cowns_of rows x)) e)))
      | inr ne ↦ h.before r k (omega (arith, lt, ne)) low
    ];
    own = λ k lt. absurd (omega (arith, lt));
  }

  module _ (all : List (Option Use)) (h : AreHeldTo rows uses marks (length rows) 0 all) where
    enough : (r : ℕ) → r < length rows → length (cowns_of rows r) ≤ length (drop (cowns_before rows r) all)
    enough r there =
        let own = own_enough rows uses are r there in
        omega (arith, own, length-drop (cowns_before rows r) uses, length-drop (cowns_before rows r) all, h.whole, are.whole)

    held_own : (r c : ℕ) → r < length rows → Contains (cowns_of rows r) c
        → use_of rows all r c ≡ hold_by (marked marks c) (use_of rows uses r c) (ticks_of rows r)
    held_own r c there (k, low, e) =
        let at : slice_index (cowns_of rows r) k ≡ c = get_or_default (cowns_of rows r) k 0 c low ∙ e in
        let here : slice_index_or all (cowns_before rows r + k) None ≡ held_at rows uses marks r k =
        get_or_from_slice_get all (cowns_before rows r + k) _ None (h.before r k there low) in
        let own = use_placed rows hr uses r k c there (own_enough rows uses are r there) low at in
        use_placed rows hr all r k c there (enough r there) low at ∙ (here
        ∙ (ap (λ (x : ℕ). hold_by (marked marks x) (slice_index_or uses (cowns_before rows r + k) None) (ticks_of rows r)) at
        ∙ ap (λ (o : Option Use). hold_by (marked marks c) o (ticks_of rows r)) (sym own)))

    pub each : (r c : ℕ) → r < length rows → use_of rows all r c ≡ hold rows uses (marked marks) r c
    each r c there = elim (among_tells c (cowns_of rows r)) [
      | inl (e, has) ↦ held_own r c there has ∙ sym (ap (λ (b : Bool). cond b (hold_by (marked marks c) (use_of rows uses r c) (ticks_of rows r)) None) e)
      | inr (e, none) ↦ elim (one_or_none (use_of rows all r c)) [
        | inl n ↦ n ∙ sym (ap (λ (b : Bool). cond b (hold_by (marked marks c) (use_of rows uses r c) (ticks_of rows r)) None) e)
        | inr (u, is) ↦ absurd (none (use_has (cowns_of rows r) _ c u is))
      ]
    ]
