-- The cowns that a row hands on, gathered in the order of its own.
use Rattle.std.proofs.Common.{◌≡◌, ℕ, ◌+◌, ◌<◌, ◌≤◌, List, [], ◌∷◌, ◌++◌, length, take, get_or, arith, sym, subst, ⊎_elim}
use Rattle.std.specs.Prelude.{◌↔◌, All}
use Rattle.std.specs.List.{Contains}
use Rattle.std.specs.List.Sorted.{IsStrictlyIncreasing}
use Rattle.std.proofs.lemmas.Bool.{cases_lt}
use Rattle.std.proofs.lemmas.List.{get_or_push, get_or_append_left, get_or-take, length_push, take_more, length-take, get_or_default, take_all}
use Rattle.std.proofs.lemmas.List.Elements.{All-contains, Contains-append_left, Contains-push, Contains-push_cases, Contains-get_or}
use Rattle.std.proofs.lemmas.List.Kept.{AllPairs-from_increasing}
use Rattle.boc_runs.specs.declared.rows.Row.{Row}
use Rattle.boc_runs.specs.Rows.{cowns_of}
use Rattle.boc_plans.specs.Plans.{ConflictOn}
use Rattle.boc_order.specs.Handed.{AreHanded}

-- those of some numbers of which something holds, rising
pub record AreThose (T : ℕ → Type 0) (all kept : List ℕ) : Type 0 where
  pub few : length kept ≤ length all
  pub rise : IsStrictlyIncreasing kept
  pub each : (c : ℕ) → Contains kept c ↔ (Contains all c × T c)

-- a number above all others goes to the end
rise_push : (xs : List ℕ) (x : ℕ) → IsStrictlyIncreasing xs → All (λ y. y < x) xs → IsStrictlyIncreasing (xs ++ x ∷ [])
rise_push xs x rise below k h = ⊎_elim
    (λ (l : k + 1 < length xs). rw (get_or_append_left xs (x ∷ []) 0 k (omega arith), get_or_append_left xs (x ∷ []) 0 (k + 1) l) (rise k l))
    (λ (g : length xs ≤ k + 1).
    let e : length xs ≡ k + 1 = omega (arith, h, length_push xs x) in
    rw (get_or_append_left xs (x ∷ []) 0 k (omega arith), get_or_push xs x 0 (k + 1) e) (below k 0 (omega arith)))
    (cases_lt (k + 1) (length xs))

-- the numbers before one in a list that rises
below_next : (cs : List ℕ) (k : ℕ) → k < length cs → IsStrictlyIncreasing cs → All (λ y. y < get_or cs k 0) (take k cs)
below_next cs k h rise i d l =
    let m : i < k = omega (arith, l, length-take k cs) in
    rw (get_or-take k cs i d m) (subst (λ (z : ℕ). get_or cs i d < z) (get_or_default cs k d 0 h) (AllPairs-from_increasing cs rise i k d m h))

-- the next number is one of them
pub those_more : (T : ℕ → Type 0) (cs kept : List ℕ) (k : ℕ) → k < length cs → IsStrictlyIncreasing cs → AreThose T (take k cs) kept
    → T (get_or cs k 0) → AreThose T (take (k + 1) cs) (kept ++ get_or cs k 0 ∷ [])
those_more T cs kept k h rise a t =
    let x : ℕ = get_or cs k 0 in
    rw (take_more cs k 0 h) (record {
      few = omega (arith, a.few, length_push kept x, length_push (take k cs) x);
      rise = rise_push kept x a.rise (λ i d l. All-contains (λ y. y < x) (take k cs) (get_or kept i d) (below_next cs k h rise)
          ((a.each (get_or kept i d)).0 (Contains-get_or kept i d l)).0);
      each = λ c. (
        λ m. ⊎_elim (λ (o : Contains kept c). (Contains-append_left (take k cs) (x ∷ []) c ((a.each c).0 o).0, ((a.each c).0 o).1))
            (λ (e : x ≡ c). (subst (Contains (take k cs ++ x ∷ [])) e (Contains-push (take k cs) x), subst T e t)) (Contains-push_cases kept x c m),
        λ m. ⊎_elim (λ (o : Contains (take k cs) c). Contains-append_left kept (x ∷ []) c ((a.each c).1 (o, m.1)))
            (λ (e : x ≡ c). subst (Contains (kept ++ x ∷ [])) e (Contains-push kept x)) (Contains-push_cases (take k cs) x c m.0),
      );
    })

-- the next number is none of them
pub those_same : (T : ℕ → Type 0) (cs kept : List ℕ) (k : ℕ) → k < length cs → AreThose T (take k cs) kept → (T (get_or cs k 0) → ⊥)
    → AreThose T (take (k + 1) cs) kept
those_same T cs kept k h a none =
    let x : ℕ = get_or cs k 0 in
    rw (take_more cs k 0 h) (record {
      few = omega (arith, a.few, length_push (take k cs) x);
      rise = a.rise;
      each = λ c. (
        λ m. (Contains-append_left (take k cs) (x ∷ []) c ((a.each c).0 m).0, ((a.each c).0 m).1),
        λ m. ⊎_elim (λ (o : Contains (take k cs) c). (a.each c).1 (o, m.1))
            (λ (e : x ≡ c). absurd (none (subst T (sym e) m.1))) (Contains-push_cases (take k cs) x c m.0),
      );
    })

-- all of them have been looked at
pub those_all : (T : ℕ → Type 0) (seen cs kept : List ℕ) (k : ℕ) → seen ≡ cs → length seen ≤ k → AreThose T (take k cs) kept → AreThose T cs kept
those_all T seen cs kept k e h a = subst (λ (all : List ℕ). AreThose T all kept) (take_all k cs (subst (λ (xs : List ℕ). length xs ≤ k) e h)) a

-- what is handed is those of a row's cowns on which it conflicts
pub handed_from_those : (rows : List Row) (a b : ℕ) (kept : List ℕ) → AreThose (λ c. ConflictOn rows c a b) (cowns_of rows a) kept → AreHanded rows a b kept
handed_from_those rows a b kept h = record {
  rise = h.rise;
  each = λ c. (λ m. ((h.each c).0 m).1, λ t. (h.each c).1 (t.first, t));
}
