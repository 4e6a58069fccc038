-- Marks that are set, one after the other.
use Rattle.std.proofs.Common.{◌≡◌, ℕ, zero, suc, ◌+◌, ◌<◌, ◌≤◌, ◌↔◌, ◌⊎◌, List, [], ◌∷◌, ◌++◌, length, get_or, take, sym, ◌∙◌, subst, inl, inr, arith, get_or-set_same, get_or-set_other}
use Rattle.std.specs.Prelude.{Bool, true, false, slice_set}
use Rattle.std.specs.List.{Contains}
use Rattle.std.proofs.lemmas.Bool.{cases_eq}
use Rattle.std.proofs.lemmas.List.{take_more, take_all, get_or_default}
use Rattle.std.specs.Prelude.{replicate}
use Rattle.std.proofs.lemmas.List.Elements.{Contains-append_left, Contains-push, Contains-push_cases, Contains-get_or}
use Rattle.boc_stalled.specs.Stalled.{IsMarked, HasMarked}

-- one more mark
set_marked : (marks : List Bool) (k c : ℕ) → k < length marks → IsMarked (slice_set marks k true) c ↔ (IsMarked marks c ⊎ (c ≡ k))
set_marked marks k c less = elim (cases_eq c k) [
  | inl e ↦ ((λ _. inr e), (λ _. subst (λ (x : ℕ). IsMarked (slice_set marks k true) x) (sym e) (get_or-set_same marks k true false less)))
  | inr n ↦
      let o : get_or (slice_set marks k true) c false ≡ get_or marks c false = get_or-set_other marks k c true false n in
      ((λ m. inl (sym o ∙ m)), (λ h. elim h [ inl m ↦ o ∙ m | inr e ↦ absurd (n e) ]))
]

-- one more item
taken_more : (xs : List ℕ) (i c : ℕ) → i < length xs → Contains (take (i + 1) xs) c ↔ (Contains (take i xs) c ⊎ (get_or xs i 0 ≡ c))
taken_more xs i c less =
    let x = get_or xs i 0 in
    let e = take_more xs i 0 less in (
      (λ h. Contains-push_cases (take i xs) x c (subst (λ (l : List ℕ). Contains l c) e h)),
      (λ h. subst (λ (l : List ℕ). Contains l c) (sym e) (elim h [
        | inl k ↦ Contains-append_left (take i xs) (x ∷ []) c k
        | inr k ↦ subst (λ (y : ℕ). Contains (take i xs ++ x ∷ []) y) k (Contains-push (take i xs) x)
      ])),
    )

-- the marks are those of before, and of these cowns
abbrev pub AreMarksOf : List Bool → List ℕ → List Bool → Type 0
AreMarksOf old cowns now = (c : ℕ) → IsMarked now c ↔ (IsMarked old c ⊎ Contains cowns c)

pub marks_none : (old : List Bool) (xs : List ℕ) → AreMarksOf old (take 0 xs) old
marks_none old xs c = ((λ m. inl m), (λ h. elim h [ inl m ↦ m | inr k ↦ absurd (let f : k.0 < 0 = k.1 in omega arith) ]))

pub marks_more : (old now : List Bool) (xs : List ℕ) (i : ℕ) → i < length xs → get_or xs i 0 < length now → AreMarksOf old (take i xs) now
    → AreMarksOf old (take (i + 1) xs) (slice_set now (get_or xs i 0) true)
marks_more old now xs i less within m c =
    let s = set_marked now (get_or xs i 0) c within in
    let t = taken_more xs i c less in (
      (λ h. elim (s.0 h) [
        | inl b ↦ elim ((m c).0 b) [ inl o ↦ inl o | inr k ↦ inr (t.1 (inl k)) ]
        | inr e ↦ inr (t.1 (inr (sym e)))
      ]),
      (λ h. elim h [
        | inl o ↦ s.1 (inl ((m c).1 (inl o)))
        | inr k ↦ elim (t.0 k) [ inl before ↦ s.1 (inl ((m c).1 (inr before))) | inr e ↦ s.1 (inr (sym e)) ]
      ]),
    )

pub marks_all : (old now : List Bool) (xs : List ℕ) (n : ℕ) → length xs ≤ n → AreMarksOf old (take n xs) now → AreMarksOf old xs now
marks_all old now xs n all m = subst (λ (l : List ℕ). AreMarksOf old l now) (take_all n xs all) m

-- no cown is marked where none is of those that are there
pub none_marked : (marks : List Bool) (xs : List ℕ) → ((k : ℕ) → k < length xs → IsMarked marks (get_or xs k 0) → ⊥) → HasMarked marks xs → ⊥
none_marked marks xs none h =
    let at = h.1 in
    none at.0 at.1 (subst (IsMarked marks) (sym (get_or_default xs at.0 0 h.0 at.1 ∙ at.2)) h.2)

pub one_marked : (marks : List Bool) (xs : List ℕ) (i : ℕ) → i < length xs → IsMarked marks (get_or xs i 0) → HasMarked marks xs
one_marked marks xs i less m = (get_or xs i 0, Contains-get_or xs i 0 less, m)

-- an item of no list
pub none_contains : (xs : List ℕ) (c : ℕ) → xs ≡ [] → Contains xs c → ⊥
none_contains xs c e h = let k : Contains [] c = subst (λ (l : List ℕ). Contains l c) e h in let f : k.0 < 0 = k.1 in omega arith

-- of so many cowns, none of which is marked, none is
pub unmarked : (n c : ℕ) → IsMarked (replicate n false) c → ⊥
unmarked zero c m = absurd (let f : false ≡ true = m in cc)
unmarked (suc n) zero m = absurd (let f : false ≡ true = m in cc)
unmarked (suc n) (suc c) m = unmarked n c m
