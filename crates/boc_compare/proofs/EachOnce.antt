-- Numbers, each once.
use Rattle.std.proofs.Common.{◌≡◌, ◌≢◌, ℕ, ◌+◌, ◌<◌, ◌≤◌, List, [], ◌∷◌, ◌++◌, length, set, drop, get_or, eqb, Bool, true, false}
use Rattle.std.proofs.Common.{refl, ap, sym, ◌∙◌, subst, arith, append_assoc, ⊎_elim}
use Rattle.std.specs.Prelude.{nat_eq, replicate}
use Rattle.std.specs.List.{AllByRecursion, list_any}
use Rattle.std.proofs.lemmas.Bool.Decides.{eqb_tells}
use Rattle.std.proofs.lemmas.Bool.{cond_both}
use Rattle.std.proofs.lemmas.List.{append-nil, drop_all, drop_more, get_or-replicate, get_or-set_same, get_or-set_other, length-replicate, length-set}
use Rattle.boc_compare.specs.Totalled.{each_once, not_seen}

-- the numbers behind the first n are still to come, and the table tells which were seen
pub record OnceSoFar (numbers : List ℕ) (bound n : ℕ) (table : List Bool) (once : List ℕ) : Type 0 where
  pub seen : List ℕ
  pub whole : length table ≡ bound
  pub at : (k : ℕ) → k < bound → get_or table k false ≡ list_any (nat_eq k) seen
  pub rest : once ++ not_seen seen (drop n numbers) ≡ each_once numbers

pub none_seen : (numbers : List ℕ) (bound : ℕ) (table : List Bool) (once : List ℕ) → table ≡ replicate bound false → once ≡ []
    → OnceSoFar numbers bound 0 table once
none_seen numbers bound table once is none = record {
  seen = [];
  whole = ap (length {A = Bool}) is ∙ length-replicate bound false;
  at = λ k h. ap (λ (t : List Bool). get_or t k false) is ∙ get_or-replicate bound k false false h;
  rest = ap (λ (l : List ℕ). l ++ each_once numbers) none;
}

new_next : (seen rest : List ℕ) (x : ℕ) → list_any (nat_eq x) seen ≡ false → not_seen seen (x ∷ rest) ≡ x ∷ not_seen (x ∷ seen) rest
new_next seen rest x e = rw e refl

old_next : (seen rest : List ℕ) (x : ℕ) → list_any (nat_eq x) seen ≡ true → not_seen seen (x ∷ rest) ≡ not_seen seen rest
old_next seen rest x e = rw e refl

module _ (numbers : List ℕ) (bound n : ℕ) (table : List Bool) (once : List ℕ) (x : ℕ) (there : n < length numbers) (is : x ≡ get_or numbers n 0)
    (below : x < bound) (so : OnceSoFar numbers bound n table once) where
  next_is : drop n numbers ≡ x ∷ drop (n + 1) numbers
  next_is = drop_more numbers n 0 there ∙ ap (λ (y : ℕ). y ∷ drop (n + 1) numbers) (sym is)

  table_put : (q : ℕ) → q < bound → get_or (set table x true) q false ≡ list_any (nat_eq q) (x ∷ so.seen)
  table_put q h = ⊎_elim
      (λ (same : (eqb q x ≡ true) × (q ≡ x)). rw same.0
      (subst (λ (y : ℕ). get_or (set table x true) y false ≡ true) (sym same.1) (get_or-set_same table x true false (omega (arith, so.whole, below)))))
      (λ (apart : (eqb q x ≡ false) × (q ≢ x)). rw apart.0 (get_or-set_other table x q true false apart.1 ∙ so.at q h))
      (eqb_tells q x)

  -- a number that is new
  pub once_new : get_or table x false ≡ false → OnceSoFar numbers bound (n + 1) (set table x true) (once ++ x ∷ [])
  once_new fresh = record {
    seen = x ∷ so.seen;
    whole = length-set table x true ∙ so.whole;
    at = table_put;
    rest = append_assoc once (x ∷ []) (not_seen (x ∷ so.seen) (drop (n + 1) numbers))
        ∙ ap (λ (l : List ℕ). once ++ l) (sym (new_next so.seen (drop (n + 1) numbers) x (sym (so.at x below) ∙ fresh)))
        ∙ ap (λ (l : List ℕ). once ++ not_seen so.seen l) (sym next_is)
        ∙ so.rest;
  }

  -- a number that was seen
  pub once_old : get_or table x false ≡ true → OnceSoFar numbers bound (n + 1) table once
  once_old was = record {
    seen = so.seen;
    whole = so.whole;
    at = so.at;
    rest = ap (λ (l : List ℕ). once ++ l) (sym (old_next so.seen (drop (n + 1) numbers) x (sym (so.at x below) ∙ was)))
        ∙ ap (λ (l : List ℕ). once ++ not_seen so.seen l) (sym next_is)
        ∙ so.rest;
  }

pub all_once : (numbers : List ℕ) (bound n : ℕ) (table : List Bool) (once : List ℕ) → length numbers ≤ n → OnceSoFar numbers bound n table once
    → once ≡ each_once numbers
all_once numbers bound n table once long so =
    sym (append-nil once) ∙ ap (λ (l : List ℕ). once ++ not_seen so.seen l) (sym (drop_all n numbers long)) ∙ so.rest

-- what holds of numbers holds of them each once
not_seen_all : (P : ℕ → Type 0) (seen numbers : List ℕ) → AllByRecursion P numbers → AllByRecursion P (not_seen seen numbers)
not_seen_all P seen [] all = tt
not_seen_all P seen (n ∷ numbers) all =
    cond_both (list_any (nat_eq n) seen) (not_seen seen numbers) (n ∷ not_seen (n ∷ seen) numbers) (AllByRecursion P)
    (λ e. not_seen_all P seen numbers all.1) (λ e. (all.0, not_seen_all P (n ∷ seen) numbers all.1))

pub once_all : (P : ℕ → Type 0) (numbers : List ℕ) → AllByRecursion P numbers → AllByRecursion P (each_once numbers)
once_all P numbers all = not_seen_all P [] numbers all
