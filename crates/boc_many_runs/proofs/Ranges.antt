-- Loops over the numbers below a bound: a step of each.
use Rattle.std.proofs.Common.{◌≡◌, ◌∙◌, ℕ, zero, suc, ◌+◌, ◌<◌, Bool, true, false, not, ◌&&◌, List, [], ◌∷◌, ◌++◌, map, arith, refl, ap, sym, subst, cond}
use Rattle.std.specs.List.{All, fold, filter, list_all, list_any, range_with_len}
use Rattle.std.proofs.lemmas.List.Elements.{All-push, All-same, filter-append}
use Rattle.std.proofs.lemmas.List.Folds.{list_all-append, list_any-append}
use Rattle.std.proofs.lemmas.List.Sums.{fold-append}
use Rattle.std.proofs.lemmas.List.{append-nil}
use Rattle.std.proofs.lemmas.List.FromFn.{map-range_with_len_more}

-- one number more
pub range_more : (a n j : ℕ) → a + n ≡ j → range_with_len a (n + 1) ≡ range_with_len a n ++ j ∷ []
range_more a zero j e = let same : a ≡ j = omega (arith, e) in rw same refl
range_more a (suc n) j e =
    let more : suc n + 1 ≡ suc (n + 1) = omega arith in
    rw more (ap (λ xs. a ∷ xs) (range_more (a + 1) n j (omega (arith, e))))

pub fold_range_more : {B : Type 0} (f : B → ℕ → B) (b after : B) (n : ℕ) (acc : B) → acc ≡ fold f b (range_with_len 0 n) → after ≡ f acc n
    → after ≡ fold f b (range_with_len 0 (n + 1))
fold_range_more f b after n acc so step =
    step ∙ ap (λ x. f x n) so ∙ sym (fold-append f b (range_with_len 0 n) (n ∷ [])) ∙ ap (fold f b) (sym (range_more 0 n n (omega arith)))

pub any_range_more : (p : ℕ → Bool) (n : ℕ) → list_any p (range_with_len 0 n) ≡ false → p n ≡ false → list_any p (range_with_len 0 (n + 1)) ≡ false
any_range_more p n so own =
    ap (list_any p) (range_more 0 n n (omega arith)) ∙ list_any-append p (range_with_len 0 n) (n ∷ []) ∙ rw (so, own) refl

pub all_range_more : (p : ℕ → Bool) (n : ℕ) → list_all p (range_with_len 0 n) ≡ true → p n ≡ true → list_all p (range_with_len 0 (n + 1)) ≡ true
all_range_more p n so own =
    ap (list_all p) (range_more 0 n n (omega arith)) ∙ list_all-append p (range_with_len 0 n) (n ∷ []) ∙ rw (so, own) refl

pub filter_range_more : (p : ℕ → Bool) (n : ℕ) → filter p (range_with_len 0 (n + 1)) ≡ filter p (range_with_len 0 n) ++ cond (p n) (n ∷ []) []
filter_range_more p n = ap (filter p) (range_more 0 n n (omega arith)) ∙ filter-append p (range_with_len 0 n) (n ∷ []) ∙ by (p n) refl
  where
    by : (b : Bool) → p n ≡ b → filter p (range_with_len 0 n) ++ filter p (n ∷ []) ≡ filter p (range_with_len 0 n) ++ cond (p n) (n ∷ []) []
    by true e = rw e refl
    by false e = rw e refl

pub map_range_more : {B : Type 0} (f : ℕ → B) (n : ℕ) → map f (range_with_len 0 (n + 1)) ≡ map f (range_with_len 0 n) ++ f n ∷ []
map_range_more f n = map-range_with_len_more f 0 n n (omega arith)

-- the numbers so far that pass
pub record HavePassed (p : ℕ → Bool) (bound n : ℕ) (passed : List ℕ) : Type 0 where
  pub are : passed ≡ filter p (range_with_len 0 n)
  pub there : All (λ k. k < bound) passed

module _ (p : ℕ → Bool) (bound n : ℕ) (old now : List ℕ) (so : HavePassed p bound n old) where
  pub passed_more : n < bound → p n ≡ true → now ≡ old ++ n ∷ [] → HavePassed p bound (n + 1) now
  passed_more low passes step = record {
    are = step ∙ ap (λ ks. ks ++ n ∷ []) so.are ∙ sym (filter_range_more p n ∙ ap (λ b. filter p (range_with_len 0 n) ++ cond b (n ∷ []) []) passes);
    there = All-same (λ k. k < bound) now (old ++ n ∷ []) step (All-push (λ k. k < bound) old n so.there low);
  }

  pub passed_same : p n ≡ false → now ≡ old → HavePassed p bound (n + 1) now
  passed_same fails step = record {
    are = step ∙ so.are ∙ sym (filter_range_more p n ∙ ap (λ b. filter p (range_with_len 0 n) ++ cond b (n ∷ []) []) fails
        ∙ append-nil (filter p (range_with_len 0 n)));
    there = All-same (λ k. k < bound) now old step so.there;
  }

-- ---- an element that passes, or doesn't

any_later : (p : ℕ → Bool) (a n : ℕ) → list_any p (range_with_len (a + 1) n) ≡ true → (b : Bool) → p a ≡ b → list_any p (range_with_len a (suc n)) ≡ true
any_later p a n later true e = rw e refl
any_later p a n later false e = rw e later

any_from : (p : ℕ → Bool) (a n k : ℕ) → k < n → p (a + k) ≡ true → list_any p (range_with_len a n) ≡ true
any_from p a zero k low is = absurd (omega (arith, low))
any_from p a (suc n) zero low is =
    let e : a + 0 ≡ a = omega arith in
    let here : p a ≡ true = subst (λ x. p x ≡ true) e is in
    rw here refl
any_from p a (suc n) (suc k) low is =
    let e : a + suc k ≡ a + 1 + k = omega arith in
    any_later p a n (any_from p (a + 1) n k (omega (arith, low)) (subst (λ x. p x ≡ true) e is)) (p a) refl

pub any_at : (p : ℕ → Bool) (n k : ℕ) → k < n → p k ≡ true → list_any p (range_with_len 0 n) ≡ true
any_at p n k low is = any_from p 0 n k low (let e : 0 + k ≡ k = omega arith in subst (λ x. p x ≡ true) (sym e) is)

all_later : (p : ℕ → Bool) (a n : ℕ) → list_all p (range_with_len (a + 1) n) ≡ false → (b : Bool) → p a ≡ b → list_all p (range_with_len a (suc n)) ≡ false
all_later p a n later true e = rw e later
all_later p a n later false e = rw e refl

all_from : (p : ℕ → Bool) (a n k : ℕ) → k < n → p (a + k) ≡ false → list_all p (range_with_len a n) ≡ false
all_from p a zero k low is = absurd (omega (arith, low))
all_from p a (suc n) zero low is =
    let e : a + 0 ≡ a = omega arith in
    let here : p a ≡ false = subst (λ x. p x ≡ false) e is in
    rw here refl
all_from p a (suc n) (suc k) low is =
    let e : a + suc k ≡ a + 1 + k = omega arith in
    all_later p a n (all_from p (a + 1) n k (omega (arith, low)) (subst (λ x. p x ≡ false) e is)) (p a) refl

pub all_at : (p : ℕ → Bool) (n k : ℕ) → k < n → p k ≡ false → list_all p (range_with_len 0 n) ≡ false
all_at p n k low is = all_from p 0 n k low (let e : 0 + k ≡ k = omega arith in subst (λ x. p x ≡ false) (sym e) is)

-- what is outdone doesn't race, and isn't told
pub outdone : (some any : Bool) → any ≡ true → false ≡ (some && not any)
outdone true any e = rw e refl
outdone false any e = refl

pub untold : (any : Bool) → any ≡ true → false ≡ not any
untold any e = rw e refl
