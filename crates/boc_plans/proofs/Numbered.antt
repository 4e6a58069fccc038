-- What a list says of each number that it was made from, number by number.
use Rattle.std.proofs.Common.{◌≡◌, ℕ, zero, suc, ◌+◌, ◌<◌, List, [], ◌∷◌, length, get_or, refl, ap, subst, arith}
use Rattle.std.specs.Prelude.{Ok, Err, map, IfOk, MatchResult}
use Rattle.std.specs.List.{AllZip, Contains, range_with_len}
use Rattle.std.specs.declared.alloc.AllocError.{AllocError}
use Rattle.std.specs.declared.result.Result.{Result}
use Rattle.std.specs.declared.vec.Vec.{Vec}

-- what was made of n numbers from one on, one by one: it has as many parts, and each part goes with its number
module _ {Y : Type 0} (R : ℕ → Y → Type 0) where
  pub range_long : (a n : ℕ) (ys : List Y) → AllZip R (range_with_len a n) ys → length ys ≡ n
  range_long a zero [] h = refl
  range_long a zero (y ∷ ys) h = absurd h
  range_long a (suc n) [] h = absurd h
  range_long a (suc n) (y ∷ ys) h = ap suc (range_long (a + 1) n ys h.1)

  pub range_at : (d : Y) (a n : ℕ) (ys : List Y) → AllZip R (range_with_len a n) ys → (k : ℕ) → k < n → R (a + k) (get_or ys k d)
  range_at d a zero ys h k lt = absurd (omega (arith, lt))
  range_at d a (suc n) [] h k lt = absurd h
  range_at d a (suc n) (y ∷ ys) h zero lt =
      let e : a ≡ a + 0 = omega arith in
      subst (λ (x : ℕ). R x y) e h.0
  range_at d a (suc n) (y ∷ ys) h (suc k) lt =
      let e : a + 1 + k ≡ a + suc k = omega arith in
      subst (λ (x : ℕ). R x (get_or ys k d)) e (range_at d (a + 1) n ys h.1 k (omega (arith, lt)))

-- answers of which none is a fault
all_ok : {X Y : Type 0} (P : X → Y → Type 0) (xs : List X) (ys : List Y) → AllZip (λ (x : X) (r : Result Y AllocError). IfOk r (P x)) xs (map Ok ys)
    → AllZip P xs ys
all_ok P [] [] h = tt
all_ok P [] (y ∷ ys) h = absurd h
all_ok P (x ∷ xs) [] h = absurd h
all_ok P (x ∷ xs) (y ∷ ys) h = (h.0, all_ok P xs ys h.1)

-- of answers that are gathered each goes with its number, or one of them is a fault
pub gathered : {X Y A : Type 0} (P : X → Y → Type 0) (xs : List X) (answers : List (Result Y AllocError)) (r : Result (Vec Y A) AllocError)
    → AllZip (λ (x : X) (o : Result Y AllocError). IfOk o (P x)) xs answers
    → MatchResult r (λ (c : Vec Y A). (ys : List Y) × (answers ≡ map Ok ys) × (c.items ≡ ys)) (λ e. Contains answers (Err e))
    → IfOk r (λ (c : Vec Y A). AllZip P xs c.items)
gathered P xs answers (Ok c) z (ys, are, is) = rw is (all_ok P xs ys (rw are at z))
gathered P xs answers (Err e) z h = tt
