-- Cowns of which one is left out.
use Rattle.std.proofs.Common.{◌≡◌, ℕ, zero, suc, ◌+◌, ◌<◌, ◌≤◌, List, [], ◌∷◌, ◌++◌, length, Bool, true, false, cond, not, ap, ◌∙◌, arith, get_or}
use Rattle.std.specs.Prelude.{filter, ◌==◌, All}
use Rattle.std.specs.List.{Contains}
use Rattle.std.proofs.lemmas.List.{length-append}
use Rattle.std.proofs.lemmas.List.Elements.{All-filter, All-push, All-append, All-nil, filter_passes}
use Rattle.std.proofs.lemmas.List.Kept.{IsStrictlyIncreasing-filter}
use Rattle.boc_program.specs.Cowns.{AreAmong, others}

-- what a test keeps of a list has each item that passes
after_one : (b : Bool) (y : ℕ) (l : List ℕ) (x : ℕ) → Contains l x → Contains (cond b (y ∷ l) l) x
after_one true y l x m = (suc m.0, omega (arith, m.1), m.2)
after_one false y l x m = m

contains_kept : (p : ℕ → Bool) (xs : List ℕ) (x k : ℕ) → k < length xs → get_or xs k x ≡ x → p x ≡ true → Contains (filter p xs) x
contains_kept p [] x k lt e t = absurd (omega (arith, lt))
contains_kept p (y ∷ ys) x zero lt e t =
    let passes : p y ≡ true = ap p e ∙ t in
    rw passes (0, omega arith, e)
contains_kept p (y ∷ ys) x (suc k) lt e t = after_one (p y) y (filter p ys) x (contains_kept p ys x k (omega (arith, lt)) e t)

-- what was among cowns stays among them when one is left out of both
pub among_others : (cown : ℕ) (cowns written : List ℕ) → AreAmong cowns written → AreAmong (others cown cowns) (others cown written)
among_others cown cowns written a =
    let p : ℕ → Bool = λ (c : ℕ). not (c == cown) in
    let own = All-filter p (λ (x : ℕ). Contains cowns x) written a.own in
    let pass = filter_passes p written in
    record {
      rise = IsStrictlyIncreasing-filter p written a.rise;
      own = λ k d lt. contains_kept p cowns _ (own k d lt).0 (own k d lt).1 (own k d lt).2 (pass k d lt);
    }

-- one cown more, unless it is the one that is left out
pub put_small : (b : Bool) (x : ℕ) (l : List ℕ) (n : ℕ) → x < n → All (λ (c : ℕ). c < n) l → All (λ (c : ℕ). c < n) (l ++ cond b (x ∷ []) [])
put_small true x l n lt a = All-push (λ (c : ℕ). c < n) l x a lt
put_small false x l n lt a = All-append (λ (c : ℕ). c < n) l [] a (All-nil (λ (c : ℕ). c < n))

pub put_few : (b : Bool) (x : ℕ) (l : List ℕ) → length (l ++ cond b (x ∷ []) []) ≤ length l + 1
put_few true x l = omega (arith, length-append l (x ∷ []))
put_few false x l = omega (arith, length-append l [])
