-- Who follows a row waits for it, and who waits for it follows it.
use Rattle.std.proofs.Common.{◌≡◌, ℕ, zero, suc, ◌+◌, ◌<◌, ◌≤◌, Bool, true, false, cond, List, [], ◌∷◌, length, sym, ◌∙◌, ap, inl, inr, arith}
use Rattle.std.specs.Prelude.{nat_eq}
use Rattle.std.specs.List.{Contains}
use Rattle.std.proofs.lemmas.Bool.Decides.{nat_tests}
use Rattle.std.proofs.lemmas.Bool.{cases_eq}
use Rattle.std.proofs.lemmas.List.Sums.{sum_by-cons, get_or-le-sum_by}
use Rattle.boc_order.specs.Waits.{links_of, times, AreFollowers}

pub same_test : (r : ℕ) → nat_eq r r ≡ true
same_test r = grind (arith, nat_tests)

pub other_test : (x r : ℕ) → (x ≡ r → ⊥) → nat_eq x r ≡ false
other_test x r n = grind (arith, nat_tests)

-- who stands in a list stands there at least once
pub times_some : (r : ℕ) (xs : List ℕ) → Contains xs r → 0 < times r xs
times_some r xs h =
    let one : 1 ≤ times r xs = rw (h.2, same_test r) at (get_or-le-sum_by (λ x. cond (nat_eq x r) 1 0) xs h.0 r h.1) in
    omega (arith, one)

pub some_times : (r : ℕ) (xs : List ℕ) → 0 < times r xs → Contains xs r
some_times r [] h = absurd (omega (arith, h))
some_times r (x ∷ xs) h = elim (cases_eq x r) [
  | inl e ↦ (0, omega arith, e)
  | inr n ↦ (
      let more : times r (x ∷ xs) ≡ cond (nat_eq x r) 1 0 + times r xs = sum_by-cons (λ x. cond (nat_eq x r) 1 0) x xs in
      let none : ◌≡◌ {A = ℕ} (cond (nat_eq x r) 1 0) 0 = ap (λ (b : Bool). cond {A = ℕ} b 1 0) (other_test x r n) in
      let p = some_times r xs (omega (arith, more, none, h)) in
      (suc p.0, omega (arith, p.1), p.2))
]

-- the first of a list stands there once more
pub times-first : (r : ℕ) (xs : List ℕ) → times r (r ∷ xs) ≡ 1 + times r xs
times-first r xs = sum_by-cons (λ x. cond (nat_eq x r) 1 0) r xs ∙ ap (λ (b : Bool). cond {A = ℕ} b 1 0 + times r xs) (same_test r)

pub times-other : (r x : ℕ) (xs : List ℕ) → (r ≡ x → ⊥) → times r (x ∷ xs) ≡ times r xs
times-other r x xs n =
    let none : ◌≡◌ {A = ℕ} (cond (nat_eq x r) 1 0) 0 = ap (λ (b : Bool). cond {A = ℕ} b 1 0) (other_test x r (λ e. n (sym e))) in
    omega (arith, sum_by-cons (λ x. cond (nat_eq x r) 1 0) x xs, none)

module _ (waits followers : List (List ℕ)) (are : AreFollowers waits followers) (a b : ℕ) (there : a < length waits) where
  pub follower_waits : Contains (links_of followers a) b → Contains (links_of waits b) a
  follower_waits h = some_times a (links_of waits b) (omega (arith, are.same a b there, times_some b (links_of followers a) h))

  pub waiter_follows : Contains (links_of waits b) a → Contains (links_of followers a) b
  waiter_follows h = some_times b (links_of followers a) (omega (arith, are.same a b there, times_some a (links_of waits b) h))

-- a row that has a link is there
pub link_there : (links : List (List ℕ)) (b a : ℕ) → Contains (links_of links b) a → b < length links
link_there [] b a h = absurd (omega (arith, h.1))
link_there (x ∷ links) zero a h = omega arith
link_there (x ∷ links) (suc b) a h = omega (arith, link_there links b a h)
