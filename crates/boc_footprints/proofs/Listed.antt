-- What stands in a list.
use Rattle.std.proofs.Common.{◌≡◌, ◌⊎◌, ℕ, zero, suc, ◌+◌, ◌<◌, inl, inr, refl, List, [], ◌∷◌, length, arith, Bool, true, false}
use Rattle.std.specs.Prelude.{nat_eq, if◌then◌else◌, slice_index}
use Rattle.std.specs.List.{Contains}
use Rattle.std.proofs.lemmas.Bool.Decides.{nat_tests}
use Rattle.boc_runs.specs.machine.Queues.{times}

pub none_contained : {X : Type 0} (x : X) → Contains [] x → ⊥
none_contained x (k, lt, is) = omega (arith, lt)

pub first_or_later : {X : Type 0} (y : X) (ys : List X) (x : X) → Contains (y ∷ ys) x → (y ≡ x) ⊎ Contains ys x
first_or_later y ys x (zero, lt, is) = inl is
first_or_later y ys x (suc k, lt, is) = inr (k, omega (arith, lt), is)

counted_if : (b : Bool) (c d n : ℕ) → nat_eq d c ≡ b → 0 < (if b then 1 else 0) + n → (d ≡ c) ⊎ (0 < n)
counted_if true c d n e h = inl (grind (arith, nat_tests))
counted_if false c d n e h = inr (omega (arith, h))

-- a number that stands in a list is the first or stands behind it
pub times_first_or_later : (c d : ℕ) (cs : List ℕ) → 0 < times c (d ∷ cs) → (d ≡ c) ⊎ (0 < times c cs)
times_first_or_later c d cs h = counted_if (nat_eq d c) c d (times c cs) refl h

counts_if : (b : Bool) (c d n : ℕ) → nat_eq d c ≡ b → d ≡ c → 0 < (if b then 1 else 0) + n
counts_if true c d n e h = omega arith
counts_if false c d n e h = absurd (grind (arith, nat_tests))

pub times_first : (c d : ℕ) (cs : List ℕ) → d ≡ c → 0 < times c (d ∷ cs)
times_first c d cs h = counts_if (nat_eq d c) c d (times c cs) refl h

times_later_if : (b : Bool) (n : ℕ) → 0 < n → 0 < (if b then 1 else 0) + n
times_later_if true n h = omega arith
times_later_if false n h = omega arith

-- the number at a place of a list stands in it
pub times_at : (cs : List ℕ) (i c : ℕ) → i < length cs → c ≡ slice_index cs i → 0 < times c cs
times_at [] i c lt e = absurd (omega (arith, lt))
times_at (d ∷ cs) zero c lt e = times_first c d cs (cc)
times_at (d ∷ cs) (suc i) c lt e = times_later_if (nat_eq d c) (times c cs) (times_at cs i c (omega (arith, lt)) e)
