-- How often a cown stands in a list, and how many of its requests are still to come.
use Rattle.std.proofs.Common.{◌≡◌, ◌≢◌, ℕ, zero, suc, ◌+◌, ◌<◌, ◌≤◌, Bool, cond, eqb, List, [], ◌∷◌, length, take, drop, set, get_or, refl, sym, ◌∙◌, ap, subst}
use Rattle.std.proofs.Common.{arith, add-one}
use Rattle.std.specs.Prelude.{slice_get, Option, Some, None}
use Rattle.std.specs.List.{All, sum_by}
use Rattle.std.proofs.lemmas.List.Sums.{sum_by-set}
use Rattle.std.proofs.lemmas.Option.{slice_get_within, get_or_from_slice_get}
use Rattle.boc_chain.specs.declared.held.Held.{Held}
use Rattle.boc_chain.specs.Chain.{times}
use Rattle.boc_chain.specs.Kept.{awaits}
use Rattle.boc_chain.proofs.Spelled.{eqb_same, eqb_other}

next_times : (c : ℕ) (cs : List ℕ) (i : ℕ) → i < length cs → times c (take (suc i) cs) ≡ times c (take i cs) + cond (eqb (get_or cs i 0) c) 1 0
next_times c [] i h = absurd (omega arith)
next_times c (d ∷ cs) zero h = omega arith
next_times c (d ∷ cs) (suc i) h = let e = next_times c cs i (omega arith) in omega arith

-- one element more is counted
times_next : (c : ℕ) (cs : List ℕ) (i : ℕ) → i < length cs → times c (take (i + 1) cs) ≡ times c (take i cs) + cond (eqb (get_or cs i 0) c) 1 0
times_next c cs i h = ap (λ n. times c (take n cs)) (add-one i) ∙ next_times c cs i h

pub times_next_same : (c : ℕ) (cs : List ℕ) (i : ℕ) → i < length cs → get_or cs i 0 ≡ c → times c (take (i + 1) cs) ≡ times c (take i cs) + 1
times_next_same c cs i h e = times_next c cs i h ∙ ap (λ b. times c (take i cs) + cond b 1 0) (eqb_same (get_or cs i 0) c e)

pub times_next_other : (c : ℕ) (cs : List ℕ) (i : ℕ) → i < length cs → get_or cs i 0 ≢ c → times c (take (i + 1) cs) ≡ times c (take i cs)
times_next_other c cs i h n = times_next c cs i h ∙ ap (λ b. times c (take i cs) + cond b 1 0) (eqb_other (get_or cs i 0) c n) ∙ omega arith

pub times_take : (c : ℕ) (cs : List ℕ) (i : ℕ) → times c (take i cs) ≤ times c cs
times_take c [] zero = omega arith
times_take c [] (suc i) = omega arith
times_take c (d ∷ cs) zero = omega arith
times_take c (d ∷ cs) (suc i) = let e = times_take c cs i in omega arith

-- what stands in a list is below a bound of each that stands there
pub all_below : (n : ℕ) (cs : List ℕ) → ((c : ℕ) → 0 < times c cs → c < n) → All (λ c. c < n) cs
all_below n [] low k d l = absurd (omega arith)
all_below n (x ∷ cs) low zero d l =
    let IsThere : Bool → Type 0 = λ b. 0 < cond b 1 0 + times x cs in
    low x (subst IsThere (sym (eqb_same x x refl)) (omega arith))
all_below n (x ∷ cs) low (suc k) d l = all_below n cs (λ c stands. low c (omega (arith, stands))) k d (omega (arith, l))

-- what is held at a vacant slot is awaited, whole
pub awaited_held : (places : List (Option Held)) (slot : ℕ) (h : Held) (c : ℕ) → slice_get places slot ≡ Some None → h.exchanged ≡ 0
    → sum_by (awaits c) (set places slot (Some h)) ≡ sum_by (awaits c) places + times c h.cowns.items
awaited_held places slot h c e z =
    let s = sum_by-set (awaits c) places slot (Some h) None (slice_get_within places slot None e) in
    let a : awaits c (get_or places slot None) ≡ 0 = ap (awaits c) (get_or_from_slice_get places slot None None e) in
    let b : times c (drop h.exchanged h.cowns.items) ≡ times c h.cowns.items = ap (λ n. times c (drop n h.cowns.items)) z in
    omega arith

-- fewer are awaited where a slot is given back
pub awaited_less_where_gone : (places : List (Option Held)) (slot : ℕ) (c : ℕ) → slot < length places
    → sum_by (awaits c) (set places slot None) ≤ sum_by (awaits c) places
awaited_less_where_gone places slot c h = let s = sum_by-set (awaits c) places slot None None h in let z : awaits c None ≡ 0 = refl in omega arith
