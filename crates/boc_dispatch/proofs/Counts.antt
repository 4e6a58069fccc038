-- How many requests of a behaviour aren't granted, as stages and lists change.
use Rattle.std.proofs.Common.{◌≡◌, ◌≢◌, ℕ, ◌+◌, ◌<◌, inl, inr, Bool, true, false, cond, eqb, List, [], ◌∷◌, refl, sym, ◌∙◌, ap, arith}
use Rattle.std.specs.Prelude.{◌&&◌, nat_lt, Option, Some}
use Rattle.std.specs.List.{count_by, list_all}
use Rattle.std.proofs.lemmas.Bool.Decides.{Decides-eqb, Decides-ltb}
use Rattle.std.proofs.lemmas.List.Sums.{sum_by-cons}
use Rattle.boc_runs.specs.machine.Stages.{OpenBehaviour, cowns_of, settled}
use Rattle.boc_runs.specs.machine.Queues.{times, is_first, is_granted, all_granted}
use Rattle.boc_machine_laws.proofs.Lists.{same_or_not, not_eq, times-here, times-other}

-- how many of a list fail a test
abbrev pub failing : (ℕ → Bool) → List ℕ → ℕ
failing f xs = count_by (λ c. cond (f c) false true) xs

abbrev one_unless : Bool → ℕ
one_unless true = 0
one_unless false = 1

failing_more : (f : ℕ → Bool) (x : ℕ) (xs : List ℕ) → failing f (x ∷ xs) ≡ one_unless (f x) + failing f xs
failing_more f x xs = sum_by-cons (λ c. cond (cond (f c) false true) 1 0) x xs ∙ ap (λ n. n + failing f xs) (as_one (f x))
  where
    as_one : (b : Bool) → cond (cond b false true) 1 0 ≡ one_unless b
    as_one true = refl
    as_one false = refl

none_failing_at : (n : ℕ) (b c : Bool) → eqb n 0 ≡ c → eqb (one_unless b + n) 0 ≡ (b && c)
none_failing_at n true c h = let e : 0 + n ≡ n = omega arith in ap (λ k. eqb k 0) e ∙ h
none_failing_at n false c h = not_eq (1 + n) 0 (λ e. absurd (omega arith))

-- none fails exactly where all pass
pub none_failing : (f : ℕ → Bool) (xs : List ℕ) → eqb (failing f xs) 0 ≡ list_all f xs
none_failing f [] = refl
none_failing f (x ∷ xs) = ap (λ n. eqb n 0) (failing_more f x xs) ∙ none_failing_at (failing f xs) (f x) (list_all f xs) (none_failing f xs)

-- two tests that agree but at one number, which passes only the second: that number fails no more
pub fails_less : (f g : ℕ → Bool) (c : ℕ) → ((d : ℕ) → d ≢ c → g d ≡ f d) → f c ≡ false → g c ≡ true → (xs : List ℕ) → failing f xs ≡ failing g xs + times c xs
fails_less f g c same fails passes [] = refl
fails_less f g c same fails passes (x ∷ xs) =
    let rest = fails_less f g c same fails passes xs in
    let a = failing_more f x xs in
    let b = failing_more g x xs in
    elim (same_or_not x c) [
      | inl e ↦
          let p : one_unless (f x) ≡ 1 = ap one_unless (ap f e ∙ fails) in
          let q : one_unless (g x) ≡ 0 = ap one_unless (ap g e ∙ passes) in
          let t : times c (x ∷ xs) ≡ 1 + times c xs = ap (λ z. times c (z ∷ xs)) e ∙ times-here c xs in
          omega arith
      | inr n ↦
          let p : one_unless (g x) ≡ one_unless (f x) = ap one_unless (same x n) in
          let t : times c (x ∷ xs) ≡ times c xs = times-other c x xs n in
          omega arith
    ]

-- ---- requests

-- how many requests of who aren't granted
abbrev pub waited : (ℕ → Option OpenBehaviour) → (ℕ → List ℕ) → ℕ → List ℕ → ℕ
waited at queue who cowns = failing (λ c. is_granted at queue who c) cowns

-- all are granted exactly where none isn't
pub all_are_granted : (at : ℕ → Option OpenBehaviour) (queue : ℕ → List ℕ) (who : ℕ) (b : OpenBehaviour) → at who ≡ Some b
    → eqb (waited at queue who b.cowns) 0 ≡ all_granted at queue who
all_are_granted at queue who b is =
    none_failing (λ c. is_granted at queue who c) b.cowns ∙ ap (λ z. list_all (λ c. is_granted at queue who c) (cowns_of z)) (sym is)

-- as many where the same requests are settled, and it is first in the same lists
pub waited_same : (at at' : ℕ → Option OpenBehaviour) (queue queue' : ℕ → List ℕ) (who : ℕ) (cowns : List ℕ)
    → settled (at' who) ≡ settled (at who) → ((c : ℕ) → is_first who (queue' c) ≡ is_first who (queue c))
    → waited at' queue' who cowns ≡ waited at queue who cowns
waited_same at at' queue queue' who cowns e h =
    λ i. failing (λ c. nat_lt 0 (times c (e i)) && h c i) cowns

-- ---- a list without its first

-- the list of a cown without its first, who isn't this one, nor is the next: nobody else is first there
pub first_stays : (queue queue' : ℕ → List ℕ) (c who w : ℕ) (rest : List ℕ) → queue c ≡ who ∷ rest → queue' c ≡ rest
    → ((d : ℕ) → d ≢ c → queue' d ≡ queue d) → w ≢ who → is_first w rest ≡ false → (d : ℕ) → is_first w (queue' d) ≡ is_first w (queue d)
first_stays queue queue' c who w rest front front' others n not_next d =
    elim (same_or_not d c) [
      | inl e ↦
          ap (λ z. is_first w (queue' z)) e ∙ ap (is_first w) front' ∙ not_next
          ∙ sym (ap (λ z. is_first w (queue z)) e ∙ ap (is_first w) front ∙ not_eq who w (λ e. n (sym e)))
      | inr o ↦ ap (is_first w) (others d o)
    ]

-- the next in the list, which is settled there: one request more of it is granted
pub next_granted : (at : ℕ → Option OpenBehaviour) (queue queue' : ℕ → List ℕ) (c who next : ℕ) (rest cowns : List ℕ) → queue c ≡ who ∷ (next ∷ rest)
    → queue' c ≡ next ∷ rest
    → ((d : ℕ) → d ≢ c → queue' d ≡ queue d) → next ≢ who → 0 < times c (settled (at next)) → times c cowns ≡ 1
    → waited at queue next cowns ≡ waited at queue' next cowns + 1
next_granted at queue queue' c who next rest cowns front front' others n is_settled one =
    let f : ℕ → Bool = λ d. is_granted at queue next d in
    let g : ℕ → Bool = λ d. is_granted at queue' next d in
    let same : (d : ℕ) → d ≢ c → g d ≡ f d = λ d o. ap (λ q. nat_lt 0 (times d (settled (at next))) && is_first next q) (others d o) in
    let no : f c ≡ false =
    ap (λ q. nat_lt 0 (times c (settled (at next))) && is_first next q) front
    ∙ ap (λ b. nat_lt 0 (times c (settled (at next))) && b) (not_eq who next (λ e. n (sym e))) ∙ never (nat_lt 0 (times c (settled (at next)))) in
    let yes : g c ≡ true =
    ap (λ q. nat_lt 0 (times c (settled (at next))) && is_first next q) front'
    ∙ ap (λ b. nat_lt 0 (times c (settled (at next))) && b) ((Decides-eqb next next).1 refl)
    ∙ ap (λ b. b && true) ((Decides-ltb 0 (times c (settled (at next)))).1 is_settled) in
    fails_less f g c same no yes cowns ∙ ap (λ k. waited at queue' next cowns + k) one
  where
    never : (b : Bool) → (b && false) ≡ false
    never true = refl
    never false = refl
