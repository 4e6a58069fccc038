-- What the test of a set of places tells of each place.
use Rattle.std.proofs.Common.{◌≡◌, ℕ, zero, suc, ◌+◌, ◌<◌, inl, inr, refl, List, [], ◌∷◌, sym, subst, arith, IsTrue, Bool, true, false, Some, None}
use Rattle.std.specs.Prelude.{◌||◌, not, nat_eq, slice_get}
use Rattle.std.specs.List.{Contains, list_any}
use Rattle.std.proofs.lemmas.Bool.Decides.{nat_tests}
use Rattle.boc_program.proofs.RisingNumbers.{has_first, has_later, first_or_later, none_in_none}
use Rattle.boc_program.proofs.Truth.{and_true}
use Rattle.boc_runs.specs.Serial.{Behaviour}
use Rattle.boc_runs.specs.machine.Queues.{times}
use Rattle.boc_front_rows.specs.Lists.{list_at}
use Rattle.boc_front_rows.specs.Rows.{Plain}
use Rattle.boc_footprints.specs.Spreading.{is_marked}
use Rattle.boc_sharp_footprints.specs.Tables.{reaches_by}
use Rattle.boc_footprints.proofs.Truths.{or_true, or_left, or_right}
use Rattle.boc_footprints.proofs.Listed.{times_first_or_later}
use Rattle.boc_choices.specs.Chosen.{IsReached}
use Rattle.boc_choices.specs.Holding.{Table, has_cown, meets, are_apart, may_stand, all_may_stand}

never : (b : Bool) → b ≡ false → IsTrue b → ⊥
never true h k = cc
never false h k = cc

-- where a test fails for a list, it fails for each element
none_of : {A : Type 0} (test : A → Bool) (xs : List A) (x : A) → list_any test xs ≡ false → Contains xs x → IsTrue (test x) → ⊥
none_of test [] x h among t = none_in_none x among
none_of test (y ∷ xs) x h among t = elim (first_or_later y x xs among) [
  | inl is ↦ never (test y || list_any test xs) h (or_left (test y) (list_any test xs) (subst (λ z. IsTrue (test z)) (sym is) t))
  | inr later ↦ none_of test xs x (others (test y) (list_any test xs) h) later t
]
  where
    others : (a b : Bool) → (a || b) ≡ false → b ≡ false
    others true b h = absurd cc
    others false b h = h

-- where it passes for a list, it passes for an element
pub one_of : {A : Type 0} (test : A → Bool) (xs : List A) → IsTrue (list_any test xs) → (x : A) × Contains xs x × IsTrue (test x)
one_of test [] h = absurd cc
one_of test (y ∷ xs) h = elim (or_true (test y) (list_any test xs) h) [
  | inl here ↦ (y, has_first y xs, here)
  | inr later ↦ let r = one_of test xs later in (r.0, has_later y r.0 xs r.1, r.2)
]

counted : (cs : List ℕ) (c : ℕ) → 0 < times c cs → Contains cs c
counted [] c h = absurd (omega (arith, h))
counted (d ∷ cs) c h = elim (times_first_or_later c d cs h) [
  | inl is ↦ subst (λ e. Contains (d ∷ cs) e) is (has_first d cs)
  | inr later ↦ has_later d c cs (counted cs c later)
]

own_cown : (cs : List ℕ) (c : ℕ) → 0 < times c cs → IsTrue (list_any (λ d. nat_eq d c) cs)
own_cown [] c h = absurd (omega (arith, h))
own_cown (d ∷ cs) c h = elim (times_first_or_later c d cs h) [
  | inl is ↦ or_left (nat_eq d c) (list_any (λ d. nat_eq d c) cs) (grind (arith, nat_tests))
  | inr later ↦ or_right (nat_eq d c) (list_any (λ d. nat_eq d c) cs) (own_cown cs c later)
]

in_footprint : (table : Table) (far : Behaviour) (c : ℕ) → IsReached table far c → IsTrue (has_cown table far c)
in_footprint table far c (inl own) = or_left (list_any (λ d. nat_eq d c) far.cowns) (reaches_by table far.kind far.args c) (own_cown far.cowns c own)
in_footprint table far c (inr reached) = or_right (list_any (λ d. nat_eq d c) far.cowns) (reaches_by table far.kind far.args c) reached

or_false : (a b : Bool) → (a || b) ≡ false → (a ≡ false) × (b ≡ false)
or_false true b h = absurd cc
or_false false b h = (refl, h)

pub meets_none : (table : Table) (cowns : List ℕ) (wishes : List Behaviour) (far : Behaviour) (c : ℕ) → meets table cowns wishes ≡ false
    → Contains wishes far → 0 < times c cowns → IsReached table far c → ⊥
meets_none table cowns [] far c h among some foot = none_in_none far among
meets_none table cowns (first ∷ wishes) far c h among some foot =
    let both = or_false (list_any (has_cown table first) cowns) (meets table cowns wishes) h in
    elim (first_or_later first far wishes among) [
      | inl is ↦ none_of (has_cown table first) cowns c both.0 (counted cowns c some)
          (subst (λ b. IsTrue (has_cown table b c)) (sym is) (in_footprint table far c foot))
      | inr later ↦ meets_none table cowns wishes far c both.1 later some foot
    ]

not_meeting : (marked met : Bool) → IsTrue (marked || not met) → marked ≡ false → met ≡ false
not_meeting true met h without = absurd cc
not_meeting false true h without = absurd cc
not_meeting false false h without = refl

pub apart_at : (table : Table) (lists : List (List Behaviour)) (marks : List Bool) (cowns : List ℕ) (n : ℕ) (rows : List Plain) (k : ℕ) (r : Plain)
    → IsTrue (are_apart table lists marks cowns n rows) → slice_get rows k ≡ Some r → is_marked marks (n + k) ≡ false
    → meets table cowns (list_at lists r.wishes) ≡ false
apart_at table lists marks cowns n [] k r h is without = absurd (let f : None ≡ Some r = is in cc)
apart_at table lists marks cowns n (x ∷ rows) zero r h is without =
    let same : x ≡ r = (let f : Some x ≡ Some r = is in cc) in
    let at : n + 0 ≡ n = omega arith in
    let both = and_true (is_marked marks n || not (meets table cowns (list_at lists x.wishes))) (are_apart table lists marks cowns (n + 1) rows) h in
    subst (λ (y : Plain). meets table cowns (list_at lists y.wishes) ≡ false) same
    (not_meeting (is_marked marks n) (meets table cowns (list_at lists x.wishes)) both.0 (subst (λ i. is_marked marks i ≡ false) at without))
apart_at table lists marks cowns n (x ∷ rows) (suc k) r h is without =
    let at : n + suc k ≡ n + 1 + k = omega arith in
    let both = and_true (is_marked marks n || not (meets table cowns (list_at lists x.wishes))) (are_apart table lists marks cowns (n + 1) rows) h in
    apart_at table lists marks cowns (n + 1) rows k r both.1 is (subst (λ i. is_marked marks i ≡ false) at without)

if_marked : (marked stands : Bool) → IsTrue (not marked || stands) → IsTrue marked → IsTrue stands
if_marked true stands h m = h
if_marked false stands h m = absurd cc

pub stands_at : (table : Table) (lists : List (List Behaviour)) (marks : List Bool) (all : List Plain) (n : ℕ) (rows : List Plain) (k : ℕ) (r : Plain)
    → IsTrue (all_may_stand table lists marks all n rows) → slice_get rows k ≡ Some r → IsTrue (is_marked marks (n + k))
    → IsTrue (may_stand table lists marks all r)
stands_at table lists marks all n [] k r h is marked = absurd (let f : None ≡ Some r = is in cc)
stands_at table lists marks all n (x ∷ rows) zero r h is marked =
    let same : x ≡ r = (let f : Some x ≡ Some r = is in cc) in
    let at : n + 0 ≡ n = omega arith in
    let both = and_true (not (is_marked marks n) || may_stand table lists marks all x) (all_may_stand table lists marks all (n + 1) rows) h in
    subst (λ y. IsTrue (may_stand table lists marks all y)) same
    (if_marked (is_marked marks n) (may_stand table lists marks all x) both.0 (subst (λ i. IsTrue (is_marked marks i)) at marked))
stands_at table lists marks all n (x ∷ rows) (suc k) r h is marked =
    let at : n + suc k ≡ n + 1 + k = omega arith in
    let both = and_true (not (is_marked marks n) || may_stand table lists marks all x) (all_may_stand table lists marks all (n + 1) rows) h in
    stands_at table lists marks all (n + 1) rows k r both.1 is (subst (λ i. IsTrue (is_marked marks i)) at marked)
