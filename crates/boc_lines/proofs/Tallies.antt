-- What is counted by number, next to the charges themselves.
use Rattle.std.proofs.Common.{◌≡◌, ◌≢◌, ℕ, ◌+◌, ◌≤◌, ◌<◌, List, [], ◌∷◌, ◌++◌, Bool, true, false, refl, sym, ap, ◌∙◌, subst, arith, length, sum, get_or}
use Rattle.std.specs.Prelude.{nat_eq, if◌then◌else◌}
use Rattle.std.proofs.lemmas.Bool.Decides.{nat_tests}
use Rattle.std.proofs.lemmas.List.{length-set, set_past, get_or-set_same, get_or-set_other}
use Rattle.std.proofs.lemmas.List.Sums.{sum_by-set, get_or-le-sum_by}
use Rattle.boc_lines.specs.Charges.{Charge, total, own_ticks, ticks_of, first_ticks}
use Rattle.boc_lines.specs.Books.{Book, add_at, with_charge, noted, tally}
use Rattle.boc_lines.proofs.Agreeing.{AreBelow}

-- ticks added at a place that is there add up
pub sum_there : (xs : List ℕ) (k n : ℕ) → k < length xs → sum (add_at xs k n) ≡ sum xs + n
sum_there xs k n h = omega (arith, sum_by-set (λ x. x) xs k (get_or xs k 0 + n) 0 h)

pub room_there : (xs : List ℕ) (k n : ℕ) → k < length xs → get_or xs k 0 + n ≤ sum xs + n
room_there xs k n h = omega (arith, get_or-le-sum_by (λ x. x) xs k 0 h)

-- and at one that isn't nothing changes
pub add_past : (xs : List ℕ) (k n : ℕ) → length xs ≤ k → add_at xs k n ≡ xs
add_past xs k n h = set_past xs k (get_or xs k 0 + n) h

pub noted_ticks : (b : Book) (cs : List Charge) → (noted b cs).ticks ≡ tally b.ticks cs
noted_ticks b [] = refl
noted_ticks b (c ∷ cs) = noted_ticks (with_charge b c) cs

pub noted_chain : (b : Book) (cs : List Charge) → (noted b cs).chain ≡ tally b.chain (first_ticks b.left cs)
noted_chain b [] = refl
noted_chain b (c ∷ cs) = noted_chain (with_charge b c) cs

pub tally_more : (counts : List ℕ) (cs ds : List Charge) → tally counts (cs ++ ds) ≡ tally (tally counts cs) ds
tally_more counts [] ds = refl
tally_more counts (c ∷ cs) ds = tally_more (add_at counts c.statement c.ticks) cs ds

pub length-tally : (counts : List ℕ) (cs : List Charge) → length (tally counts cs) ≡ length counts
length-tally counts [] = refl
length-tally counts (c ∷ cs) =
    length-tally (add_at counts c.statement c.ticks) cs ∙ length-set counts c.statement (get_or counts c.statement 0 + c.ticks)

same_place : (j k : ℕ) → nat_eq j k ≡ true → j ≡ k
same_place j k h = grind (arith, nat_tests)

other_place : (j k : ℕ) → nat_eq j k ≡ false → k ≢ j
other_place j k h = grind (arith, nat_tests)

and_none : (n : ℕ) → n ≡ n + 0
and_none n = omega arith

-- the ticks at a place after one more charge
at_if : (b : Bool) (xs : List ℕ) (k j n : ℕ) → nat_eq j k ≡ b → k < length xs
    → get_or (add_at xs j n) k 0 ≡ get_or xs k 0 + (if b then n else 0)
at_if true xs k j n e h =
    ap (λ i. get_or (add_at xs i n) k 0) (same_place j k e) ∙ get_or-set_same xs k (get_or xs k 0 + n) 0 h
at_if false xs k j n e h =
    get_or-set_other xs j k (get_or xs j 0 + n) 0 (other_place j k e) ∙ and_none (get_or xs k 0)

pub at_place : (xs : List ℕ) (k j n : ℕ) → k < length xs → get_or (add_at xs j n) k 0 ≡ get_or xs k 0 + (if nat_eq j k then n else 0)
at_place xs k j n h = at_if (nat_eq j k) xs k j n refl h

regroup : (a b c : ℕ) → (a + b) + c ≡ a + (b + c)
regroup a b c = omega arith

-- each place has what it had, and the ticks of its charges
pub tally_at : (counts : List ℕ) (cs : List Charge) (k : ℕ) → k < length counts → get_or (tally counts cs) k 0 ≡ get_or counts k 0 + ticks_of k cs
tally_at counts [] k h = omega arith
tally_at counts (c ∷ cs) k h =
    let one = add_at counts c.statement c.ticks in
    tally_at one cs k (subst (λ n. k < n) (sym (length-set counts c.statement (get_or counts c.statement 0 + c.ticks))) h)
    ∙ ap (λ n. n + ticks_of k cs) (at_place counts k c.statement c.ticks h)
    ∙ regroup (get_or counts k 0) (own_ticks k c) (ticks_of k cs)

-- all together they have the ticks of all charges, where each number is there
pub sum_tally : (counts : List ℕ) (cs : List Charge) → AreBelow (length counts) cs → sum (tally counts cs) ≡ sum counts + total cs
sum_tally counts [] h = omega arith
sum_tally counts (c ∷ cs) h =
    let one = add_at counts c.statement c.ticks in
    sum_tally one cs (subst (λ n. AreBelow n cs) (sym (length-set counts c.statement (get_or counts c.statement 0 + c.ticks))) h.1)
    ∙ ap (λ n. n + total cs) (sum_there counts c.statement c.ticks h.0)
    ∙ regroup (sum counts) c.ticks (total cs)
