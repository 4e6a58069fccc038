-- The median of numbers: there is one, it lies between them, and it stands in the middle.
use Rattle.std.proofs.Common.{◌≡◌, inl, inr, ℕ, zero, suc, ◌+◌, ◌-◌, ◌/◌, ◌<◌, ◌≤◌, List, length, take, drop, get_or}
use Rattle.std.proofs.Common.{cond, Some, ap, sym, ◌∙◌, subst, arith}
use Rattle.std.specs.Prelude.{All, count_by, nat_lt, nat_le, slice_get}
use Rattle.std.specs.List.{sum_by}
use Rattle.std.specs.List.Sorted.{IsPermutation, IsNonDecreasing}
use Rattle.std.proofs.lemmas.Bool.{cases_lt, cases_order, lt-ltb, le-ltb, le-leb, lt-leb, ltb-true, leb-true}
use Rattle.std.proofs.lemmas.List.{get_or-take, get_or-drop, get_or_default, length-take, length-drop}
use Rattle.std.proofs.lemmas.List.Sums.{get_or-le-sum_by, count_by-le-length}
use Rattle.std.proofs.lemmas.List.Sorted.{length_permutation}
use Rattle.std.proofs.lemmas.Option.{slice_get-get_or}
use Rattle.boc_typical.specs.Medians.{IsMedian}
use Rattle.boc_typical.proofs.Counting.{count_le, count_none, count_all, count_parts, count_front, count_moved}

-- how many numbers are less, and how many are no greater
abbrev pub less : ℕ → List ℕ → ℕ
less m numbers = count_by (λ n. nat_lt n m) numbers

abbrev pub up_to : ℕ → List ℕ → ℕ
up_to m numbers = count_by (λ n. nat_le n m) numbers

-- what is no greater than m is less than what is greater
up_to_less : (numbers : List ℕ) (m n : ℕ) → m < n → up_to m numbers ≤ less n numbers
up_to_less numbers m n l = count_le (λ k. nat_le k m) (λ k. nat_lt k n) numbers
    (λ i d h e. lt-ltb (get_or numbers i d) n (omega (arith, leb-true (get_or numbers i d) m e, l)))

not_both : (numbers : List ℕ) (m n : ℕ) → IsMedian numbers m → IsMedian numbers n → m < n → ⊥
not_both numbers m n a b l = omega (arith, a.more_up_to, b.few_less, up_to_less numbers m n l)

pub one_median : (numbers : List ℕ) (m n : ℕ) → IsMedian numbers m → IsMedian numbers n → m ≡ n
one_median numbers m n a b = elim (cases_order m n) [
  | inl e ↦ e
  | inr (inl l) ↦ absurd (not_both numbers m n a b l)
  | inr (inr g) ↦ absurd (not_both numbers n m b a g)
]

-- a median of numbers that there are
pub some_numbers : (numbers : List ℕ) (m : ℕ) → IsMedian numbers m → 0 < length numbers
some_numbers numbers m h = omega (arith, h.more_up_to, count_by-le-length (λ n. nat_le n m) numbers)

-- it is no less than all of them, and no greater
pub median_above : (numbers : List ℕ) (m low : ℕ) → IsMedian numbers m → All (λ n. low ≤ n) numbers → low ≤ m
median_above numbers m low h all = elim (cases_lt m low) [
  | inl l ↦ absurd (omega (
    arith,
    h.more_up_to,
    count_none (λ n. nat_le n m) numbers (λ i d there. lt-leb (get_or numbers i d) m (omega (arith, all i d there, l))),
  ))
  | inr g ↦ g
]

pub median_below : (numbers : List ℕ) (m high : ℕ) → IsMedian numbers m → All (λ n. n ≤ high) numbers → m ≤ high
median_below numbers m high h all = elim (cases_lt high m) [
  | inl l ↦ absurd (omega (
    arith,
    h.few_less,
    some_numbers numbers m h,
    count_all (λ n. nat_lt n m) numbers (λ i d there. lt-ltb (get_or numbers i d) m (omega (arith, all i d there, l))),
  ))
  | inr g ↦ g
]

-- ---- the least number that enough are no greater than

abbrev half : List ℕ → ℕ
half numbers = (length numbers - 1) / 2

abbrev search_from : List ℕ → ℕ → ℕ
search_from numbers zero = zero
search_from numbers (suc k) = cond (nat_lt (half numbers) (up_to k numbers)) (search_from numbers k) (suc k)

found_from : (numbers : List ℕ) (k : ℕ) → half numbers < up_to k numbers → IsMedian numbers (search_from numbers k)
found_from numbers zero h = record {
  few_less = omega (arith, count_none (λ n. nat_lt n 0) numbers (λ i d l. le-ltb (get_or numbers i d) 0 (omega arith)));
  more_up_to = h;
}
found_from numbers (suc k) h = elim (cases_lt (half numbers) (up_to k numbers)) [
  | inl more ↦ rw (lt-ltb (half numbers) (up_to k numbers) more) (found_from numbers k more)
  | inr few ↦ rw (le-ltb (half numbers) (up_to k numbers) few) (record {
    few_less = omega (arith, few, less_up_to numbers k);
    more_up_to = h;
  })
]
  where
    less_up_to : (numbers : List ℕ) (k : ℕ) → less (suc k) numbers ≤ up_to k numbers
    less_up_to numbers k = count_le (λ n. nat_lt n (suc k)) (λ n. nat_le n k) numbers
        (λ i d l e. le-leb (get_or numbers i d) k (omega (arith, ltb-true (get_or numbers i d) (suc k) e)))

-- the median of numbers, of which there is one at least
pub middle_of : List ℕ → ℕ
middle_of numbers = search_from numbers (sum_by (λ n. n) numbers)

pub middle_is : (numbers : List ℕ) → 0 < length numbers → IsMedian numbers (middle_of numbers)
unfolding middle_of
middle_is numbers some =
    let all : ℕ = sum_by (λ n. n) numbers in
    found_from numbers all (omega (
      arith,
      some,
      count_all (λ n. nat_le n all) numbers (λ i d l. le-leb (get_or numbers i d) all (get_or-le-sum_by (λ n. n) numbers i d l)),
    ))

-- ---- in rising order

-- what stands in the middle of numbers that rise
rising_middle : (rising : List ℕ) → 0 < length rising → IsNonDecreasing rising → IsMedian rising (get_or rising (half rising) 0)
rising_middle rising some rise =
    let h : ℕ = half rising in
    let m : ℕ = get_or rising h 0 in
    let there : h < length rising = omega (arith, some) in
    record {
      few_less = omega (
        arith,
        count_parts (λ n. nat_lt n m) rising h,
        count_by-le-length (λ n. nat_lt n m) (take h rising),
        length-take h rising,
        count_none (λ n. nat_lt n m) (drop h rising) (λ i d l. rw (get_or-drop h rising i d) (le-ltb (get_or rising (h + i) d) m
            (behind h i d (omega (arith, l, length-drop h rising))))),
      );
      more_up_to = omega (
        arith,
        there,
        count_front (λ n. nat_le n m) rising (h + 1),
        length-take (h + 1) rising,
        count_all (λ n. nat_le n m) (take (h + 1) rising) (λ i d l. rw (get_or-take (h + 1) rising i d (omega (arith, l, length-take (h + 1) rising)))
            (le-leb (get_or rising i d) m (before h i d (omega (arith, l, length-take (h + 1) rising)) there))),
      );
    }
  where
    behind : (h i d : ℕ) → h + i < length rising → get_or rising h 0 ≤ get_or rising (h + i) d
    behind h i d l = subst (λ (n : ℕ). n ≤ get_or rising (h + i) d) (get_or_default rising h d 0 (omega (arith, l))) (rise h (h + i) d (omega arith) l)

    before : (h i d : ℕ) → i < h + 1 → h < length rising → get_or rising i d ≤ get_or rising h 0
    before h i d l there = subst (λ (n : ℕ). get_or rising i d ≤ n) (get_or_default rising h d 0 there) (rise i h d (omega (arith, l)) there)

-- so the median stands there
pub median_in_middle : (numbers rising : List ℕ) (m : ℕ) → IsPermutation numbers rising → IsNonDecreasing rising → IsMedian numbers m
    → slice_get rising (half numbers) ≡ Some m
median_in_middle numbers rising m moved rise own =
    let same : length rising ≡ length numbers = length_permutation numbers rising moved in
    let some : 0 < length rising = omega (arith, same, some_numbers numbers m own) in
    let at : half rising ≡ half numbers = ap (λ (n : ℕ). (n - 1) / 2) same in
    let also : IsMedian rising m = record {
      few_less = omega (arith, own.few_less, at, count_moved (λ n. nat_lt n m) numbers rising moved);
      more_up_to = omega (arith, own.more_up_to, at, count_moved (λ n. nat_le n m) numbers rising moved);
    } in
    ap (slice_get rising) (sym at)
    ∙ slice_get-get_or rising (half rising) 0 (omega (arith, some))
    ∙ ap Some (one_median rising (get_or rising (half rising) 0) m (rising_middle rising some rise) also)
