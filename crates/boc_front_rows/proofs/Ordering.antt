-- Which places are kept, and where.
use Rattle.std.proofs.Common.{◌≡◌, ◌≢◌, ◌⊎◌, ℕ, zero, suc, ◌+◌, ◌<◌, ◌≤◌, inl, inr, Bool, true, false, eqb, List, [], ◌∷◌, length, refl, sym, ◌∙◌, ap, subst, arith}
use Rattle.std.specs.Prelude.{slice_get, slice_index_or, slice_set, replicate, All, Option, Some, None, IsPermutation}
use Rattle.std.specs.List.{Contains, sum_by}
use Rattle.std.proofs.lemmas.List.{length-set, length-replicate}
use Rattle.std.proofs.lemmas.List.Sums.{sum_by-cons}
use Rattle.std.proofs.lemmas.List.Sorted.{IsPermutation-sym, Contains-permutation, length_permutation, sum_by-IsPermutation}
use Rattle.boc_program.proofs.ChangedItems.{item_at, place_below, set_same, set_other}
use Rattle.boc_runs.specs.Serial.{Behaviour}
use Rattle.boc_machine_laws.proofs.Core.{one_if}
use Rattle.boc_machine_laws.proofs.Lists.{same_or_not, not_eq, same_numbers}
use Rattle.boc_front_rows.specs.Orders.{is_nil, kept_from, placed, places_of}

-- ---- items of lists

pub at_has : (xs : List ℕ) (k i : ℕ) → slice_get xs k ≡ Some i → Contains xs i
at_has [] k i e = absurd (let f : None ≡ Some i = e in cc)
at_has (x ∷ xs) zero i e = (0, omega arith, (let f : Some x ≡ Some i = e in cc))
at_has (x ∷ xs) (suc k) i e = let r = at_has xs k i e in (suc r.0, omega (arith, r.1), r.2)

pub has_at : (xs : List ℕ) (i : ℕ) → Contains xs i → (k : ℕ) × (slice_get xs k ≡ Some i)
has_at [] i h = absurd (omega (arith, h.1))
has_at (x ∷ xs) i (zero, l, e) = (0, (let f : x ≡ i = e in ap (λ (z : ℕ). Some z) f))
has_at (x ∷ xs) i (suc k, l, e) = let r = has_at xs i (k, omega (arith, l), e) in (suc r.0, r.1)

-- an item of a list in another order
pub at_moved : (xs ys : List ℕ) → IsPermutation xs ys → (k i : ℕ) → slice_get xs k ≡ Some i → (j : ℕ) × (slice_get ys j ≡ Some i)
at_moved xs ys moved k i e = has_at ys i (Contains-permutation xs ys i moved (at_has xs k i e))

-- ---- the rows that have a wish

pub kept_few : (n : ℕ) (ds : List Bool) → length (kept_from n ds) ≤ length ds
kept_few n [] = omega arith
kept_few n (true ∷ ds) = omega (arith, kept_few (n + 1) ds)
kept_few n (false ∷ ds) = omega (arith, kept_few (n + 1) ds)

-- one that is kept has a wish
pub kept_is : (n : ℕ) (ds : List Bool) (k i : ℕ) → slice_get (kept_from n ds) k ≡ Some i → (j : ℕ) × (i ≡ n + j) × (slice_get ds j ≡ Some false)
kept_is n [] k i e = absurd (let f : None ≡ Some i = e in cc)
kept_is n (true ∷ ds) k i e = let r = kept_is (n + 1) ds k i e in (suc r.0, omega (arith, r.1), r.2)
kept_is n (false ∷ ds) zero i e = (let same : n ≡ i = (let f : Some n ≡ Some i = e in cc) in (0, omega (arith, same), refl))
kept_is n (false ∷ ds) (suc k) i e = let r = kept_is (n + 1) ds k i e in (suc r.0, omega (arith, r.1), r.2)

-- and one that has a wish is kept
pub kept_has : (n : ℕ) (ds : List Bool) (j : ℕ) → slice_get ds j ≡ Some false → (k : ℕ) × (slice_get (kept_from n ds) k ≡ Some (n + j))
kept_has n [] j e = absurd (let f : None ≡ Some false = e in cc)
kept_has n (true ∷ ds) zero e = absurd (let f : Some true ≡ Some false = e in let g : true ≡ false = cc in cc)
kept_has n (false ∷ ds) zero e = (let none : n ≡ n + 0 = omega arith in (0, ap (λ (z : ℕ). Some z) none))
kept_has n (true ∷ ds) (suc j) e =
    let r = kept_has (n + 1) ds j e in
    let one : n + 1 + j ≡ n + suc j = omega arith in
    (r.0, r.1 ∙ ap (λ (z : ℕ). Some z) one)
kept_has n (false ∷ ds) (suc j) e =
    let r = kept_has (n + 1) ds j e in
    let one : n + 1 + j ≡ n + suc j = omega arith in
    (suc r.0, r.1 ∙ ap (λ (z : ℕ). Some z) one)

-- ---- no place is kept twice

abbrev pub AreOnce : List ℕ → Type 0
AreOnce xs = (k j i : ℕ) → slice_get xs k ≡ Some i → slice_get xs j ≡ Some i → k ≡ j

-- how often a number stands in a list
abbrev count : ℕ → List ℕ → ℕ
count i xs = sum_by (λ x. one_if (eqb x i)) xs

count_first : (i x : ℕ) (xs : List ℕ) → count i (x ∷ xs) ≡ one_if (eqb x i) + count i xs
count_first i x xs = sum_by-cons (λ y. one_if (eqb y i)) x xs

count_some : (xs : List ℕ) (k i : ℕ) → slice_get xs k ≡ Some i → 0 < count i xs
count_some [] k i e = absurd (let f : None ≡ Some i = e in cc)
count_some (x ∷ xs) zero i e =
    let one : one_if (eqb x i) ≡ 1 = ap one_if (same_numbers x i (let f : Some x ≡ Some i = e in cc)) in
    omega (arith, one, count_first i x xs)
count_some (x ∷ xs) (suc k) i e = omega (arith, count_some xs k i e, count_first i x xs)

once_if : (xs : List ℕ) → ((i : ℕ) → count i xs ≤ 1) → AreOnce xs
once_if [] few k j i a b = absurd (let f : None ≡ Some i = a in cc)
once_if (x ∷ xs) few zero zero i a b = refl
once_if (x ∷ xs) few zero (suc j) i a b =
    let one : one_if (eqb x i) ≡ 1 = ap one_if (same_numbers x i (let f : Some x ≡ Some i = a in cc)) in
    absurd (omega (arith, one, few i, count_some xs j i b, count_first i x xs))
once_if (x ∷ xs) few (suc k) zero i a b =
    let one : one_if (eqb x i) ≡ 1 = ap one_if (same_numbers x i (let f : Some x ≡ Some i = b in cc)) in
    absurd (omega (arith, one, few i, count_some xs k i a, count_first i x xs))
once_if (x ∷ xs) few (suc k) (suc j) i a b = ap suc (once_if xs (λ z. omega (arith, few z, count_first z x xs)) k j i a b)

none_before : (n : ℕ) (ds : List Bool) (i : ℕ) → i < n → count i (kept_from n ds) ≡ 0
none_before n [] i low = refl
none_before n (true ∷ ds) i low = none_before (n + 1) ds i (omega (arith, low))
none_before n (false ∷ ds) i low =
    let none : one_if (eqb n i) ≡ 0 = ap one_if (not_eq n i (λ e. omega (arith, e, low))) in
    omega (arith, none, none_before (n + 1) ds i (omega (arith, low)), count_first i n (kept_from (n + 1) ds))

kept_once : (n : ℕ) (ds : List Bool) (i : ℕ) → count i (kept_from n ds) ≤ 1
kept_once n [] i = omega arith
kept_once n (true ∷ ds) i = kept_once (n + 1) ds i
kept_once n (false ∷ ds) i =
    elim (same_or_not n i) [
      | inl e ↦
          let one : one_if (eqb n i) ≡ 1 = ap one_if (same_numbers n i e) in
          omega (arith, one, none_before (n + 1) ds i (omega (arith, e)), count_first i n (kept_from (n + 1) ds))
      | inr apart ↦
          let none : one_if (eqb n i) ≡ 0 = ap one_if (not_eq n i apart) in
          omega (arith, none, kept_once (n + 1) ds i, count_first i n (kept_from (n + 1) ds))
    ]

pub moved_once : (ds : List Bool) (kept : List ℕ) → IsPermutation (kept_from 0 ds) kept → AreOnce kept
moved_once ds kept moved = once_if kept (λ i. omega (
  arith,
  sum_by-IsPermutation (λ x. one_if (eqb x i)) (kept_from 0 ds) kept moved,
  kept_once 0 ds i,
))

pub kept_many : (ds : List Bool) (kept : List ℕ) → IsPermutation (kept_from 0 ds) kept → length kept ≤ length ds
kept_many ds kept moved = omega (arith, length_permutation (kept_from 0 ds) kept moved, kept_few 0 ds)

-- a place that is kept, in whatever order, has a wish
pub moved_is : (ds : List Bool) (kept : List ℕ) → IsPermutation (kept_from 0 ds) kept → (k i : ℕ) → slice_get kept k ≡ Some i → slice_get ds i ≡ Some false
moved_is ds kept moved k i e =
    let old = at_moved kept (kept_from 0 ds) (IsPermutation-sym (kept_from 0 ds) kept moved) k i e in
    let r = kept_is 0 ds old.0 i old.1 in
    let same : i ≡ r.0 = omega (arith, r.1) in
    ap (slice_get ds) same ∙ r.2

pub moved_has : (ds : List Bool) (kept : List ℕ) → IsPermutation (kept_from 0 ds) kept → (i : ℕ) → slice_get ds i ≡ Some false
    → (k : ℕ) × (slice_get kept k ≡ Some i)
moved_has ds kept moved i e =
    let r = kept_has 0 ds i e in
    let none : 0 + i ≡ i = omega arith in
    at_moved (kept_from 0 ds) kept moved r.0 i (r.1 ∙ ap (λ (z : ℕ). Some z) none)

pub nil_if : (bs : List Behaviour) → bs ≢ [] → is_nil bs ≡ false
nil_if [] h = absurd (h refl)
nil_if (b ∷ bs) h = refl

pub nil_not : (bs : List Behaviour) → is_nil bs ≡ false → bs ≢ []
nil_not [] e f = (let g : true ≡ false = e in cc)
nil_not (b ∷ bs) e f = (let g : b ∷ bs ≡ [] = f in cc)

-- a place that is kept is one of those
index_is : (xs : List ℕ) (k d i : ℕ) → slice_get xs k ≡ Some i → slice_index_or xs k d ≡ i
index_is [] k d i e = absurd (let f : None ≡ Some i = e in cc)
index_is (x ∷ xs) zero d i e = (let f : Some x ≡ Some i = e in cc)
index_is (x ∷ xs) (suc k) d i e = index_is xs k d i e

pub kept_low : (ds : List Bool) (kept : List ℕ) → IsPermutation (kept_from 0 ds) kept → (k d : ℕ) → k < length kept → slice_index_or kept k d < length ds
kept_low ds kept moved k d low =
    let i = item_at kept k low in
    omega (arith, index_is kept k d i.0 i.1, place_below ds i.0 false (moved_is ds kept moved k i.0 i.1))

-- ---- the table of the new places

abbrev Table : Type 0
Table = List (Option ℕ)

pub placed_many : (n : ℕ) (table : Table) (ks : List ℕ) → length (placed n table ks) ≡ length table
placed_many n table [] = refl
placed_many n table (q ∷ ks) = placed_many (n + 1) (slice_set table q (Some n)) ks ∙ length-set table q (Some n)

-- what none of the places names stays
untouched : (n : ℕ) (table : Table) (ks : List ℕ) (i : ℕ) → ((p : ℕ) → slice_get ks p ≡ Some i → ⊥)
    → slice_get (placed n table ks) i ≡ slice_get table i
untouched n table [] i none = refl
untouched n table (q ∷ ks) i none =
    untouched (n + 1) (slice_set table q (Some n)) ks i (λ p e. none (suc p) e)
    ∙ set_other table q i (Some n) (λ e. none 0 (ap (λ (z : ℕ). Some z) (sym e)))

placed_forth : (n : ℕ) (table : Table) (ks : List ℕ) → AreOnce ks → (k i : ℕ) → slice_get ks k ≡ Some i → i < length table
    → slice_get (placed n table ks) i ≡ Some (Some (n + k))
placed_forth n table [] once k i e low = absurd (let f : None ≡ Some i = e in cc)
placed_forth n table (q ∷ ks) once zero i e low =
    let same : q ≡ i = (let f : Some q ≡ Some i = e in cc) in
    let none : n ≡ n + 0 = omega arith in
    untouched (n + 1) (slice_set table q (Some n)) ks i (λ p is. (let z : 0 ≡ suc p = once 0 (suc p) i e is in omega (arith, z)))
    ∙ subst (λ (z : ℕ). slice_get (slice_set table q (Some n)) z ≡ Some (Some n)) same (set_same table q (Some n) (omega (arith, low, same)))
    ∙ ap (λ (z : ℕ). Some (Some z)) none
placed_forth n table (q ∷ ks) once (suc k) i e low =
    let one : n + 1 + k ≡ n + suc k = omega arith in
    placed_forth (n + 1) (slice_set table q (Some n)) ks (λ a b z x y. (let s : suc a ≡ suc b = once (suc a) (suc b) z x y in omega (arith, s))) k i e
    (omega (arith, low, length-set table q (Some n)))
    ∙ ap (λ (z : ℕ). Some (Some z)) one

placed_back : (n : ℕ) (table : Table) (ks : List ℕ) (i k : ℕ) → slice_get (placed n table ks) i ≡ Some (Some k)
    → (slice_get table i ≡ Some (Some k)) ⊎ ((p : ℕ) × (k ≡ n + p) × (slice_get ks p ≡ Some i))
placed_back n table [] i k e = inl e
placed_back n table (q ∷ ks) i k e =
    let t : Table = slice_set table q (Some n) in
    elim (placed_back (n + 1) t ks i k e) [
      | inr r ↦ inr (suc r.0, omega (arith, r.1), r.2)
      | inl h ↦ elim (same_or_not i q) [
        | inr apart ↦ inl (sym (set_other table q i (Some n) apart) ∙ h)
        | inl same ↦
            let low : q < length table = omega (arith, same, place_below t i (Some k) h, length-set table q (Some n)) in
            let there : slice_get t i ≡ Some (Some n) = ap (slice_get t) same ∙ set_same table q (Some n) low in
            let f : Some (Some n) ≡ Some (Some k) = sym there ∙ h in
            let g : Some n ≡ Some k = cc in
            let now : n ≡ k = cc in
            inr (0, omega (arith, now), ap (λ (z : ℕ). Some z) (sym same))
      ]
    ]

abbrev nothing : Option ℕ
nothing = None

none_there : (many i k : ℕ) → slice_get (replicate many None) i ≡ Some (Some k) → ⊥
none_there zero i k e = (let f : None ≡ Some (Some k) = e in cc)
none_there (suc many) zero k e = (let f : Some None ≡ Some (Some k) = e in let g : None ≡ Some k = cc in cc)
none_there (suc many) (suc i) k e = none_there many i k e

pub forth : (many : ℕ) (kept : List ℕ) → AreOnce kept → (k i : ℕ) → slice_get kept k ≡ Some i → i < many
    → slice_get (places_of many kept) i ≡ Some (Some k)
forth many kept once k i e low =
    let none : 0 + k ≡ k = omega arith in
    placed_forth 0 (replicate many None) kept once k i e (omega (arith, low, length-replicate many nothing))
    ∙ ap (λ (z : ℕ). Some (Some z)) none

pub back : (many : ℕ) (kept : List ℕ) (i k : ℕ) → slice_get (places_of many kept) i ≡ Some (Some k) → slice_get kept k ≡ Some i
back many kept i k e =
    elim (placed_back 0 (replicate many None) kept i k e) [
      | inl h ↦ absurd (none_there many i k h)
      | inr r ↦ (let same : k ≡ r.0 = omega (arith, r.1) in ap (slice_get kept) same ∙ r.2)
    ]

pub places_many : (many : ℕ) (kept : List ℕ) → length (places_of many kept) ≡ many
places_many many kept = placed_many 0 (replicate many None) kept ∙ length-replicate many nothing
