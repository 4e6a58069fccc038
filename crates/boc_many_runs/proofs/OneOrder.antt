-- Numbers have one order, and so one spread.
use Rattle.std.proofs.Common.{◌≡◌, ◌∙◌, ℕ, zero, suc, ◌+◌, ◌<◌, ◌≤◌, Bool, true, false, not, cond, List, [], ◌∷◌, length, get_or, arith, refl, ap, sym}
use Rattle.std.proofs.Common.{true≢false, is_lt, Ordering, Less, Equal, Greater, Option, Some}
use Rattle.std.specs.Prelude.{slice_get}
use Rattle.std.specs.Cmp.{IsTotalOrder}
use Rattle.std.specs.List.{count_by}
use Rattle.std.specs.List.Sorted.{IsPermutation, IsSorted}
use Rattle.std.proofs.lemmas.Cmp.{alike_right}
use Rattle.std.proofs.lemmas.List.MinMax.{ranks_by}
use Rattle.std.proofs.lemmas.List.Sorted.{IsPermutation-sym, IsPermutation-trans, length_permutation, sorted_far, sum_by-IsPermutation}
use Rattle.std.proofs.lemmas.List.Sums.{sum_by-cons}
use Rattle.std.proofs.lemmas.Option.{get_or_from_slice_get, slice_get_within}
use Rattle.boc_many_runs.specs.Spreads.{AreSpread}

-- ---- lists

-- two lists with the same elements at each place are one
pub same_lists : {A : Type 0} (xs ys : List A) → length xs ≡ length ys
    → ((k : ℕ) (a b : A) → slice_get xs k ≡ Some a → slice_get ys k ≡ Some b → a ≡ b) → xs ≡ ys
same_lists [] [] long each = refl
same_lists [] (y ∷ ys) long each = absurd (omega (arith, long))
same_lists (x ∷ xs) [] long each = absurd (omega (arith, long))
same_lists (x ∷ xs) (y ∷ ys) long each =
    ap (λ z. z ∷ xs) (each 0 x y refl refl) ∙ ap (λ zs. y ∷ zs) (same_lists xs ys (omega (arith, long)) (λ k. each (suc k)))

pub count_yes : (b : Bool) → b ≡ true → cond {A = ℕ} b 1 0 ≡ 1
count_yes true e = refl
count_yes false e = absurd (true≢false (sym e))

pub count_no : (b : Bool) → b ≡ false → cond {A = ℕ} b 1 0 ≡ 0
count_no true e = absurd (true≢false e)
count_no false e = refl

pub count_few : (b : Bool) → cond {A = ℕ} b 1 0 ≤ 1
count_few true = omega arith
count_few false = omega arith

-- as many as pass at the front are counted at least
count_front : {A : Type 0} (p : A → Bool) (xs : List A) (n : ℕ) (d : A) → n ≤ length xs → ((k : ℕ) → k < n → p (get_or xs k d) ≡ true) → n ≤ count_by p xs
count_front p xs zero d long each = omega arith
count_front p [] (suc n) d long each = absurd (omega (arith, long))
count_front p (x ∷ xs) (suc n) d long each =
    let first : p x ≡ true = each 0 (omega arith) in
    omega (arith, sum_by-cons (λ y. cond (p y) 1 0) x xs, count_yes (p x) first, count_front p xs n d (omega (arith, long)) (λ k low. each (suc k) (omega (arith, low))))

-- where none passes from a place on, no more are counted than stand before it
count_rest : {A : Type 0} (p : A → Bool) (xs : List A) (n : ℕ) (d : A) → ((k : ℕ) → n ≤ k → k < length xs → p (get_or xs k d) ≡ false) → count_by p xs ≤ n
count_rest p [] n d each = omega arith
count_rest p (x ∷ xs) zero d each =
    let first : p x ≡ false = each 0 (omega arith) (omega arith) in
    omega (arith, sum_by-cons (λ y. cond (p y) 1 0) x xs, count_no (p x) first, count_rest p xs zero d (λ k high low. each (suc k) (omega arith) (omega (arith, low))))
count_rest p (x ∷ xs) (suc n) d each =
    omega (arith, sum_by-cons (λ y. cond (p y) 1 0) x xs, count_few (p x), count_rest p xs n d (λ k high low. each (suc k) (omega (arith, high)) (omega (arith, low))))

-- ---- one order

module _ {X : Type 0} (cmp : X → X → Ordering) (o : IsTotalOrder cmp) (same : (x y : X) → cmp x y ≡ Equal → x ≡ y) where
  -- what is not less than more than a number is more than it
  still_more : (a b z : X) → cmp a b ≡ Less → is_lt (cmp z b) ≡ false → cmp a z ≡ Less
  still_more a b z less behind = by (cmp z b) refl
    where
      by : (r : Ordering) → cmp z b ≡ r → cmp a z ≡ Less
      by Less e = absurd (true≢false (rw e at behind))
      by Equal e = alike_right o z b a e ∙ less
      by Greater e = o.trans a b z less (o.antisymm b z ∙ rw e refl)

  -- at no place is one order of the same numbers less than another
  none_less : (ys zs : List X) → IsPermutation ys zs → IsSorted cmp ys → IsSorted cmp zs → (i : ℕ) (d : X) → i < length ys
      → cmp (get_or ys i d) (get_or zs i d) ≡ Less → ⊥
  none_less ys zs moved up too i d low less =
      let a : X = get_or ys i d in
      let long : length zs ≡ length ys = length_permutation ys zs moved in
      let p : X → Bool = λ x. not (is_lt (cmp a x)) in
      let front : i + 1 ≤ count_by p ys = count_front p ys (i + 1) d (omega (arith, low)) (λ k before.
      ap not (sorted_far (λ x y. is_lt (cmp x y)) (ranks_by o (λ x. x)) ys up k i d (omega (arith, before)) low)) in
      let rest : count_by p zs ≤ i = count_rest p zs i d (λ k high there.
      let more : cmp a (get_or zs k d) ≡ Less = still_more a (get_or zs i d) (get_or zs k d) less
      (sorted_far (λ x y. is_lt (cmp x y)) (ranks_by o (λ x. x)) zs too i k d high there) in
      ap (λ r. not (is_lt r)) more) in
      omega (arith, front, rest, sum_by-IsPermutation (λ x. cond (p x) 1 0) ys zs moved)

  same_at : (ys zs : List X) → IsPermutation ys zs → IsSorted cmp ys → IsSorted cmp zs → (k : ℕ) (a b : X) → k < length ys → get_or ys k a ≡ a
      → get_or zs k a ≡ b → (r : Ordering) → cmp a b ≡ r → a ≡ b
  same_at ys zs moved up too k a b low here there Less e =
      absurd (none_less ys zs moved up too k a low (ap (λ x. cmp x (get_or zs k a)) here ∙ ap (cmp a) there ∙ e))
  same_at ys zs moved up too k a b low here there Equal e = same a b e
  same_at ys zs moved up too k a b low here there Greater e =
      let other : cmp b a ≡ Less = o.antisymm b a ∙ rw e refl in
      absurd (none_less zs ys (IsPermutation-sym ys zs moved) too up k a (omega (arith, low, length_permutation ys zs moved))
      (ap (λ x. cmp x (get_or ys k a)) there ∙ ap (cmp b) here ∙ other))

  pub one_order : (ys zs : List X) → IsPermutation ys zs → IsSorted cmp ys → IsSorted cmp zs → ys ≡ zs
  one_order ys zs moved up too =
      let long : length zs ≡ length ys = length_permutation ys zs moved in
      same_lists ys zs (sym long) (λ k a b ia ib. same_at ys zs moved up too k a b (slice_get_within ys k a ia) (get_or_from_slice_get ys k a a ia)
      (get_or_from_slice_get zs k b a ib) (cmp a b) refl)

  -- numbers have one spread
  pub one_spread : (xs : List X) (least median most least2 median2 most2 : X) → AreSpread cmp xs least median most → AreSpread cmp xs least2 median2 most2
      → (least ≡ least2) × (median ≡ median2) × (most ≡ most2)
  one_spread xs least median most least2 median2 most2 a b =
      let moved = IsPermutation-trans a.ys xs b.ys (IsPermutation-sym xs a.ys a.in_order.same) b.in_order.same in
      let one : a.ys ≡ b.ys = one_order a.ys b.ys moved a.in_order.rising b.in_order.rising in (
        got _ least least2 a.least_is (ap (λ ys. slice_get ys 0) one ∙ b.least_is),
        got _ median median2 a.median_is (ap (λ ys. slice_get ys _) one ∙ b.median_is),
        got _ most most2 a.most_is (ap (λ ys. slice_get ys _) one ∙ b.most_is),
      )
    where
      got : (read : Option X) (x y : X) → read ≡ Some x → read ≡ Some y → x ≡ y
      got read x y e f = let g : Some x ≡ Some y = sym e ∙ f in cc
