-- Each run is in one bin, and has one best remedy at most.
use Rattle.std.proofs.Common.{◌≡◌, ◌∙◌, ℕ, zero, suc, ◌+◌, ◌*◌, ◌-◌, ◌/◌, ◌%◌, ◌<◌, ◌≤◌, Bool, true, false, cond, List, [], ◌∷◌, length, map}
use Rattle.std.proofs.Common.{arith, refl, ap, sym, Option, Some, None, ℤ, inl, inr}
use Rattle.std.specs.Prelude.{filter}
use Rattle.std.specs.List.{Contains, count_by, fold, range_with_len, sum_by}
use Rattle.std.proofs.lemmas.Bool.{cases_lt}
use Rattle.std.proofs.lemmas.Bool.Decides.{nat_tests}
use Rattle.std.proofs.lemmas.List.{length-map}
use Rattle.std.proofs.lemmas.List.FromFn.{length-range_with_len}
use Rattle.std.proofs.lemmas.List.Sums.{sum_by-append, sum_by-cons}
use Rattle.std.proofs.Math.Nat.{div-add-mod', mod-lt}
use Rattle.boc_remedies.specs.declared.remedy.Remedy.{Remedy}
use Rattle.boc_remedies.specs.InOrder.{put_before}
use Rattle.boc_many_runs.specs.declared.bins.Bin.{Bin}
use Rattle.boc_many_runs.specs.declared.lines.Line.{Line}
use Rattle.boc_many_runs.specs.Bins.{bin_at, bins_for, bins_of, first_of, is_within, last_of, width_of}
use Rattle.boc_many_runs.specs.Lines.{AreLines, AreLinesAt, best_in_run, bests, goes_before, is_at, is_told, ranked_line, times_best, told_places}
use Rattle.boc_many_runs.proofs.OneOrder.{count_few, count_no, count_yes}
use Rattle.boc_many_runs.proofs.Ranges.{range_more}

-- ---- sums

sum_more : {A : Type 0} (f g : A → ℕ) (xs : List A) → sum_by (λ x. f x + g x) xs ≡ sum_by f xs + sum_by g xs
sum_more f g [] = omega arith
sum_more f g (x ∷ xs) = omega (arith, sum_by-cons (λ y. f y + g y) x xs, sum_by-cons f x xs, sum_by-cons g x xs, sum_more f g xs)

sum_none : {A : Type 0} (xs : List A) → sum_by (λ x. 0) xs ≡ 0
sum_none [] = refl
sum_none (x ∷ xs) = omega (arith, sum_by-cons (λ y. 0) x xs, sum_none xs)

-- what is counted for each of some tests is what is counted for each of some numbers
swapped : {A B : Type 0} (test : A → B → Bool) (ks : List A) (xs : List B)
    → sum_by (λ k. count_by (test k) xs) ks ≡ sum_by (λ x. count_by (λ k. test k x) ks) xs
swapped test ks [] = sum_none ks
swapped test ks (x ∷ xs) =
    (λ i. sum_by (λ k. sum_by-cons (λ y. cond (test k y) 1 0) x xs i) ks)
    ∙ sum_more (λ k. cond (test k x) 1 0) (λ k. count_by (test k) xs) ks
    ∙ ap (λ n. count_by (λ k. test k x) ks + n) (swapped test ks xs)
    ∙ sym (sum_by-cons (λ y. count_by (λ k. test k y) ks) x xs)

sum_ones : {A : Type 0} (f : A → ℕ) (xs : List A) → ((x : A) → Contains xs x → f x ≡ 1) → sum_by f xs ≡ length xs
sum_ones f [] each = refl
sum_ones f (x ∷ xs) each =
    omega (arith, sum_by-cons f x xs, each x (0, omega arith, refl), sum_ones f xs (λ y (k, low, is). each y (suc k, omega (arith, low), is)))

sum_few : {A : Type 0} (f : A → ℕ) (xs : List A) → ((x : A) → f x ≤ 1) → sum_by f xs ≤ length xs
sum_few f [] each = omega arith
sum_few f (x ∷ xs) each = omega (arith, sum_by-cons f x xs, each x, sum_few f xs each)

sum_map : {A B : Type 0} (f : B → ℕ) (g : A → B) (xs : List A) → sum_by f (map g xs) ≡ sum_by (λ x. f (g x)) xs
sum_map f g [] = refl
sum_map f g (x ∷ xs) = omega (arith, sum_by-cons f (g x) (map g xs), sum_by-cons (λ y. f (g y)) x xs, sum_map f g xs)

-- how many of the numbers below one more pass
count_more : (test : ℕ → Bool) (n : ℕ) → count_by test (range_with_len 0 (n + 1)) ≡ count_by test (range_with_len 0 n) + cond (test n) 1 0
count_more test n =
    let f : ℕ → ℕ = λ k. cond (test k) 1 0 in
    omega (arith, ap (sum_by f) (range_more 0 n n (omega arith)), sum_by-append f (range_with_len 0 n) (n ∷ []), sum_by-cons f n [])

-- ---- bins

within_yes : (first last x : ℕ) → first ≤ x → x ≤ last → is_within first last x ≡ true
within_yes first last x low high = grind (arith, nat_tests)

within_low : (first last x : ℕ) → x < first → is_within first last x ≡ false
within_low first last x low = grind (arith, nat_tests)

within_high : (first last x : ℕ) → last < x → is_within first last x ≡ false
within_high first last x high = grind (arith, nat_tests)

module _ (least most x : ℕ) (low : least ≤ x) (high : x ≤ most) where
  abbrev pub in_bin : ℕ → Bool
  in_bin place = is_within (first_of least most place) (last_of least most place) x

  -- how many of the first bins have the number
  abbrev pub has : ℕ → ℕ
  has n = count_by in_bin (range_with_len 0 n)

  -- none of those that begin behind it, and one of those before
  has_one : (n : ℕ) → (least + n * width_of least most ≤ x → has n ≡ 0) × (x < least + n * width_of least most → has n ≡ 1)
  has_one zero = (λ h. refl, λ h. absurd (omega (arith, h, low)))
  has_one (suc n) =
      let so = has_one n in
      let e : suc n ≡ n + 1 = omega arith in
      let w : ℕ = width_of least most in
      let next : suc n * w ≡ n * w + w = omega arith in
      let more : has (suc n) ≡ has n + cond (in_bin n) 1 0 = ap has e ∙ count_more in_bin n in (
        λ h. (
            let out : in_bin n ≡ false = within_high (first_of least most n) (last_of least most n) x (omega (arith, h, next)) in
            omega (arith, more, count_no (in_bin n) out, so.0 (omega (arith, h, next)))),
        λ h. elim (cases_lt x (least + n * w)) [
          | inl before ↦ (
              let out : in_bin n ≡ false = within_low (first_of least most n) (last_of least most n) x before in
              omega (arith, more, count_no (in_bin n) out, so.1 before))
          | inr behind ↦ (
              let inside : in_bin n ≡ true = within_yes (first_of least most n) (last_of least most n) x behind (omega (arith, h, next, behind, high)) in
              omega (arith, more, count_yes (in_bin n) inside, so.0 behind))
        ],
      )

  pub in_one_bin : has (bins_for least most) ≡ 1
  in_one_bin =
      let d : ℕ = most - least in
      let w : ℕ = width_of least most in
      let some : 0 < w = omega arith in
      let split : d / w * w + d % w ≡ d = div-add-mod' d w in
      let next : (d / w + 1) * w ≡ d / w * w + w = omega arith in
      (has_one (bins_for least most)).1 (omega (arith, split, mod-lt d some, next, low, high))

-- each number is counted in one bin
pub bins_add_up : (xs : List ℕ) (least most : ℕ) → ((x : ℕ) → Contains xs x → (least ≤ x) × (x ≤ most))
    → sum_by (λ b. b.runs) (bins_of xs least most) ≡ length xs
bins_add_up xs least most within =
    let places : List ℕ = range_with_len 0 (bins_for least most) in
    let test : ℕ → ℕ → Bool = λ place x. is_within (first_of least most place) (last_of least most place) x in
    sum_map (λ (b : Bin). b.runs) (bin_at xs least most) places
    ∙ swapped test places xs
    ∙ sum_ones (λ x. count_by (λ place. test place x) places) xs (λ x is. let w = within x is in in_one_bin least most x w.0 w.1)

-- ---- the best

at_not : (place best : ℕ) → (place ≡ best → ⊥) → is_at place (Some best) ≡ false
at_not place best other = grind (arith, nat_tests)

-- of the places from 0 on a best one is at most one
best_once : (best n : ℕ) → (n ≤ best → count_by (λ place. is_at place (Some best)) (range_with_len 0 n) ≡ 0)
    × (count_by (λ place. is_at place (Some best)) (range_with_len 0 n) ≤ 1)
best_once best zero = (λ h. refl, omega arith)
best_once best (suc n) =
    let so = best_once best n in
    let e : suc n ≡ n + 1 = omega arith in
    let test : ℕ → Bool = λ place. is_at place (Some best) in
    let more : count_by test (range_with_len 0 (suc n)) ≡ count_by test (range_with_len 0 n) + cond (test n) 1 0 =
    ap (λ k. count_by test (range_with_len 0 k)) e ∙ count_more test n in (
      λ h. omega (arith, more, so.0 (omega (arith, h)), count_no (test n) (at_not n best (λ same. omega (arith, h, same)))),
      elim (cases_lt best n) [
        | inl before ↦ omega (arith, more, so.1, count_no (test n) (at_not n best (λ same. omega (arith, before, same))))
        | inr behind ↦ omega (arith, more, so.0 behind, count_few (test n))
      ],
    )

fewer_by : {A : Type 0} (q p : A → Bool) (x : A) (xs : List A) → count_by q (filter p xs) ≤ count_by q xs → (b : Bool) → p x ≡ b
    → count_by q (filter p (x ∷ xs)) ≤ count_by q (x ∷ xs)
fewer_by {A} q p x xs rest true e =
    let f : A → ℕ = λ y. cond (q y) 1 0 in
    rw e (omega (arith, sum_by-cons f x xs, sum_by-cons f x (filter p xs), rest))
fewer_by q p x xs rest false e = rw e (omega (arith, sum_by-cons (λ y. cond (q y) 1 0) x xs, rest))

fewer_of_some : {A : Type 0} (q p : A → Bool) (xs : List A) → count_by q (filter p xs) ≤ count_by q xs
fewer_of_some q p [] = omega arith
fewer_of_some q p (x ∷ xs) = fewer_by q p x xs (fewer_of_some q p xs) (p x) refl

at_most_once : (p : ℕ → Bool) (n : ℕ) (best : Option ℕ) → count_by (λ place. is_at place best) (filter p (range_with_len 0 n)) ≤ 1
at_most_once p n None = omega (arith, sum_none (filter p (range_with_len 0 n)))
at_most_once p n (Some best) =
    omega (arith, fewer_of_some (λ place. is_at place (Some best)) p (range_with_len 0 n), (best_once best n).1)

-- lines in their order have the same sum
put_by : {A : Type 0} (f : A → ℕ) (is : A → Bool) (x : A) (xs : List A) (own : A) → sum_by f (put_before is xs own) ≡ f own + sum_by f xs
    → (b : Bool) → is x ≡ b → sum_by f (put_before is (x ∷ xs) own) ≡ f own + sum_by f (x ∷ xs)
put_by f is x xs own rest true e = rw e (sum_by-cons f own (x ∷ xs))
put_by f is x xs own rest false e =
    rw e (omega (arith, sum_by-cons f x (put_before is xs own), sum_by-cons f x xs, rest))

sum_put : {A : Type 0} (f : A → ℕ) (is : A → Bool) (xs : List A) (own : A) → sum_by f (put_before is xs own) ≡ f own + sum_by f xs
sum_put f is [] own = sum_by-cons f own []
sum_put f is (x ∷ xs) own = put_by f is x xs own (sum_put f is xs own) (is x) refl

sum_ranked : (f : Line → ℕ) (ranked all : List Line) → sum_by f (fold ranked_line ranked all) ≡ sum_by f ranked + sum_by f all
sum_ranked f ranked [] = omega arith
sum_ranked f ranked (own ∷ all) =
    omega (arith, sum_ranked f (ranked_line ranked own) all, sum_put f (goes_before own) ranked own, sum_by-cons f own all)

module _ (remedies : List Remedy) (columns : List (List ℤ)) (runs : ℕ) where
  abbrev pub best_of : Line → ℕ
  best_of line = line.best_in

  abbrev pub times : ℕ → ℕ
  times place = times_best (bests remedies columns runs) place

  sum_lines : (places : List ℕ) (lines : List Line) → AreLinesAt remedies columns runs places lines → sum_by best_of lines ≡ sum_by times places
  sum_lines [] [] are = refl
  sum_lines [] (l ∷ lines) are = absurd (omega (arith, are.long))
  sum_lines (k ∷ places) [] are = absurd (omega (arith, are.long))
  sum_lines (k ∷ places) (l ∷ lines) are =
      omega (
        arith,
        (are.at 0 k l refl refl).best_in,
        sum_by-cons best_of l lines,
        sum_by-cons times k places,
        sum_lines places lines record {
          long = omega (arith, are.long);
          at = λ n place line ip il. are.at (suc n) place line ip il;
        },
      )

  -- a run has one best remedy at most
  pub bests_add_up : (lines : List Line) → AreLines remedies columns runs lines → sum_by (λ l. l.best_in) lines ≤ runs
  bests_add_up lines are =
      let all : List (Option ℕ) = bests remedies columns runs in
      let places : List ℕ = told_places remedies columns runs in
      let same : sum_by best_of lines ≡ sum_by best_of (fold ranked_line [] are.all) = ap (sum_by best_of) are.are in
      let long : length all ≡ runs = length-map (range_with_len 0 runs) (best_in_run remedies columns) ∙ length-range_with_len 0 runs in
      let each : sum_by (λ b. count_by (λ place. is_at place b) places) all ≤ length all =
      sum_few (λ b. count_by (λ place. is_at place b) places) all (at_most_once (is_told remedies columns runs) (length remedies)) in
      omega (arith, same, sum_ranked best_of [] are.all, sum_lines places are.all are.all_are, swapped is_at places all, each, long)
