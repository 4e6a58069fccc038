-- Two searches of a program that went through all fronts have found the same ends, and tell them alike.
use Rattle.std.proofs.Common.{◌≡◌, ◌↔◌, ◌+◌, ℕ, suc, ◌<◌, ◌≤◌, inl, inr, Bool, true, false, ℤ, List, [], ◌∷◌, ◌++◌, map, refl, sym, ◌∙◌, ap, subst, arith}
use Rattle.std.specs.Prelude.{min, max, codes, decimal}
use Rattle.std.specs.List.{Contains, AllByRecursion}
use Rattle.std.specs.List.Sorted.{IsStrictlySortedBy}
use Rattle.std.specs.Ordering.{int_cmp, ordering_reverse}
use Rattle.std.specs.declared.cmp.Ordering.{Ordering}
use Rattle.std.specs.declared.cmp.Ordering.TheVariants.{Less, Greater}
use Rattle.std.specs.Cmp.{int_cmp_total}
use Rattle.std.specs.Cmp.Lexicographic.{slice_cmp, lists_total}
use Rattle.boc_program.specs.declared.cown.Cown.{Cown}
use Rattle.boc_program.specs.declared.limits.TheConstants.{MOST_ROWS}
use Rattle.boc_program.specs.declared.program.Program.{Program}
use Rattle.boc_program.proofs.RisingNumbers.{has_first, has_later, first_or_later, none_in_none}
use Rattle.boc_ends_report.specs.ValueTexts.{values_text}
use Rattle.boc_all_ends.specs.declared.found.End.{End}
use Rattle.boc_all_ends.specs.declared.found.Found.{Found}
use Rattle.boc_all_ends.specs.Ends.{IsEnd, AreEndsBelow, IsEndless, IsFound}
use Rattle.boc_all_ends.proofs.EndsOfLayers.{order_of_end}
use Rattle.boc_all_ends_report.specs.EndTexts.{rows_line, least_of, most_of, bounds_line, endless_line, end_texts, told_ends}

-- ---- values in order

abbrev compare : List ℤ → List ℤ → Ordering
compare a b = slice_cmp int_cmp a b

abbrev values_of : End → List ℤ
values_of e = e.values.items

abbrev InOrder : List End → Type 0
InOrder es = IsStrictlySortedBy compare (map values_of es)

-- values aren't before themselves, nor before and behind the same
turned : (r s : Ordering) → r ≡ ordering_reverse s → r ≡ Less → s ≡ Less → ⊥
turned r s is less more = (let f : Less ≡ ordering_reverse Less = sym less ∙ is ∙ ap ordering_reverse more in let g : Less ≡ Greater = f in cc)

not_both : (a b : List ℤ) → compare a b ≡ Less → compare b a ≡ Less → ⊥
not_both a b less more = turned (compare a b) (compare b a) ((lists_total int_cmp_total).antisymm a b) less more

not_itself : (a b : List ℤ) → a ≡ b → compare a b ≡ Less → ⊥
not_itself a b same less = not_both a b less (ap (λ z. compare b z) same ∙ ap (λ z. compare z b) (sym same) ∙ less)

-- an end that comes later has greater values
later_is_above : (v : List ℤ) (es : List End) (e : End) → AllByRecursion (λ w. compare v w ≡ Less) (map values_of es) → Contains es e
    → compare v (values_of e) ≡ Less
later_is_above v [] e all among = absurd (none_in_none e among)
later_is_above v (x ∷ es) e all among =
    elim (first_or_later x e es among) [
      | inl is ↦ ap (λ z. compare v (values_of z)) (sym is) ∙ all.0
      | inr later ↦ later_is_above v es e all.1 later
    ]

-- the values of the first end are below those of the others, which stand in order
first_below : (x : End) (es : List End) → InOrder (x ∷ es) → AllByRecursion (λ w. compare (values_of x) w ≡ Less) (map values_of es) × InOrder es
unfolding IsStrictlySortedBy
first_below x es order = order

-- ends with the same values are one
one_end : (es : List End) (a b : End) → InOrder es → Contains es a → Contains es b → values_of a ≡ values_of b → a ≡ b
one_end [] a b order here there same = absurd (none_in_none a here)
one_end (x ∷ es) a b order here there same =
    let o = first_below x es order in
    elim (first_or_later x a es here) [
      | inl is ↦ elim (first_or_later x b es there) [
        | inl other ↦ sym is ∙ other
        | inr later ↦ absurd (not_itself (values_of x) (values_of b) (ap values_of is ∙ same) (later_is_above (values_of x) es b o.0 later))
      ]
      | inr before ↦ elim (first_or_later x b es there) [
        | inl other ↦ absurd (not_itself (values_of x) (values_of a) (ap values_of other ∙ sym same) (later_is_above (values_of x) es a o.0 before))
        | inr later ↦ one_end es a b o.1 before later same
      ]
    ]

-- ---- the same ends

-- each end of the one is one of the other, with as few rows and as many at least
abbrev Covers : List End → List End → Type 0
Covers xs ys = (e : End) → Contains xs e → (f : End) × Contains ys f × (values_of f ≡ values_of e) × (f.least ≤ e.least) × (e.most ≤ f.most)

-- the same ends, one by one
abbrev AreSame : List End → List End → Type 0
AreSame [] [] = Unit {0}
AreSame [] (y ∷ ys) = ⊥
AreSame (x ∷ xs) [] = ⊥
AreSame (x ∷ xs) (y ∷ ys) = (values_of x ≡ values_of y) × (x.least ≡ y.least) × (x.most ≡ y.most) × AreSame xs ys

-- the others are covered by the others
others_cover : (x y : End) (xs ys : List End) → InOrder (x ∷ xs) → values_of x ≡ values_of y → Covers (x ∷ xs) (y ∷ ys) → Covers xs ys
others_cover x y xs ys order same covers e among =
    let f = covers e (has_later x e xs among) in
    elim (first_or_later y f.0 ys f.1) [
      | inl is ↦ absurd (not_itself (values_of x) (values_of e) (same ∙ ap values_of is ∙ f.2)
          (later_is_above (values_of x) xs e (first_below x xs order).0 among))
      | inr later ↦ (f.0, later, f.2, f.3, f.4)
    ]

-- an end of which the other has the first values is covered by its first end
first_covers : (x y : End) (xs ys : List End) → InOrder (y ∷ ys) → values_of x ≡ values_of y → Covers (x ∷ xs) (y ∷ ys)
    → (y.least ≤ x.least) × (x.most ≤ y.most)
first_covers x y xs ys order same covers =
    let f = covers x (has_first x xs) in
    let is : f.0 ≡ y = one_end (y ∷ ys) f.0 y order f.1 (has_first y ys) (f.2 ∙ same) in
    (subst (λ (z : End). z.least ≤ x.least) is f.3, subst (λ (z : End). x.most ≤ z.most) is f.4)

same_first : (x y : End) (xs ys : List End) → InOrder (x ∷ xs) → InOrder (y ∷ ys) → Covers (x ∷ xs) (y ∷ ys) → Covers (y ∷ ys) (x ∷ xs)
    → values_of x ≡ values_of y
same_first x y xs ys order other covers back =
    let f = covers x (has_first x xs) in
    let g = back y (has_first y ys) in
    elim (first_or_later y f.0 ys f.1) [
      | inl is ↦ sym f.2 ∙ ap values_of (sym is)
      | inr later ↦ elim (first_or_later x g.0 xs g.1) [
        | inl is ↦ ap values_of is ∙ g.2
        | inr too ↦ absurd (not_both (values_of x) (values_of y)
            (ap (λ v. compare (values_of x) v) (sym g.2) ∙ later_is_above (values_of x) xs g.0 (first_below x xs order).0 too)
            (ap (λ v. compare (values_of y) v) (sym f.2) ∙ later_is_above (values_of y) ys f.0 (first_below y ys other).0 later))
      ]
    ]

same_ends : (xs ys : List End) → InOrder xs → InOrder ys → Covers xs ys → Covers ys xs → AreSame xs ys
same_ends [] [] order other covers back = tt
same_ends [] (y ∷ ys) order other covers back = let f = back y (has_first y ys) in absurd (none_in_none f.0 f.1)
same_ends (x ∷ xs) [] order other covers back = let f = covers x (has_first x xs) in absurd (none_in_none f.0 f.1)
same_ends (x ∷ xs) (y ∷ ys) order other covers back =
    let same = same_first x y xs ys order other covers back in
    let here = first_covers x y xs ys other same covers in
    let there = first_covers y x ys xs order (sym same) back in (
      same,
      omega (arith, here.0, there.0),
      omega (arith, here.1, there.1),
      same_ends xs ys (first_below x xs order).1 (first_below y ys other).1 (others_cover x y xs ys order same covers)
          (others_cover y x ys xs other (sym same) back),
    )

-- ---- told alike

same_texts : (cowns : List Cown) (number : ℕ) (xs ys : List End) → AreSame xs ys → end_texts cowns number xs ≡ end_texts cowns number ys
same_texts cowns number [] [] s = refl
same_texts cowns number [] (y ∷ ys) s = absurd s
same_texts cowns number (x ∷ xs) [] s = absurd s
same_texts cowns number (x ∷ xs) (y ∷ ys) s =
    let rest = same_texts cowns (suc number) xs ys s.3 in
    λ i. (codes "end " ++ decimal number ++ codes " " ++ rows_line (s.1 i) (s.2 i) ++ values_text cowns (s.0 i)) ++ rest i

same_least : (n : ℕ) (xs ys : List End) → AreSame xs ys → least_of n xs ≡ least_of n ys
same_least n [] [] s = refl
same_least n [] (y ∷ ys) s = absurd s
same_least n (x ∷ xs) [] s = absurd s
same_least n (x ∷ xs) (y ∷ ys) s = same_least (min n x.least) xs ys s.3 ∙ ap (λ m. least_of (min n m) ys) s.1

same_most : (n : ℕ) (xs ys : List End) → AreSame xs ys → most_of n xs ≡ most_of n ys
same_most n [] [] s = refl
same_most n [] (y ∷ ys) s = absurd s
same_most n (x ∷ xs) [] s = absurd s
same_most n (x ∷ xs) (y ∷ ys) s = same_most (max n x.most) xs ys s.3 ∙ ap (λ m. most_of (max n m) ys) s.2

same_bounds : (xs ys : List End) → AreSame xs ys → bounds_line xs ≡ bounds_line ys
same_bounds [] [] s = refl
same_bounds [] (y ∷ ys) s = absurd s
same_bounds (x ∷ xs) [] s = absurd s
same_bounds (x ∷ xs) (y ∷ ys) s =
    let least : least_of x.least xs ≡ least_of y.least ys = same_least x.least xs ys s.3 ∙ ap (λ m. least_of m ys) s.1 in
    let most : most_of x.most xs ≡ most_of y.most ys = same_most x.most xs ys s.3 ∙ ap (λ m. most_of m ys) s.2 in
    λ i. rows_line (least i) (most i)

-- ---- two searches

-- an end is of a whole run, which has no more rows than there may be
few_rows : (p : Program) (rows below : ℕ) (values : List ℤ) → below ≡ MOST_ROWS + 1 → IsEnd p rows values → rows < below
few_rows p rows below values is end = let o = order_of_end p rows values end in omega (arith, is, o.many, o.whole.few)

-- what has all ends covers all
all_covered : (p : Program) (below under : ℕ) (xs ys : List End) → AreEndsBelow p below xs → AreEndsBelow p under ys → under ≡ MOST_ROWS + 1 → Covers xs ys
all_covered p below under xs ys a b whole e among =
    let f = b.all e.least (values_of e) (few_rows p e.least under (values_of e) whole (a.least e among)) (a.least e among) in
    let g = b.all e.most (values_of e) (few_rows p e.most under (values_of e) whole (a.most e among)) (a.most e among) in
    let is : g.end ≡ f.end = one_end ys g.end f.end b.in_order g.among f.among (g.values_are ∙ sym f.values_are) in
    (f.end, f.among, f.values_are, f.least, subst (λ (z : End). e.most ≤ z.most) is g.most)

-- of two tests that say the same, the one says what the other does
same_test : (a b : Bool) (P : Type 0) → (a ≡ true ↔ P) → (b ≡ true ↔ P) → a ≡ b
same_test true true P h k = refl
same_test false false P h k = refl
same_test true false P h k = sym (k.1 (h.0 refl))
same_test false true P h k = h.1 (k.0 refl)

pub one_text : (p : Program) (most other : ℕ) (cowns : List Cown) (a b : Found) → IsFound p most a → IsFound p other b → a.whole ≡ true → b.whole ≡ true
    → told_ends cowns a.endless a.all.items ≡ told_ends cowns b.endless b.all.items
one_text p most other cowns a b is also whole too =
    let there = all_covered p a.below b.below a.all.items b.all.items is.ends also.ends (also.whole too) in
    let back = all_covered p b.below a.below b.all.items a.all.items also.ends is.ends (is.whole whole) in
    let same = same_ends a.all.items b.all.items is.ends.in_order also.ends.in_order there back in
    let endless : a.endless ≡ b.endless = same_test a.endless b.endless (IsEndless p) (is.endless whole) (also.endless too) in
    let bounds = same_bounds a.all.items b.all.items same in
    let texts = same_texts cowns 1 a.all.items b.all.items same in
    λ i. bounds i ++ endless_line (endless i) ++ texts i
