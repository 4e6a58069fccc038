-- Loops over several cowns at once: a step of each.
use Rattle.std.proofs.Common.{◌≡◌, ◌+◌, ◌-◌, ◌<◌, ◌≤◌, ℕ, zero, suc, List, [], ◌∷◌, ◌++◌, length, drop, get_or, ap, refl, sym, ◌∙◌, arith, append-nil, Some, None}
use Rattle.std.specs.Prelude.{flat_map}
use Rattle.std.specs.List.{range_with_len}
use Rattle.std.proofs.lemmas.Grind.{flat_map-append}
use Rattle.std.proofs.lemmas.List.{append_assoc, drop_all, drop_more}
use Rattle.boc_remedies.specs.declared.ends.Ends.{Ends}
use Rattle.boc_remedies.specs.declared.together.Together.{Together}
use Rattle.boc_remedies.specs.Together.{lines_of}

-- ---- the best sets

-- one more number
range_more : (a n : ℕ) → range_with_len a (suc n) ≡ range_with_len a n ++ (a + n) ∷ []
range_more a zero =
    let e : a + 0 ≡ a = omega arith in
    rw e refl
range_more a (suc n) =
    let e : a + 1 + n ≡ a + suc n = omega arith in
    ap (λ (xs : List ℕ). a ∷ xs) (range_more (a + 1) n ∙ ap (λ (k : ℕ). range_with_len (a + 1) n ++ k ∷ []) e)

-- a step of the loop over numbers of families
pub numbers_step : {A : Type 0} (g : ℕ → List A) (more : ℕ) (sets after : List A) → 1 ≤ more → sets ≡ flat_map g (range_with_len 2 (more - 1))
    → after ≡ sets ++ g (more + 1) → after ≡ flat_map g (range_with_len 2 (more + 1 - 1))
numbers_step g more sets after low is push =
    let n : ℕ = more - 1 in
    let e : more + 1 - 1 ≡ suc n = omega (arith, low) in
    let k : 2 + n ≡ more + 1 = omega (arith, low) in
    push ∙ ap (λ xs. xs ++ g (more + 1)) is ∙ ap (λ xs. flat_map g (range_with_len 2 n) ++ xs) (sym (append-nil (g (more + 1))))
    ∙ ap (λ (j : ℕ). flat_map g (range_with_len 2 n) ++ flat_map g (j ∷ [])) (sym k)
    ∙ sym (flat_map-append g (range_with_len 2 n) ((2 + n) ∷ [])) ∙ ap (flat_map g) (sym (range_more 2 n))
    ∙ ap (λ (j : ℕ). flat_map g (range_with_len 2 j)) (sym e)

-- ---- lines

-- a step of the loop over sets
pub lines_step : (sets : List (List ℕ)) (left : List Ends) (i : ℕ) (set copy : List ℕ) (d : Ends) (lines after all : List Together) → i < length sets
    → length left ≡ length sets + 1 → set ≡ get_or sets i set → copy ≡ set → lines ++ lines_of (drop i sets) (drop i left) ≡ all
    → after ≡ lines ++ record { families = Some copy; ends = get_or left i d } ∷ [] → after ++ lines_of (drop (i + 1) sets) (drop (i + 1) left) ≡ all
lines_step sets left i set copy d lines after all low whole at same is push =
    let one : Together = record { families = Some copy; ends = get_or left i d } in
    let rest : List Together = lines_of (drop (i + 1) sets) (drop (i + 1) left) in
    let split : drop i sets ≡ copy ∷ drop (i + 1) sets =
    drop_more sets i set low ∙ ap (λ (s : List ℕ). s ∷ drop (i + 1) sets) (sym at ∙ sym same) in
    let split_left : drop i left ≡ get_or left i d ∷ drop (i + 1) left = drop_more left i d (omega (arith, low, whole)) in
    ap (λ (xs : List Together). xs ++ rest) push ∙ append_assoc lines (one ∷ []) rest
    ∙ ap (λ (xs : List Together). lines ++ xs) (λ k. lines_of (sym split k) (sym split_left k)) ∙ is

-- the line for every cown
pub lines_end : (sets : List (List ℕ)) (left : List Ends) (i n : ℕ) (d : Ends) (lines after all : List Together) → length sets ≤ i → i ≤ length sets
    → length left ≡ length sets + 1 → n ≡ length sets → lines ++ lines_of (drop i sets) (drop i left) ≡ all
    → after ≡ lines ++ record { families = None; ends = get_or left n d } ∷ [] → after ≡ all
lines_end sets left i n d lines after all high low whole count is push =
    let same : n ≡ i = omega (arith, high, low, count) in
    let split : drop i sets ≡ [] = drop_all i sets high in
    let split_left : drop i left ≡ get_or left i d ∷ drop (i + 1) left = drop_more left i d (omega (arith, low, whole)) in
    push ∙ ap (λ (k : ℕ). lines ++ record { families = None; ends = get_or left k d } ∷ []) same
    ∙ ap (λ (xs : List Together). lines ++ xs) (λ k. lines_of (sym split k) (sym split_left k)) ∙ is
