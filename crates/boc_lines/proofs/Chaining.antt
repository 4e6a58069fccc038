-- The rows that a chain goes through, row by row.
use Rattle.std.proofs.Common.{◌≡◌, ℕ, zero, suc, ◌+◌, ◌≤◌, ◌<◌, List, [], ◌∷◌, ◌++◌, Bool, true, false, refl, sym, ap, ◌∙◌, subst, arith, length, map, drop, get_or, min, sum, append_assoc, append-nil}
use Rattle.std.specs.Prelude.{nat_eq, if◌then◌else◌}
use Rattle.std.proofs.Math.Seq.{drop-cons}
use Rattle.std.proofs.Math.ListN.{drop_of_length-le}
use Rattle.std.proofs.lemmas.List.Sums.{sum_by-cons}
use Rattle.boc_runs.specs.declared.rows.Row.{Row}
use Rattle.boc_plans.specs.declared.chain.ChainStep.{ChainStep}
use Rattle.boc_plans.specs.Chains.{weight_of}
use Rattle.boc_lines.specs.Chained.{GoesThrough, steps_after, through_from, weight_on}
use Rattle.boc_lines.specs.Replays.{least_of_each}
use Rattle.boc_lines.proofs.Places.{next_place}

-- What was found of the rows before one, where the steps before a place were taken.
pub record IsUnderWay (rows : List Row) (chain : List ChainStep) (row at : ℕ) (through : List ℕ) : Type 0 where
  pub so_far : through ++ through_from row (drop row rows) (drop at chain) ≡ through_from 0 rows chain
  pub forth : GoesThrough row (drop row rows) (drop at chain) → GoesThrough 0 rows chain
  pub back : GoesThrough 0 rows chain → GoesThrough row (drop row rows) (drop at chain)

pub chain_begun : (rows : List Row) (chain : List ChainStep) → IsUnderWay rows chain 0 0 []
chain_begun rows chain = record { so_far = refl; forth = λ r. r; back = λ r. r }

row_on : (rows : List Row) (i : ℕ) (x : Row) → i < length rows → x ≡ get_or rows i x → drop i rows ≡ x ∷ drop (i + 1) rows
row_on rows i x h is = drop-cons rows i x h ∙ ap (λ y. y ∷ drop (suc i) rows) (sym is) ∙ ap (λ n. x ∷ drop n rows) (next_place i)

pub chain_more : (rows : List Row) (chain : List ChainStep) (row at next w : ℕ) (through : List ℕ) (x : Row) → row < length rows → x ≡ get_or rows row x
    → w ≡ weight_on row (drop at chain) → w ≤ x.ticks → drop next chain ≡ steps_after row (drop at chain)
    → IsUnderWay rows chain row at through → IsUnderWay rows chain (row + 1) next (through ++ w ∷ [])
chain_more rows chain row at next w through x h is w_is few next_is u =
    let on = row_on rows row x h is in
    record {
      so_far = append_assoc through (w ∷ []) (through_from (row + 1) (drop (row + 1) rows) (drop next chain))
          ∙ ap (λ n. through ++ n ∷ through_from (row + 1) (drop (row + 1) rows) (drop next chain)) w_is
          ∙ ap (λ steps. through ++ weight_on row (drop at chain) ∷ through_from (row + 1) (drop (row + 1) rows) steps) next_is
          ∙ ap (λ xs. through ++ through_from row xs (drop at chain)) (sym on)
          ∙ u.so_far;
      forth = λ g. u.forth (subst (λ xs. GoesThrough row xs (drop at chain)) (sym on)
          (subst (λ n. n ≤ x.ticks) w_is few, subst (GoesThrough (row + 1) (drop (row + 1) rows)) next_is g));
      back = λ g. subst (GoesThrough (row + 1) (drop (row + 1) rows)) (sym next_is) (subst (λ xs. GoesThrough row xs (drop at chain)) on (u.back g)).1;
    }

-- a step that weighs more than its row takes
pub chain_heavy : (rows : List Row) (chain : List ChainStep) (row at w : ℕ) (through : List ℕ) (x : Row) → row < length rows → x ≡ get_or rows row x
    → w ≡ weight_on row (drop at chain) → x.ticks < w → IsUnderWay rows chain row at through → GoesThrough 0 rows chain → ⊥
chain_heavy rows chain row at w through x h is w_is many u g =
    let own = (subst (λ xs. GoesThrough row xs (drop at chain)) (row_on rows row x h is) (u.back g)).0 in
    absurd (omega (arith, own, w_is, many))

some_left : (chain : List ChainStep) (at : ℕ) → at < length chain → drop at chain ≡ [] → ⊥
some_left (s ∷ chain) zero h e = absurd cc
some_left (s ∷ chain) (suc at) h e = some_left chain at (omega (arith, h)) e
some_left [] at h e = absurd (omega (arith, h))

-- a step that is of no row
pub chain_left : (rows : List Row) (chain : List ChainStep) (row at : ℕ) (through : List ℕ) → length rows ≤ row → at < length chain
    → IsUnderWay rows chain row at through → GoesThrough 0 rows chain → ⊥
chain_left rows chain row at through h left u g =
    some_left chain at left (subst (λ xs. GoesThrough row xs (drop at chain)) (drop_of_length-le rows h) (u.back g))

pub chain_done : (rows : List Row) (chain : List ChainStep) (row at : ℕ) (through : List ℕ) → length rows ≤ row → length chain ≤ at
    → IsUnderWay rows chain row at through → GoesThrough 0 rows chain × (through ≡ through_from 0 rows chain)
chain_done rows chain row at through h all u =
    let none : drop row rows ≡ [] = drop_of_length-le rows h in (
      u.forth (subst (λ xs. GoesThrough row xs (drop at chain)) (sym none) (drop_of_length-le chain all)),
      sym (append-nil through) ∙ ap (λ xs. through ++ through_from row xs (drop at chain)) (sym none) ∙ u.so_far,
    )

-- ---- the weight of all

pub length_through : (row : ℕ) (rows : List Row) (steps : List ChainStep) → length (through_from row rows steps) ≡ length rows
length_through row [] steps = refl
length_through row (x ∷ rows) steps = ap suc (length_through (row + 1) rows (steps_after row steps))

weighs_if : (b : Bool) (s : ChainStep) (steps : List ChainStep)
    → (if b then s.weight else 0) + weight_of (if b then steps else s ∷ steps) ≡ weight_of (s ∷ steps)
weighs_if true s steps = sym (sum_by-cons (λ (t : ChainStep). t.weight) s steps)
weighs_if false s steps = omega arith

weighs : (row : ℕ) (steps : List ChainStep) → weight_on row steps + weight_of (steps_after row steps) ≡ weight_of steps
weighs row [] = omega arith
weighs row (s ∷ steps) = weighs_if (nat_eq s.row row) s steps

least : (m n : ℕ) → m ≤ n → min m n ≡ m
least m n h = omega (arith, h)

pub own_weight : (row : ℕ) (rows : List Row) (steps : List ChainStep) → GoesThrough row rows steps
    → sum (least_of_each (through_from row rows steps) (map (λ (x : Row). x.ticks) rows)) ≡ weight_of steps
own_weight row [] steps g = ap weight_of (sym g)
own_weight row (x ∷ rows) steps g =
    let w = weight_on row steps in
    let rest = least_of_each (through_from (row + 1) rows (steps_after row steps)) (map (λ (y : Row). y.ticks) rows) in
    sum_by-cons (λ n. n) (min w x.ticks) rest
    ∙ ap (λ n. n + sum rest) (least w x.ticks g.0)
    ∙ ap (λ n. w + n) (own_weight (row + 1) rows (steps_after row steps) g.1)
    ∙ weighs row steps
