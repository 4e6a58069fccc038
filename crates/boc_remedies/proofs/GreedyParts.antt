-- What the parts of a greedy why say of one another.
use Rattle.std.proofs.Common.{◌≡◌, ℕ, zero, suc, ◌<◌, ◌≤◌, ◌∙◌, List, length, map, get_or, Option, Some, ap, subst, sym, inl, inr, arith, eqb, refl, true}
use Rattle.std.specs.Prelude.{All, slice_get, slice_index}
use Rattle.std.specs.List.{IsDistinct}
use Rattle.std.proofs.lemmas.Bool.{cases_eq, ne_eqb}
use Rattle.std.proofs.lemmas.Bool.Decides.{eqb_tells}
use Rattle.std.proofs.lemmas.List.{get_or-map, length-map}
use Rattle.std.proofs.lemmas.List.Elements.{All-contains, All-map}
use Rattle.std.proofs.lemmas.Map.Keys.{IsDistinct-from_apart}
use Rattle.std.proofs.lemmas.Map.Steps.{length-le_from_distinct_below}
use Rattle.std.proofs.lemmas.Map.Views.{Contains-from_any}
use Rattle.std.proofs.lemmas.Option.{get_or_from_slice_get, slice_get-get_or, slice_get_within}
use Rattle.boc_runs.specs.declared.rows.Row.{Row}
use Rattle.boc_runs.specs.Rows.{IsRows}
use Rattle.boc_plans.specs.Plans.{start_of}
use Rattle.boc_greedy_chain.specs.declared.chain.GreedyStep.{GreedyStep}
use Rattle.boc_greedy_chain.specs.declared.chain.Tie.TheVariants.{Last}
use Rattle.boc_greedy_chain.specs.GreedyChains.{IsGreedyChain, TieSays}
use Rattle.boc_greedy_chain.proofs.Chaining.{tie_starts}
use Rattle.boc_remedies.specs.GreedyWhys.{defs_at}

-- the rows of a chain are there
pub rows_there : (rows : List Row) (plan workers : List ℕ) (steps : List GreedyStep) (n : ℕ) → IsGreedyChain rows plan workers steps → length rows ≡ n
    → All (λ s. s.row < n) steps
rows_there rows plan workers steps n chain whole k d h = omega (arith, whole, chain.there k (get_or steps k d) (slice_get-get_or steps k d h))

-- the defs of the rows of a chain are below what all defs are below
pub defs_below : (n : ℕ) (defs : List ℕ) (steps : List GreedyStep) → All (λ s. s.row < length defs) steps → All (λ d. d < n) defs
    → All (λ k. k < n) (defs_at defs steps)
defs_below n defs steps there low = All-map (λ k. k < n) (λ (s : GreedyStep). slice_index defs s.row) steps
    (λ k d h. low (get_or steps k d).row 0 (there k d h))

-- what an index reads where there is no step
no_step : GreedyStep
no_step = record { row = 0; tie = Last; weight = 0 }

same_number : (x y : ℕ) → eqb x y ≡ true → x ≡ y
same_number x y e = grind (arith, eqb_tells x y, e)

module _ (rows : List Row) (hr : IsRows rows) (plan workers : List ℕ) (steps : List GreedyStep) (chain : IsGreedyChain rows plan workers steps) where
  -- a later step's row starts later
  starts_rise : (i j : ℕ) (x y : GreedyStep) → i < j → slice_get steps i ≡ Some x → slice_get steps j ≡ Some y → start_of plan x.row < start_of plan y.row
  starts_rise i zero x y lt ix jy = absurd (omega (arith, lt))
  starts_rise i (suc j) x y lt ix jy =
      let within : suc j < length steps = slice_get_within steps (suc j) y jy in
      let z : GreedyStep = get_or steps j x in
      let jz : slice_get steps j ≡ Some z = slice_get-get_or steps j x (omega (arith, within)) in
      let tied : TieSays rows plan workers z.row z.weight z.tie (Some y) =
      subst (λ (next : Option GreedyStep). TieSays rows plan workers z.row z.weight z.tie next) jy (chain.ties j z jz) in
      let t = tie_starts rows plan workers hr z.tie z.row z.weight y (chain.there (suc j) y jy) tied in
      elim (cases_eq i j) [
        | inl e ↦ (
            let same : get_or steps i x ≡ x = get_or_from_slice_get steps i x x ix in
            let same_step : z ≡ x = ap (λ (k : ℕ). get_or steps k x) (sym e) ∙ same in
            let at : start_of plan z.row ≡ start_of plan x.row = ap (λ (s : GreedyStep). start_of plan s.row) same_step in
            omega (arith, t.1, t.2, at))
        | inr ne ↦ omega (arith, starts_rise i j x z (omega (arith, lt, ne)) ix jz, t.1, t.2)
      ]

  rows_apart : IsDistinct eqb (map (λ (s : GreedyStep). s.row) steps)
  rows_apart = IsDistinct-from_apart eqb (map (λ (s : GreedyStep). s.row) steps) (λ i j d l h.
      let long : length (map (λ (s : GreedyStep). s.row) steps) ≡ length steps = length-map steps (λ (s : GreedyStep). s.row) in
      let j_there : j < length steps = omega (arith, h, long) in
      let i_there : i < length steps = omega (arith, l, j_there) in
      let x : GreedyStep = get_or steps i no_step in
      let y : GreedyStep = get_or steps j no_step in
      let rise : start_of plan x.row < start_of plan y.row =
      starts_rise i j x y l (slice_get-get_or steps i no_step i_there) (slice_get-get_or steps j no_step j_there) in
      let at_i : get_or (map (λ (s : GreedyStep). s.row) steps) i d ≡ x.row = get_or-map (λ (s : GreedyStep). s.row) steps i no_step d i_there in
      let at_j : get_or (map (λ (s : GreedyStep). s.row) steps) j d ≡ y.row = get_or-map (λ (s : GreedyStep). s.row) steps j no_step d j_there in
      ne_eqb (get_or (map (λ (s : GreedyStep). s.row) steps) i d) (get_or (map (λ (s : GreedyStep). s.row) steps) j d) (λ e.
      let same : start_of plan x.row ≡ start_of plan y.row = ap (start_of plan) (sym at_i ∙ e ∙ at_j) in
      omega (arith, rise, same)))

  -- so a chain has no more steps than there are rows
  pub few_steps : length steps ≤ length rows
  few_steps =
      let long : length (map (λ (s : GreedyStep). s.row) steps) ≡ length steps = length-map steps (λ (s : GreedyStep). s.row) in
      let low : All (λ r. r < length rows) (map (λ (s : GreedyStep). s.row) steps) =
      All-map (λ r. r < length rows) (λ (s : GreedyStep). s.row) steps (rows_there rows plan workers steps (length rows) chain refl) in
      let few : length (map (λ (s : GreedyStep). s.row) steps) ≤ length rows =
      length-le_from_distinct_below (map (λ (s : GreedyStep). s.row) steps) (length rows) rows_apart (λ q found.
      All-contains (λ r. r < length rows) (map (λ (s : GreedyStep). s.row) steps) q low
      (Contains-from_any same_number q (map (λ (s : GreedyStep). s.row) steps) found)) in
      omega (arith, few, long)
