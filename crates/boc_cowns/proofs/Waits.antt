-- Rows that wait in their earliest plan.
use Rattle.std.proofs.Common.{◌≡◌, ℕ, ◌*◌, ◌<◌, ◌≤◌, List, length, Option, Some, None, Bool, false, ◌&&◌, arith, refl, subst}
use Rattle.std.specs.Prelude.{slice_index_or}
use Rattle.std.specs.Option.{option_map_or}
use Rattle.boc_program.specs.declared.limits.TheConstants.{MOST_ROWS, MOST_TICKS}
use Rattle.boc_runs.specs.declared.rows.Row.{Row}
use Rattle.boc_runs.specs.Rows.{IsRows}
use Rattle.boc_order.specs.declared.plan.Earliest.{Earliest}
use Rattle.boc_order.specs.Placed.{IsTight}
use Rattle.boc_order.specs.Standing.{IsPlanOf}
use Rattle.boc_cowns.specs.Hot.{has_cown, hands_cown, wait_of, waits_over}
use Rattle.boc_cowns.specs.Columns.{AreSums}
use Rattle.boc_cowns.proofs.Sums.{sums_same}

module _ (rows : List Row) (hr : IsRows rows) (plan : Earliest) (placed : IsPlanOf rows plan) where
  -- no row waits for longer than all rows can take
  pub wait_low : (row : ℕ) → row < length rows → wait_of rows plan.starts.items row ≤ MOST_ROWS * MOST_TICKS
  wait_low row there = let p = placed.placed row there in omega (arith, p.low, p.ends_then, there, hr.not_many)

  tight_before : (row : ℕ) (o : Option ℕ) (before : ℕ) → o ≡ Some before → IsTight rows plan.starts.items row o → before < row
  tight_before row o before is t = (subst (λ (x : Option ℕ). IsTight rows plan.starts.items row x) is t).1.0.before

  -- a row waits for one before it
  pub after_before : (row : ℕ) → row < length rows → 0 < row → (before : ℕ) → slice_index_or plan.after.items row None ≡ Some before → before < row
  after_before row there child before is =
      tight_before row (slice_index_or plan.after.items row None) before is ((placed.placed row there).tight child)

-- what a row waits over
pub waits_is : (rows : List Row) (after : List (Option ℕ)) (cown row before : ℕ) → slice_index_or after row None ≡ Some before
    → waits_over rows after cown row ≡ hands_cown rows cown before row
waits_is rows after cown row before is = rw is refl

no_and : (b : Bool) → (b && false) ≡ false
no_and Bool.true = refl
no_and Bool.false = refl

module _ (rows : List Row) (hr : IsRows rows) (after : List (Option ℕ)) where
  main_for : (cown : ℕ) (o : Option ℕ) → option_map_or (λ a. hands_cown rows cown a 0) o false ≡ false
  main_for cown None = refl
  main_for cown (Some a) = rw hr.main_cowns (no_and (has_cown rows cown a))

  -- main waits for no cown
  pub main_waits : (cown : ℕ) → waits_over rows after cown 0 ≡ false
  main_waits cown = main_for cown (slice_index_or after 0 None)

  -- nor is anything added up for it
  pub waits_begin : (plan totals : List ℕ) → AreSums (waits_over rows after) (wait_of rows plan) 0 totals
      → AreSums (waits_over rows after) (wait_of rows plan) 1 totals
  waits_begin plan totals so = sums_same (waits_over rows after) (wait_of rows plan) 0 totals so main_waits
