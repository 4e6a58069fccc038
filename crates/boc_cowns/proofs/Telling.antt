-- What the columns say of each cown.
use Rattle.std.proofs.Common.{◌≡◌, ℕ, ◌<◌, ◌≤◌, List, Option, None, subst, sym, arith}
use Rattle.std.specs.Prelude.{slice_index_or}
use Rattle.boc_program.specs.declared.limits.TheConstants.{MOST_COWNS}
use Rattle.boc_runs.specs.declared.rows.Row.{Row}
use Rattle.boc_plans.specs.declared.chain.ChainStep.{ChainStep}
use Rattle.boc_plans.specs.declared.sharing.Sharing.{Sharing}
use Rattle.boc_plans.specs.Seen.{seen}
use Rattle.boc_order.specs.declared.plan.Earliest.{Earliest}
use Rattle.boc_order.specs.Standing.{IsPlanOf}
use Rattle.boc_order.specs.Least.{IsHeldFrom}
use Rattle.boc_cowns.specs.declared.hot.HotCown.{HotCown}
use Rattle.boc_cowns.specs.declared.columns.Columns.{Columns}
use Rattle.boc_cowns.specs.Hot.{AreAwaited, IsHotCown}
use Rattle.boc_cowns.specs.Columns.{HasColumns, row_of}

-- the rows that the plan says are waited for
pub awaited : (rows : List Row) (plan : Earliest) → IsPlanOf rows plan → AreAwaited rows plan.starts.items plan.after.items
awaited rows plan placed = record { whole = placed.after_len; each = λ b above h. (placed.placed b h).tight above }

module _ (list : List Row) (sharing : Sharing) (plan : List ℕ) (after : List (Option ℕ)) (spawned : List ℕ) (steps : List ChainStep) (count : ℕ)
    (columns : Columns) (few : count ≤ MOST_COWNS) (has : HasColumns list (seen sharing list) plan after spawned steps count columns) where
  first_told : (cown : ℕ) → cown < MOST_COWNS → IsHeldFrom (seen sharing list) spawned cown (slice_index_or columns.from.items cown None)
  first_told cown small = has.first.at cown small

  -- what the columns have of a cown is what is told of it
  row_tells : (cown : ℕ) → cown < count → IsHotCown list sharing plan after spawned steps (row_of columns cown)
  row_tells cown h =
      let small : cown < MOST_COWNS = omega (arith, h, few) in
      record {
        rows = has.with_it.at cown small;
        wrote = has.that_wrote.at cown small;
        held = has.for_ticks.at cown small;
        from = first_told cown small;
        waited = has.waits.at cown small;
        chain = has.through.at cown small;
        left = has.left.at cown h;
      }

  pub column_tells : (own : HotCown) → own ≡ row_of columns own.cown → own.cown < count → IsHotCown list sharing plan after spawned steps own
  column_tells own is h = subst (IsHotCown list sharing plan after spawned steps) (sym is) (row_tells own.cown h)
