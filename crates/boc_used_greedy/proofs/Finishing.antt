-- The plan when all rows have started.
use Rattle.std.proofs.Common.{◌≡◌, inl, inr, ℕ, List, Option, None, ap, arith}
use Rattle.boc_runs.specs.declared.rows.Row.{Row}
use Rattle.boc_runs.specs.Rows.{IsRows}
use Rattle.boc_plans.specs.Plans.{start_of}
use Rattle.boc_uses.specs.declared.uses.Use.{Use}
use Rattle.boc_used_greedy.specs.declared.plan.Plan.{Plan}
use Rattle.boc_used_greedy.specs.Plans.{IsMade, IsFinished, IsLow, NotStarted}
use Rattle.boc_used_greedy.proofs.Scheduling.{started_or_not, greedy_all}
use Rattle.boc_used_greedy.proofs.Starting.{low_tick}

-- all rows have started in the plan, and it has gone on to a later tick than an earlier plan of the same starts
pub finished : (rows : List Row) → IsRows rows → (holds : List (Option Use)) (p : ℕ) (plan new : Plan) → IsMade rows holds p None plan
    → IsMade rows holds p None new → new.starts.items ≡ plan.starts.items
    → IsLow rows plan.starts.items plan.tick → ((r : ℕ) → NotStarted rows new.starts.items r → ⊥)
    → IsFinished rows holds p new
finished rows hr holds p plan new m m' same low none = record {
  whole = m'.greedy.whole;
  served = m'.greedy.all_served;
  low = λ r there. (
      let is : start_of new.starts.items r ≡ start_of plan.starts.items r = ap (λ (l : List ℕ). start_of l r) same in
      elim (started_or_not rows hr holds p _ _ _ m'.greedy r there) [
        | inl s ↦ omega (arith, is, m.greedy.come r (there, omega (arith, s.1, is)), low_tick rows hr plan.starts.items plan.tick low)
        | inr not ↦ absurd (none r not)
      ]);
  greedy = greedy_all rows hr holds p _ _ _ m'.greedy none;
  fronts = m'.fronts;
}
