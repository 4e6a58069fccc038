-- The profile of some rows.
use Rattle.std.specs.Prelude.{◌≡◌, ◌≤◌, List, length}
use Rattle.boc_program.specs.declared.limits.TheConstants.{MOST_ROWS}
use Rattle.boc_runs.specs.declared.rows.Row.{Row}
use Rattle.boc_plans.specs.Plans.{IsEarliest, IsEnd, HasEnds, NoneEndsBefore, work_of}
use Rattle.boc_plans.specs.Chains.{IsPicked, weight_of}
use Rattle.boc_order.specs.declared.report.Profile.{Profile}

-- The profile is that of the rows: it has their work, the starts and ends of their earliest plan, the end of that plan, and the chain that is
-- picked in it, whose weights add up to that end. No plan that keeps ends sooner. There are no more rows than there may be, and the chain has no
-- more steps than there are rows.
pub record IsProfileOf (rows : List Row) (profile : Profile) : Type 0 where
  pub work : profile.work ≡ work_of rows
  pub earliest : IsEarliest rows profile.starts.items
  pub ends : HasEnds rows profile.starts.items profile.ends.items
  pub span : IsEnd rows profile.starts.items profile.span
  pub picked : IsPicked rows profile.starts.items profile.chain.steps.items
  pub weight : weight_of profile.chain.steps.items ≡ profile.span
  pub no_sooner : NoneEndsBefore rows profile.span
  pub few : length profile.starts.items ≤ MOST_ROWS
  pub short : length profile.chain.steps.items ≤ length profile.starts.items
