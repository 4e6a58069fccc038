-- What is known of one run.
use Rattle.std.specs.Prelude.{◌≡◌, ℕ, List, length, Option}
use Rattle.boc_runs.specs.declared.rows.Row.{Row}
use Rattle.boc_plans.specs.declared.sharing.Sharing.{Sharing}
use Rattle.boc_plans.specs.Greedy.{IsSpan}
use Rattle.boc_plans.specs.Plans.{work_of}
use Rattle.boc_plans.specs.Seen.{seen}
use Rattle.boc_order.specs.Least.{tick_of}
use Rattle.boc_eager.specs.declared.plan.Eager.{Eager}
use Rattle.boc_eager.specs.Eager.{IsEagerPlanOf}
use Rattle.boc_cowns.specs.declared.hot.HotCowns.{HotCowns}
use Rattle.boc_cowns.specs.Hot.{IsHotCowns}
use Rattle.boc_remedies.specs.Ends.{IsEndFor}
use Rattle.boc_remedies.specs.Questions.{Asked}
use Rattle.boc_typical.specs.Typical.{IsTypical}
use Rattle.boc_why.specs.declared.why.Why.{Why}
use Rattle.boc_why.specs.Shares.{weights_of}
use Rattle.boc_why.specs.Why.{IsWhy}
use Rattle.boc_compare.specs.declared.totals.Totals.{Totals}
use Rattle.boc_compare.specs.declared.side.Side.{Side}
use Rattle.boc_compare.specs.declared.side.Times.{Times}
use Rattle.boc_compare.specs.Totalled.{AreOfDefs, AreOfFamilies}

-- what rows take: their work, their span, and the end of the greedy plan, where a number of workers is given
pub record AreTimes (rows : List Row) (sharing : Sharing) (workers : Option ℕ) (times : Times) : Type 0 where
  pub work : times.work ≡ work_of rows
  pub span : IsSpan (seen sharing rows) times.span
  pub end : IsEndFor (seen sharing rows) workers times.end

-- what rows take where each takes the typical ticks of its def
pub record AreTypicalTimes (question : Asked) (times : Times) : Type 0 where
  pub after : List Row
  pub typical : IsTypical question.rows question.defs after
  pub are : AreTimes after question.sharing question.workers times

-- when rows end where whatever can start does
pub record IsOrderEnd (rows : List Row) (end : ℕ) : Type 0 where
  pub plan : Eager
  pub is_plan : IsEagerPlanOf rows plan
  pub is : end ≡ plan.end

-- what is told of the families of cowns, by which cowns hold the rows back, and by the chain of why they take as long as they do
pub record HasFamilies (question : Asked) (why : Why) (families : List Totals) : Type 0 where
  pub hot : HotCowns
  pub hot_is : IsHotCowns question.rows question.sharing (length question.families) hot
  pub are : AreOfFamilies question.families hot.cowns.items why.links.items (weights_of why.profile.chain.steps.items) families

-- What is known of a run: each number is that of its rows alone, as they are or with typical ticks. The shares of the chain, the lower bound and what is told
-- of the cowns are those of why the rows take as long as they do, and of which cowns hold them back.
pub record IsSide (question : Asked) (side : Side) : Type 0 where
  pub rows : side.rows ≡ length question.rows
  pub times : AreTimes question.rows question.sharing question.workers side.times
  pub typical : AreTypicalTimes question side.typical
  pub order : IsOrderEnd (seen question.sharing question.rows) side.order_end
  pub why : Why
  pub why_is : IsWhy question.rows question.sharing question.defs (length question.families) why
  pub bound : side.bound ≡ tick_of why.least
  pub by_def : side.by_def.items ≡ why.by_def.items
  pub defs : AreOfDefs question.rows question.defs why.by_def.items side.defs.items
  pub families : HasFamilies question why side.families.items
