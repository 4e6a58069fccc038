use Rattle.boc_turns.proofs.Least.{none_end_sooner}
use Rattle.boc_turns.proofs.laws.used_plan_is_least.Goals as goal

pub returns : goal.returns
returns c = λ rows uses relaxed times tick end are keeps by e. none_end_sooner rows uses relaxed are times tick end keeps by e
