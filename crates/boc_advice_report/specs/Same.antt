-- When two reports tell the same.
use Rattle.std.specs.Prelude.{◌≡◌}
use Rattle.boc_why.specs.Why.{SayTheSame}
use Rattle.boc_remedies.specs.declared.advice.Advice.{Advice}
use Rattle.boc_remedies.specs.GreedyWhys.{SayTheSameIfAsked}
use Rattle.boc_advice_report.specs.declared.steps.StepsTold.{StepsTold}
use Rattle.boc_advice_report.specs.declared.told.WhyTold.{WhyTold}

-- two advices say the same
pub record AdviseTheSame (advice other : Advice) : Type 0 where
  pub now : advice.now ≡ other.now
  pub candidates : advice.candidates.items ≡ other.candidates.items
  pub together : advice.together.items ≡ other.together.items

-- two reports tell the same
pub record TellTheSame (told other : WhyTold) : Type 0 where
  pub why : SayTheSame told.why.now other.why.now
  pub greedy : SayTheSameIfAsked told.greedy.now other.greedy.now
  pub advice : AdviseTheSame told.advice.now other.advice.now
  pub order : told.order ≡ other.order
  pub timed : told.timed ≡ other.timed

-- the same of one change after another
pub record TellTheSameSteps (told other : StepsTold) : Type 0 where
  pub rows : told.rows ≡ other.rows
  pub work : told.work ≡ other.work
  pub now : told.now ≡ other.now
  pub workers : told.workers ≡ other.workers
  pub most : told.most ≡ other.most
  pub steps : told.steps.now ≡ other.steps.now
