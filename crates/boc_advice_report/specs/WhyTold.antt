-- What is told of why some rows take as long as they do.
use Rattle.std.specs.Prelude.{◌≡◌, ℕ, Bool, [], ◌++◌, Option, Some, None, codes, option_map}
use Rattle.boc_plans.specs.declared.sharing.Sharing.{Sharing}
use Rattle.boc_names.specs.declared.names.Names.{Names}
use Rattle.boc_names.specs.Names.{Text}
use Rattle.boc_why.specs.declared.why.Why.{Why}
use Rattle.boc_why_report.specs.WhyTexts.{chain_told, head_text, least_text, shares_text}
use Rattle.boc_remedies.specs.declared.greedy_why.GreedyWhy.{GreedyWhy}
use Rattle.boc_remedies.specs.declared.advice.Advice.{Advice}
use Rattle.boc_remedies.specs.GreedyWhys.{IsSameChain}
use Rattle.boc_advice_report.specs.declared.order.OtherOrder.{OtherOrder}
use Rattle.boc_advice_report.specs.declared.told.WhyTold.{WhyTold}
use Rattle.boc_advice_report.specs.declared.workers.ForWorkers.{ForWorkers}
use Rattle.boc_advice_report.specs.AdviceTexts.{candidates_table, count_text, together_table}
use Rattle.boc_advice_report.specs.OrderTexts.{order_text}
use Rattle.boc_advice_report.specs.WorkersTexts.{verdict_text, workers_text}

-- ---- the greedy plan

-- what the rows take by the workers of a greedy plan
abbrev pub workers_of : Why → GreedyWhy → ForWorkers
workers_of why greedy = record { p = greedy.p; work = why.profile.work; span = why.profile.span; end = greedy.end }

-- what stands above the shares of its chain
abbrev pub shares_title : ℕ → Text
shares_title p = count_text p ++ codes " by def"

-- the shares of its chain, under this title
abbrev pub shares_under : Names → Text → GreedyWhy → Text
shares_under names title greedy = shares_text names title (codes "by link") greedy.by_def.items greedy.links.items greedy.by_link.items

-- the same, behind an empty line
abbrev pub shares_told : Names → GreedyWhy → Text
shares_told names greedy = codes "\n" ++ shares_under names (shares_title greedy.p) greedy

-- the same, where it is another chain than the earliest plan's
pub record AreGreedyShares (names : Names) (why : Why) (greedy : GreedyWhy) (text : Text) : Type 0 where
  pub same : IsSameChain why.profile.chain.steps.items greedy.steps.items → text ≡ []
  pub another : (IsSameChain why.profile.chain.steps.items greedy.steps.items → ⊥) → text ≡ shares_told names greedy

-- the same, with an empty line behind it, where there is a greedy plan
abbrev pub AreSharesAsked : Names → Why → Option GreedyWhy → Text → Type 0
AreSharesAsked names why None text = text ≡ []
AreSharesAsked names why (Some greedy) text = (shares : Text) × AreGreedyShares names why greedy shares × (text ≡ shares ++ codes "\n")

-- the line of its workers, where there is one
abbrev pub workers_line : Why → Option GreedyWhy → Text
workers_line why None = []
workers_line why (Some greedy) = workers_text (workers_of why greedy)

-- what holds the rows back by these, where there is one
abbrev pub verdict_line : Why → Option GreedyWhy → Text
verdict_line why None = []
verdict_line why (Some greedy) = verdict_text (workers_of why greedy)

-- ---- all that is told

-- the line of a better order, where one was found
abbrev pub order_line : Names → Option OtherOrder → Text
order_line names None = []
order_line names (Some order) = order_text names order

-- the numbers at the head, and the chain
abbrev pub chain_part : Names → Bool → WhyTold → Text
chain_part names all told =
    head_text told.why.now told.timed ++ workers_line told.why.now told.greedy.now ++ chain_told names all told.why.now

-- what would bring the end forward
abbrev pub advice_part : Names → Option ℕ → Advice → Text
advice_part names workers advice =
    candidates_table names workers advice.now advice.candidates.items ++ together_table names advice.together.items

-- a lower bound for any order, a better order, where one was found, and what holds the rows back by some workers, where a number of these is given
abbrev pub bounds_part : Names → Sharing → WhyTold → Text
bounds_part names sharing told =
    least_text names sharing told.why.now.least ++ order_line names told.order ++ verdict_line told.why.now told.greedy.now

-- What is told of why some rows take as long as they do. Where all of the chain is asked for it has a line for each step; else four or more steps of one def
-- that follow each other stand in one line.
pub record IsWhyText (names : Names) (sharing : Sharing) (all : Bool) (told : WhyTold) (text : Text) : Type 0 where
  pub shares : Text
  pub shares_are : AreSharesAsked names told.why.now told.greedy.now shares
  pub is : text ≡ chain_part names all told ++ shares ++ advice_part names (option_map (λ g. g.p) told.greedy.now) told.advice.now
      ++ bounds_part names sharing told
