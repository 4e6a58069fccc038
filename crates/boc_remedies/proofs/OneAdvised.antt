-- Of some rows one thing is found: why they take as long as they do, and what would bring their end forward.
use Rattle.std.proofs.Common.{◌≡◌, List, length, Option, Some, None, subst}
use Rattle.boc_runs.specs.Rows.{IsRows}
use Rattle.boc_why.specs.declared.why.Why.{Why}
use Rattle.boc_why.specs.Why.{SayTheSame}
use Rattle.boc_why.proofs.OneWhy.{one_why}
use Rattle.boc_remedies.specs.declared.advice.Advised.{Advised}
use Rattle.boc_remedies.specs.declared.ends.Ends.{Ends}
use Rattle.boc_remedies.specs.declared.greedy_why.GreedyWhy.{GreedyWhy}
use Rattle.boc_remedies.specs.Advice.{AdviseTheSame, IsAdvice, IsAdvised}
use Rattle.boc_remedies.specs.Chains.{Known}
use Rattle.boc_remedies.specs.GreedyWhys.{SayTheSameIfAsked}
use Rattle.boc_remedies.specs.Questions.{Asked}
use Rattle.boc_remedies.specs.Steps.{ends_now}
use Rattle.boc_remedies.proofs.OneAdvice.{one_list_together, one_list_told, one_now}
use Rattle.boc_remedies.proofs.OneChains.{one_asked, one_chains}

-- the rows as they are have the same ends
ends_same : (why other : Why) (greedy also : Option GreedyWhy) → SayTheSame why other → SayTheSameIfAsked greedy also → ends_now why greedy ≡ ends_now other also
ends_same why other None None same said = λ i. record { span = same.span i; greedy = None }
ends_same why other None (Some also) same said = absurd said
ends_same why other (Some greedy) None same said = absurd said
ends_same why other (Some greedy) (Some also) same said = λ i. record { span = same.span i; greedy = Some (said.end i) }

pub one_advised : (question : Asked) (advised other : Advised) → IsRows question.rows → IsAdvised question advised → IsAdvised question other
    → AdviseTheSame advised other
one_advised question advised other hr a b =
    let why : SayTheSame advised.why other.why =
    one_why question.rows question.sharing question.defs (length question.families) advised.why other.why a.is_why b.is_why in
    let greedy : SayTheSameIfAsked advised.greedy other.greedy =
    one_asked question hr question.workers advised.greedy other.greedy a.is_greedy b.is_greedy in
    let chains : a.is_advice.chains ≡ b.is_advice.chains =
    one_chains question advised.why other.why advised.greedy other.greedy a.is_advice.chains b.is_advice.chains hr a.is_why b.is_why a.is_greedy b.is_greedy
    a.is_advice.chains_are b.is_advice.chains_are in
    let now : Ends = ends_now other.why other.greedy in
    let advice : IsAdvice question b.is_advice.chains now advised.advice =
    subst (λ (ends : Ends). IsAdvice question b.is_advice.chains ends advised.advice) (ends_same advised.why other.why advised.greedy other.greedy why greedy)
    (subst (λ (known : List Known). IsAdvice question known (ends_now advised.why advised.greedy) advised.advice) chains a.is_advice.is) in
    record {
      why = why;
      greedy = greedy;
      now = one_now question b.is_advice.chains now advised.advice other.advice advice b.is_advice.is;
      candidates = one_list_told question b.is_advice.chains now advised.advice other.advice advice b.is_advice.is;
      together = one_list_together question b.is_advice.chains now advised.advice other.advice advice b.is_advice.is;
    }
