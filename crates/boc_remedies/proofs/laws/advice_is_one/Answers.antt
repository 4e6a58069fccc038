use Rattle.boc_remedies.proofs.OneAdvice.{one_list_together, one_list_told, one_now}
use Rattle.boc_remedies.proofs.laws.advice_is_one.Goals as goal

pub returns : goal.returns
returns c = record {
  now = λ question chains now advice other hr. one_now question chains now advice other;
  candidates = λ question chains now advice other hr. one_list_told question chains now advice other;
  together = λ question chains now advice other hr. one_list_together question chains now advice other;
}
