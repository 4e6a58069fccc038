use Rattle.std.proofs.Common.{map}
use Rattle.std.proofs.lemmas.Result.{IfOk-weaker}
use Rattle.boc_remedies.specs.Chains.{known}
use Rattle.boc_many_runs.proofs.seen.tried_in.Goals as goal

pub returns : goal.returns
returns c = IfOk-weaker c.remedies_for.result _ _ (λ all is. record {
  why = c.in_ok-why.why;
  is_why = c.in_ok-why.ensures.why;
  greedy = c.in_ok-greedy.greedy;
  is_greedy = c.in_ok-greedy.ensures.asked;
  chains = map known c.in_ok-routes.routes.items;
  chains_are = c.in_ok-routes.ensures;
  are = rw c.deref.ensures.value at is;
}) c.remedies_for.ensures
