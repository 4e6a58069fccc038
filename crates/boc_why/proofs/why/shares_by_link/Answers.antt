use Rattle.std.proofs.Common.{length}
use Rattle.std.proofs.lemmas.Result.{IfOk-weaker}
use Rattle.boc_why.proofs.WhyParts.{firsts_below, keys_below}
use Rattle.boc_why.proofs.why.shares_by_link.Goals as goal

pub returns-clause-keys : goal.returns-clause-keys
returns-clause-keys c = IfOk-weaker c.shares_of.result _ _ (λ shares h. keys_below (length c.args.links.now) c.in_ok-keys.keys.items c.args.weights.now
    shares.items (firsts_below c.args.links.now c.in_ok-keys.keys.items c.in_ok-keys.ensures) (rw c.deref.ensures.value at h)) c.shares_of.ensures
