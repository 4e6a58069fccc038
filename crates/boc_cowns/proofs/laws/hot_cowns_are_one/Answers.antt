use Rattle.boc_cowns.proofs.One.{cowns_same, least_same, shared_same, span_same}
use Rattle.boc_cowns.proofs.laws.hot_cowns_are_one.Goals as goal

pub returns : goal.returns
returns c list sharing count hot other rows h o = (
  span_same list rows sharing count hot other h o,
  least_same list rows sharing count hot other h o,
  shared_same list rows sharing count hot other h o,
  cowns_same list rows sharing count hot other h o,
)
