use Rattle.boc_chain.proofs.Calls.{new_chains}
use Rattle.boc_chain.proofs.link_chains.LinkChains.new.Goals as goal

pub returns-clause-lists : goal.returns-clause-lists
returns-clause-lists c = (new_chains c.in_ok-last.last.items c.new.result c.args.cowns c.in_ok-last.ensures c.new.ensures.empty).1
