use Rattle.boc_chain.proofs.Calls.{said_last, said_links, said_held}
use Rattle.boc_chain.proofs.link_chains.LinkChains.spells_lists.Goals as goal

pub returns-clause-last : goal.returns-clause-last
returns-clause-last c = λ d b. let s = c.args.self.now in said_last s.last.items s.slots s.peak d s.linked b

pub returns-clause-links : goal.returns-clause-links
returns-clause-links c = λ d b. let s = c.args.self.now in said_links s.last.items s.slots s.peak d s.linked b

pub returns-clause-held : goal.returns-clause-held
returns-clause-held c = λ d t b m. let s = c.args.self.now in said_held s.last.items s.slots s.peak d t s.linked b m
