use Rattle.boc_all_ends.proofs.Putting.{is_put}
use Rattle.boc_all_ends.proofs.search.Search.put.Goals as goal

pub returns-else-self-clause-put : goal.returns-else-self-clause-put
returns-else-self-clause-put c = is_put c.args.front c.args.layer.now.keys c.insert.new.self.keys c.in_ok-insert.ensures.keys

pub returns-else-branch-clause-put : goal.returns-else-branch-clause-put
returns-else-branch-clause-put c = is_put c.args.front c.args.layer.now.keys c.insert.new.self.keys c.in_ok-insert.ensures.keys

pub returns-then-self-clause-there : goal.returns-then-self-clause-there
returns-then-self-clause-there c = is_put c.args.front c.args.layer.now.keys c.insert.new.self.keys c.in_ok-insert.ensures.keys

pub returns-else-self-clause-there : goal.returns-else-self-clause-there
returns-else-self-clause-there c = is_put c.args.front c.args.layer.now.keys c.insert.new.self.keys c.in_ok-insert.ensures.keys

pub returns-else-branch-clause-there : goal.returns-else-branch-clause-there
returns-else-branch-clause-there c = is_put c.args.front c.args.layer.now.keys c.insert.new.self.keys c.in_ok-insert.ensures.keys
