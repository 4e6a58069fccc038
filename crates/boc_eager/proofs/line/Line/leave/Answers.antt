use Rattle.std.proofs.Common.{◌≡◌, Some, rules}
use Rattle.boc_eager.proofs.Sets.{left_front}
use Rattle.boc_eager.proofs.line.Line.leave.Goals as goal

pub returns-clause-some : goal.returns-clause-some
returns-clause-some c =
    let was : c.args.self.now.front ≡ Some c.args.row = search rules in
    left_front c.args.self.now c.pop_first-self.new.self c.args.row was c.pop_first-self.result c.pop_first-self.ensures.removal
    c.pop_first-self.ensures.all_above
