use Rattle.std.proofs.Common.{◌≡◌, subst, arith, length}
use Rattle.boc_runs.specs.Run.{config_of}
use Rattle.boc_follow.specs.Following.{Following}
use Rattle.boc_follow.proofs.Besides.{twins}
use Rattle.boc_follow.proofs.Goes.{row_count}
use Rattle.boc_follow.proofs.follower.Follower.rows.Goals as goal

pub returns-clause-count : goal.returns-clause-count
returns-clause-count c =
    let o = c.self.inside in
    subst (λ (f : Following). c.len.result ≡ length (config_of f.program f.log).members) c.self.view_is
    (omega (arith, c.len.ensures, o.rows.ok.0, row_count c.self.invariant))

pub returns-clause-few : goal.returns-clause-few
returns-clause-few c =
    let o = c.self.inside in
    omega (arith, c.len.ensures, o.rows.ok.0, row_count c.self.invariant, (twins o.program.now o.rules.events c.self.invariant.run).few)
