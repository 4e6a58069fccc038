use Rattle.std.proofs.Common.{◌≡◌, ◌∙◌, ap, sym, subst}
use Rattle.std.specs.Prelude.{Ok}
use Rattle.boc_program.specs.declared.program.Program.{Program}
use Rattle.boc_program.specs.Programs.{cown_count}
use Rattle.boc_follow.specs.Strays.{FollowsAll}
use Rattle.boc_follow.specs.Following.{Following}
use Rattle.boc_follow.proofs.Refusals.{followed_whole}
use Rattle.boc_follow.proofs.recorded.follow_record.Goals as goal

pub returns : goal.returns
returns g c =
    let p = c.args.program.now in
    let r = c.args.recorded.now in
    let own : c.in_ok-follower.follower.program ≡ p = ap (λ (x : Following). x.program) c.in_ok-follower.ensures in
    let same : r.cowns ≡ cown_count p.cowns = sym c.cowns.ensures.value ∙ c.if-cowns.false ∙ c.cowns-2.ensures ∙ ap (λ (q : Program). cown_count q.cowns) own in
    let all = subst (λ (q : Program). FollowsAll q r (Ok tt) c.follow_all.new.follower) own c.in_ok-follow_all.ensures in
    followed_whole p r c.follow_all.new.follower same c.cowns.ensures.run.complete all
