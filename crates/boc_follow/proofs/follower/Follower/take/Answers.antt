use Rattle.std.proofs.Common.{ℕ, refl, sym, subst}
use Rattle.boc_runs.specs.Legal.{entries}
use Rattle.boc_rules.specs.Course.{Course}
use Rattle.boc_rules.specs.Judges.{Judges}
use Rattle.boc_follow.proofs.Besides.{keeps_rules, judged_not}
use Rattle.boc_follow.proofs.Logs.{may_kept}
use Rattle.boc_follow.proofs.follower.Follower.take.Goals as goal

pub returns-then-is_err : goal.returns-then-is_err
returns-then-is_err c =
    let o = c.self.inside in
    let event = c.args.event.now in
    let judged = subst (λ (n : ℕ). Judges n (entries o.rules.events) event c.judge-2.result) c.self.invariant.cowns_are
    (subst (λ (x : Course). Judges x.cowns x.rows event c.judge-2.result) c.judge.ensures c.judge-2.ensures) in (
      λ may. judged_not _ (entries o.rules.events) event c.judge-2.result (sym c.if-is_err.ensures.value) judged
          (keeps_rules o.program.now o.rules.events c.self.invariant.run event (may_kept event c.self.view_is may)),
      refl,
    )
