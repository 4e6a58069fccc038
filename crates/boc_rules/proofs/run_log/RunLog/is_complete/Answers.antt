use Rattle.std.proofs.Common.{arith, ◌≡◌, ◌*◌, length, eqb-true, eq-eqb, sym, ◌∙◌, ap, subst}
use Rattle.std.specs.Vec.{vec_capacity}
use Rattle.boc_runs.specs.Legal.{IsComplete}
use Rattle.boc_rules.specs.Log.{Log}
use Rattle.boc_rules.proofs.Putting.{complete_log}
use Rattle.boc_rules.proofs.run_log.RunLog.is_complete.Goals as goal

pub returns-then-rows-gt0 : goal.returns-then-rows-gt0
returns-then-rows-gt0 c =
    let log = c.self.inside in
    let long : c.len-rows.result ≡ length log.rows.items = c.len-rows.ensures ∙ log.rows.ok.0 in
    let many : c.len.result ≡ length log.happenings.items = c.len.ensures ∙ log.happenings.ok.0 in
    let events = ap (λ (l : Log). l.events) c.self.view_is in
    let is = complete_log log.cowns log.rows.items log.happenings.items log.rooms (vec_capacity log.rows) (vec_capacity log.happenings) c.self.invariant
    (omega (arith, long, c.if-rows-gt0.true)) in (
      λ t. subst IsComplete events (is.0 (omega (arith, long, many, eqb-true c.len.result (3 * c.len-rows.result) t))),
      λ o. eq-eqb c.len.result (3 * c.len-rows.result) (omega (arith, long, many, is.1 (subst IsComplete (sym events) o))),
    )
