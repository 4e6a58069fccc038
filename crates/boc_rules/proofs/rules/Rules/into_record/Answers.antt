use Rattle.std.proofs.Common.{◌∙◌, ap, subst}
use Rattle.std.specs.Vec.{vec_capacity}
use Rattle.boc_runs.specs.Happenings.{told}
use Rattle.boc_runs.specs.Legal.{IsComplete}
use Rattle.boc_rules.specs.Log.{Log}
use Rattle.boc_rules.proofs.Logging.{complete_of, record_of, recorded_as}
use Rattle.boc_rules.proofs.Telling.{told_rows}
use Rattle.boc_rules.proofs.rules.Rules.into_record.Goals as goal

pub new-requires-clause-run : goal.new-requires-clause-run
new-requires-clause-run c =
    let happenings = c.self.inside.happenings in
    rw (c.cowns-cowns.ensures.value) (record_of c.self.inside.judge happenings.items (vec_capacity happenings) c.in-Ok.rows c.self.invariant c.in-Ok.ensures.1
    c.in-Ok.ensures.0)

pub returns-in-Ok : goal.returns-in-Ok
returns-in-Ok c =
    let happenings = c.self.inside.happenings in
    let course = c.self.inside.judge in
    let over = c.in-Ok.ensures.0 in
    let are = c.in-Ok.ensures.1 in
    let events = ap (λ (l : Log). l.events) c.self.view_is in (
      c.new.ensures.cowns ∙ c.cowns-cowns.ensures.value ∙ ap (λ (l : Log). l.cowns) c.self.view_is,
      c.new.ensures.events ∙ told_rows course.rows c.in-Ok.rows happenings.items are ∙ events,
      subst IsComplete events (complete_of course happenings.items (vec_capacity happenings) c.self.invariant over),
      recorded_as c.new.result course.cowns (told happenings.items c.in-Ok.rows) c.in-Ok.rows (c.new.ensures.cowns ∙ c.cowns-cowns.ensures.value)
          c.new.ensures.events c.new.ensures.rows
          (record_of course happenings.items (vec_capacity happenings) c.in-Ok.rows c.self.invariant are over),
    )
