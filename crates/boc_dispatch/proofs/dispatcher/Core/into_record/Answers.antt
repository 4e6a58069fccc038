use Rattle.std.proofs.Common.{◌∙◌, ap, subst, sym}
use Rattle.boc_runs.specs.machine.Steps.{IsQuiet}
use Rattle.boc_runs.specs.Run.{IsWholeRun}
use Rattle.boc_runs.specs.Records.{IsRecordOf}
use Rattle.boc_machine_laws.proofs.Every.{whole_run}
use Rattle.boc_dispatch.specs.Underway.{Underway}
use Rattle.boc_dispatch.specs.Inside.{parts_of, state}
use Rattle.boc_machine_laws.proofs.Records.{whole_is_complete}
use Rattle.boc_dispatch.proofs.dispatcher.Core.into_record.Goals as goal

pub unreachable-requires : goal.unreachable-requires
unreachable-requires g c =
    let d = parts_of g.C.Chains.lists g.C.Chains.place c.self.inside.roster in
    let quiet : IsQuiet (state d) = subst (λ (u : Underway). IsQuiet u.state) (sym c.self.view_is) (c.is_quiet.ensures.0 c.if-not-is_quiet.false) in
    c.in-Err.ensures.1 (whole_is_complete d.program d.log.events (whole_run d.program (state d) c.self.invariant.kept.sound quiet))

pub returns : goal.returns
returns g c =
    let d = parts_of g.C.Chains.lists g.C.Chains.place c.self.inside.roster in
    let quiet : IsQuiet (state d) = subst (λ (u : Underway). IsQuiet u.state) (sym c.self.view_is) (c.is_quiet.ensures.0 c.if-not-is_quiet.false) in
    let whole : IsWholeRun d.program d.log.events = whole_run d.program (state d) c.self.invariant.kept.sound quiet in
    let r = c.in-Ok.ensures in
    let k = c.self.invariant.kept in
    let written : IsRecordOf d.program c.in-Ok.record = record { cowns = r.0 ∙ k.cowns_are; run = subst (IsWholeRun d.program) (sym r.1) whole } in (
      c.is_quiet.ensures.0 c.if-not-is_quiet.false,
      r.1 ∙ ap (λ (u : Underway). u.state.log) c.self.view_is,
      subst (λ (u : Underway). IsRecordOf u.program c.in-Ok.record) c.self.view_is written,
    )
