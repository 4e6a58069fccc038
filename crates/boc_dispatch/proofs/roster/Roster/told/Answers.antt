use Rattle.std.proofs.Common.{◌≡◌, ◌∙◌, ap, rules, sym}
use Rattle.boc_runs.specs.machine.Stages.{row_at}
use Rattle.boc_dispatch.specs.Inside.{parts_of, behaviour_of}
use Rattle.boc_dispatch.proofs.Homes.{row_at_slot}
use Rattle.boc_dispatch.proofs.Tables.{live_same}
use Rattle.boc_dispatch.proofs.roster.Roster.told.Goals as goal

pub returns-clause-told : goal.returns-clause-told
returns-clause-told g c =
    let d = parts_of g.C.Chains.lists g.C.Chains.place c.args.self.now in
    let runs = c.requires.runs in
    let same = live_same d.live c.args.slot runs.0 c.index-live.result.now runs.1.is c.index-live.ensures in
    let r = row_at_slot d c.requires.sound.kept c.args.slot c.args.row runs.0 runs.1.is (ap row_at runs.1.stage_is) in
    let kept : behaviour_of c.index-live.result.now
    ≡ record { kind = c.index-live.result.now.kind; args = c.unwrap.result.items; cowns = c.widened.result.items } = search rules in
    record { member = r.member; is = r.is; behaviour_is = r.behaviour_is ∙ ap behaviour_of (sym same) ∙ kept }
