use Rattle.std.proofs.Common.{◌∙◌, ◌<◌, Some, sym, ap, arith, length}
use Rattle.std.specs.Prelude.{slice_get}
use Rattle.boc_runs.specs.declared.events.Deed.TheVariants.{Spawned}
use Rattle.boc_runs.proofs.Tellings.{told_all, told_read}
use Rattle.boc_runs.proofs.events.Events.get.Goals as goal

pub returns : goal.returns
returns c =
    let happenings = c.self.inside.happenings.now in
    let rows = c.self.inside.rows.now in
    let less : c.args.place < length happenings = omega (arith, c.requires, ap length c.self.view_is, told_all happenings rows) in
    ap (λ events. slice_get events c.args.place) (sym c.self.view_is)
    ∙ told_read happenings rows c.args.place c.from.result (record { row = 0; deed = Spawned }) c.index-self-from.result less c.self.invariant c.from.ensures
    ∙ ap Some (sym c.event.ensures)
