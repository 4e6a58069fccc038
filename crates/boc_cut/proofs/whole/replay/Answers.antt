use Rattle.std.proofs.Common.{◌≡◌, List, subst}
use Rattle.std.specs.Prelude.{Some, slice_get}
use Rattle.boc_runs.specs.declared.event.Event.{Event}
use Rattle.boc_cut.proofs.Records.{one_replayed}
use Rattle.boc_cut.proofs.whole.replay.Goals as goal

pub loop-place-preserved : goal.loop-place-preserved
loop-place-preserved c =
    let start = c.args.table.now in
    let old = c.loop-place.table in
    let new = c.take_event.new.table in
    let event = c.get.result in
    one_replayed c.args.rules.now.events c.loop-place.place event start.rows.items old.rows.items new.rows.items start.uses.items old.uses.items new.uses.items
    c.loop-place.invariant (subst (λ (es : List Event). slice_get es c.loop-place.place ≡ Some event) c.events-events.ensures.value c.get.ensures)
    c.in-Ok.ensures
