use Rattle.boc_runs.specs.Legal.{entries}
use Rattle.boc_stream.specs.StreamTexts.{spelling}
use Rattle.boc_cut.proofs.Tellings.{spawn_event}
use Rattle.boc_cut.proofs.whole.event_of.Goals as goal

pub returns-in-Spawn : goal.returns-in-Spawn
returns-in-Spawn c =
    let v = spelling c.args.version in
    spawn_event v (entries c.args.rules.now.events) c.in-Spawn.row c.in-Spawn.parent c.in-Spawn.offset c.args.numbers.now c.args.told c.spawn_of.result
    c.in-Spawn.is
    (c.spawn_of.ensures v)
