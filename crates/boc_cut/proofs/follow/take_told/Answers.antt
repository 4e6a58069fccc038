use Rattle.std.proofs.Common.{List, ap}
use Rattle.boc_cut.specs.Windows.{cowns_used}
use Rattle.boc_cut.specs.declared.table.CownUse.{CownUse}
use Rattle.boc_cut.proofs.Reaching.{told_spawn, told_other}
use Rattle.boc_cut.proofs.Spawning.{both_same}
use Rattle.boc_cut.proofs.follow.take_told.Goals as goal

pub returns-in_ok-spawn-in-Spawn : goal.returns-in_ok-spawn-in-Spawn
returns-in_ok-spawn-in-Spawn c =
    let old = c.args.table.now in
    let new = c.spawn.new.self in
    told_spawn c.args.told c.in-Spawn.row c.in-Spawn.parent c.in-Spawn.offset c.args.cowns.now old.rows.items new.rows.items old.uses.items new.uses.items
    c.in-Spawn.is c.in_ok-spawn-in-Spawn.ensures

pub returns-in_ok-start-in-Start : goal.returns-in_ok-start-in-Start
returns-in_ok-start-in-Start c =
    let old = c.args.table.now in
    let new = c.start.new.self in
    told_other c.args.told c.args.cowns.now old.rows.items new.rows.items old.uses.items new.uses.items
    (both_same old.rows.items new.rows.items old.uses.items new.uses.items c.in_ok-start-in-Start.ensures.rows
    (ap (λ (us : List CownUse). cowns_used us) c.start.ensures.uses))

pub returns-in_ok-end-in-End : goal.returns-in_ok-end-in-End
returns-in_ok-end-in-End c =
    let old = c.args.table.now in
    let new = c.end.new.self in
    told_other c.args.told c.args.cowns.now old.rows.items new.rows.items old.uses.items new.uses.items
    (both_same old.rows.items new.rows.items old.uses.items new.uses.items c.in_ok-end-in-End.ensures.rows c.end.ensures.uses)
