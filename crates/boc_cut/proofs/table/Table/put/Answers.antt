use Rattle.boc_cut.proofs.Spawning.{on_ok, spawns_then, then_spawns}
use Rattle.boc_cut.proofs.table.Table.put.Goals as goal

pub returns : goal.returns
returns c =
    let number = c.args.number in
    let cowns = c.args.cowns.now in
    let old = c.args.self.now in
    let mid = c.make_room.new.self in
    let put = c.put_row.new.self in
    let new = c.note_spawn.new.self in
    on_ok c.note_spawn.result
    (spawns_then number cowns old.rows.items put.rows.items new.rows.items old.uses.items put.uses.items new.uses.items
    (then_spawns number cowns old.rows.items mid.rows.items put.rows.items old.uses.items mid.uses.items put.uses.items c.in_ok-make_room.ensures
    c.in-Ok.ensures)
    c.note_spawn.ensures.rows c.note_spawn.ensures.uses)
