use Rattle.boc_cut.proofs.Spawning.{then_same}
use Rattle.boc_cut.proofs.table.Table.cut.Goals as goal

pub returns : goal.returns
returns c =
    let old = c.args.self.now in
    let mid = c.drop_ended.new.self in
    let new = c.open.new.self in
    then_same old.rows.items mid.rows.items new.rows.items old.uses.items mid.uses.items new.uses.items c.in_ok-drop_ended.ensures c.open.ensures.rows
    c.open.ensures.uses
