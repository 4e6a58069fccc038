use Rattle.boc_cut.proofs.Spawning.{then_same, then_spawns}
use Rattle.boc_cut.proofs.table.Table.spawn.Goals as goal

pub returns : goal.returns
returns c =
    let old = c.args.self.now in
    let cut = c.cut_here.new.self in
    let judged = c.judge_parent.new.self in
    let new = c.put_within.new.self in
    then_spawns c.args.number c.args.cowns.now old.rows.items judged.rows.items new.rows.items old.uses.items judged.uses.items new.uses.items
    (then_same old.rows.items cut.rows.items judged.rows.items old.uses.items cut.uses.items judged.uses.items c.in_ok-cut_here.ensures
    c.in_ok-judge_parent.ensures.rows c.judge_parent.ensures.uses) c.in_ok-put_within.ensures
