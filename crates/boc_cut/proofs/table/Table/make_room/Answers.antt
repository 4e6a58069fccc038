use Rattle.boc_cut.proofs.Spawning.{on_ok}
use Rattle.boc_cut.proofs.table.Table.make_room.Goals as goal
use Rattle.boc_cut.proofs.table.Table.make_room.Goals.{then-is_full+in_ok-drop_ended, else-is_full}

pub returns : goal.returns
returns c = elim c.if-is_full.branch [
  | then-is_full+in_ok-drop_ended w ↦ on_ok c.judge_room.result (rw w.self-is w.in_ok-drop_ended.ensures)
  | else-is_full w ↦ on_ok c.judge_room.result (rw w.self-is (λ text s. s))
]
