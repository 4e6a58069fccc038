use Rattle.std.proofs.Common.{◌+◌, length}
use Rattle.boc_play.specs.Playing.{AllRestBut, AreTablesOf, SpawnsNone}
use Rattle.boc_play.specs.Waiting.{count_next, tables}
use Rattle.boc_play.proofs.playing.settle_all.Given as goal

-- all but the others rest
abbrev pub invariant-loop-row : goal.invariant-loop-row
invariant-loop-row l = record {
  tables : AreTablesOf l.run (tables l.rows);
  rest : AllRestBut l.run l.others.items;
  spawns : SpawnsNone l.fn.run l.run;
}

abbrev pub decreases-loop-row : goal.decreases-loop-row
decreases-loop-row l = count_next (tables l.rows) + length l.others.items
