use Rattle.boc_eager.proofs.Ahead.{AreLatest, IsFirstOf}
use Rattle.boc_eager.proofs.swap.first_ahead.Given as goal

-- the latest starts so far, and the row that starts first so far
abbrev pub invariant-loop-row : goal.invariant-loop-row
invariant-loop-row l = record {
  latest : AreLatest l.rows l.starts l.row l.latest.items;
  first : IsFirstOf l.rows l.starts l.row l.found;
}
