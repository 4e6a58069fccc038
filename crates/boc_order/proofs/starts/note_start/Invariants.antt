use Rattle.std.specs.Prelude.{slice_index}
use Rattle.boc_order.proofs.FirstStarts.{SomeNoted}
use Rattle.boc_order.proofs.starts.note_start.Given as goal

-- the row's start is noted for the cowns so far
abbrev pub invariant-loop-own : goal.invariant-loop-own
invariant-loop-own l = SomeNoted l.rows l.row (slice_index l.starts l.row) l.own-index l.fn.firsts l.firsts
