use Rattle.std.proofs.Common.{take}
use Rattle.boc_program.specs.declared.program.Program.{Program}
use Rattle.boc_all_ends.specs.Gathered.{HaveEnds, AreNoted}
use Rattle.boc_all_ends.proofs.Noting.{AreNotedSoFar}
use Rattle.boc_all_ends.proofs.ends.Ends.note_all.Given as goal

abbrev pub invariant-loop-front : goal.invariant-loop-front
invariant-loop-front l =
    (p : Program) → HaveEnds p l.rows l.layer → AreNoted p l.rows l.fn.self → AreNotedSoFar p l.rows (take l.front-index l.layer) l.self
