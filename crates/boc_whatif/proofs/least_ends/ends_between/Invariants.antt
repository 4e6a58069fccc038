use Rattle.std.proofs.Common.{◌+◌, ◌*◌}
use Rattle.std.specs.Prelude.{min}
use Rattle.boc_plans.specs.Seen.{seen}
use Rattle.boc_whatif.specs.declared.least_ends.TheConstants.{PIECE}
use Rattle.boc_whatif.specs.Pieces.{AreEnds}
use Rattle.boc_whatif.proofs.least_ends.ends_between.Given as goal

-- the ends for the pieces so far
abbrev pub invariant-loop-piece : goal.invariant-loop-piece
invariant-loop-piece g l =
    AreEnds (seen l.parts.sharing l.parts.rows.now) l.parts.workers l.fn.from (min l.fn.to (l.fn.from + l.piece-index * PIECE)) l.ends.items
