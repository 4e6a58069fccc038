use Rattle.std.proofs.Common.{◌≡◌, ◌+◌, ◌-◌, ◌*◌}
use Rattle.boc_program.specs.Syntax.{Done, code_size}
use Rattle.boc_program.specs.memory.View.{before, code_of}
use Rattle.boc_lines.specs.Books.{entered}
use Rattle.boc_lines.specs.Charges.{After, charged, turns}
use Rattle.boc_lines.specs.Walks.{HasRoom, Keeps, book_of, state_of}
use Rattle.boc_lines.proofs.walk.Walk.+walk.Given as goal

abbrev pub decreases-run : goal.decreases-run
decreases-run l = 8 * code_size (code_of l.stmts.now) + 2

abbrev pub decreases-run_turns : goal.decreases-run_turns
decreases-run_turns l = 8 * code_size (code_of l.stmts.now) + 3

abbrev pub decreases-repeat : goal.decreases-repeat
decreases-repeat l = 8 * code_size l.block.now + 4

abbrev pub decreases-run_either : goal.decreases-run_either
decreases-run_either l = 8 * code_size l.block.now + 8 * code_size l.other.now + 4

abbrev pub decreases-run_one : goal.decreases-run_one
decreases-run_one l = 8 * code_size (before l.stmt.now Done)

-- the turns so far, and those that are left from here on, are all turns
abbrev pub invariant-run_turns-loop-turn : goal.invariant-run_turns-loop-turn
invariant-run_turns-loop-turn l =
    record {
      charges : (next : After) → entered (book_of l.fn.self) (turns l.k l.count (charged (code_of l.stmts) (l.k + 1)) (state_of l.fn.self) next)
          ≡ entered (book_of l.self) (turns l.k (l.count - l._turn) (charged (code_of l.stmts) (l.k + 1)) (state_of l.self) next);
      room : HasRoom l.self;
      keeps : Keeps l.fn.self l.self;
    }
