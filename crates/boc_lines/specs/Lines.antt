-- The ticks of lines.
use Rattle.std.specs.Prelude.{◌≡◌, ℕ, ◌+◌, nat_lt, ◌||◌, if◌then◌else◌, List, [], ◌∷◌, length}
use Rattle.std.specs.List.{sum_by}
use Rattle.boc_lines.specs.declared.by_line.LineTicks.{LineTicks}
use Rattle.boc_lines.specs.Charges.{Charge}
use Rattle.boc_program.specs.declared.program.Program.{Program}
use Rattle.boc_runs.specs.declared.rows.Row.{Row}
use Rattle.boc_plans.specs.declared.chain.ChainStep.{ChainStep}
use Rattle.boc_plans.specs.Chains.{weight_of}
use Rattle.boc_plans.specs.Plans.{work_of}
use Rattle.boc_lines.specs.Chained.{through_from}
use Rattle.boc_lines.specs.Replays.{AreRowTicks, AreTicksOf, numbers}
use Rattle.boc_lines.specs.SerialRuns.{behaviours_of}

-- ticks by number, as charges of the lines on which the numbers stand
abbrev pub line_charges : List ℕ → List ℕ → List Charge
line_charges [] ticks = []
line_charges (line ∷ lines) [] = []
line_charges (line ∷ lines) (n ∷ ticks) = (record { statement = line; ticks = n }) ∷ line_charges lines ticks

-- the lines from one on that take ticks, where these are the ticks of each, and those of them that the chain goes through
abbrev pub lines_from : ℕ → List ℕ → List ℕ → List LineTicks
lines_from line [] chain = []
lines_from line (n ∷ ticks) [] = []
lines_from line (n ∷ ticks) (m ∷ chain) =
    if nat_lt 0 n || nat_lt 0 m then (record { line = line; ticks = n; chain = m }) ∷ lines_from (line + 1) ticks chain else lines_from (line + 1) ticks chain

-- Lines that take ticks, rising: each has those of the numbers that stand on it, and so has the chain.
pub record AreLineTicks (lines ticks chain : List ℕ) (found : List LineTicks) : Type 0 where
  pub ends : ℕ
  pub all : List ℕ
  pub all_are : AreTicksOf ends (line_charges lines ticks) all
  pub chained : List ℕ
  pub chained_are : AreTicksOf ends (line_charges lines chain) chained
  pub found_are : found ≡ lines_from 0 all chained

-- the ticks of lines are so many together, and those that the chain goes through
pub record AddUp (work span : ℕ) (lines : List LineTicks) : Type 0 where
  pub ticks : sum_by (λ l. l.ticks) lines ≡ work
  pub chain : sum_by (λ l. l.chain) lines ≡ span

-- The ticks of lines in a run with these rows: each number of the program stands on some line, each line has the ticks of the numbers on it, and those of them
-- that the chain goes through. Together they are the work of the rows, and the weight of the chain.
pub record AreTicksByLine (p : Program) (rows : List Row) (chain : List ChainStep) (found : List LineTicks) : Type 0 where
  pub lines : List ℕ
  pub all_stand : length lines ≡ numbers p.bodies
  pub ticks : List ℕ
  pub chained : List ℕ
  pub are : AreRowTicks p (behaviours_of p rows) (through_from 0 rows chain) ticks chained
  pub by_line : AreLineTicks lines ticks chained found
  pub sums : AddUp (work_of rows) (weight_of chain) found
