-- The ticks of the lines of a program, as a page shows them.
use Rattle.std.specs.Prelude.{◌≡◌, ◌⊎◌, ℕ, List, [], map, Option, Some, None}
use Rattle.boc_program.specs.declared.program.Program.{Program}
use Rattle.boc_reader.specs.Spells.{Spells}
use Rattle.boc_runs.specs.declared.rows.Row.{Row}
use Rattle.boc_runs.specs.Serial.{serial_along}
use Rattle.boc_plans.specs.declared.chain.ChainStep.{ChainStep}
use Rattle.boc_lines.specs.Chained.{GoesThrough}
use Rattle.boc_lines.specs.Lines.{AreTicksByLine}
use Rattle.boc_lines.specs.SerialRuns.{AreRun}
use Rattle.boc_lines.specs.declared.by_line.LineTicks.{LineTicks as Counted}
use Rattle.boc_page.specs.declared.block.LineTicks.{LineTicks}
use Rattle.boc_view.specs.declared.found.Found.{Found}

-- a line with its ticks, as a page has it
abbrev pub shown_line : Counted → LineTicks
shown_line own = record { line = own.line; ticks = own.ticks; chain = own.chain }

-- The lines are those of the program that take ticks in a run with these rows and this chain; or there are none, where the rows are of no run of the program,
-- or the chain goes through none of them.
abbrev pub AreLinesIn : Program → List Row → List ChainStep → List LineTicks → Type 0
AreLinesIn p rows chain lines = ((found : List Counted) × AreTicksByLine p rows chain found × (lines ≡ map shown_line found))
    ⊎ ((AreRun p (serial_along p []) rows × GoesThrough 0 rows chain → ⊥) × (lines ≡ []))

-- the lines are those of the program that the text spells; or there are none, where it spells none
abbrev pub AreLinesShown : List ℕ → List Row → List ChainStep → List LineTicks → Type 0
AreLinesShown text rows chain lines = ((p : Program) × Spells text p × AreLinesIn p rows chain lines)
    ⊎ (((p : Program) → Spells text p → ⊥) × (lines ≡ []))

-- the same, where a page says what was found of the rows
abbrev pub AreLinesFor : List ℕ → List Row → Option Found → List LineTicks → Type 0
AreLinesFor text rows None lines = lines ≡ []
AreLinesFor text rows (Some found) lines = AreLinesShown text rows found.advised.why.profile.chain.steps.items lines
