-- What a page shows of runs that seeds draw of its program.
use Rattle.std.specs.Prelude.{◌≡◌, ℕ, List, map, Option, Some, None}
use Rattle.boc_many_runs.specs.declared.bins.Bin.{Bin}
use Rattle.boc_pictures.specs.declared.page_runs.RunsBar.{RunsBar}
use Rattle.boc_run_commands.specs.declared.fault.Fault.{Fault}
use Rattle.boc_several_commands.specs.WhyRuns.{AreRunsIn, IsOfWhyRuns}
use Rattle.boc_words.specs.declared.asked.AskedRuns.{AskedRuns}
use Rattle.boc_view.specs.declared.runs.RunsShown.{RunsShown}

-- a bar of the histogram, as a page has it
abbrev pub shown_bar : Bin → RunsBar
shown_bar own = record { first = own.first; last = own.last; runs = own.runs }

-- the input spells a program, whose runs that are asked for say so much, with the text that `boc why --runs` prints; their histogram has these bars
pub record AreRunsShownIn (asked : AskedRuns) (input : List ℕ) (shown : RunsShown) : Type 0 where
  pub told : AreRunsIn asked input shown.told.many shown.told.text.items
  pub bars : shown.bars.items ≡ map shown_bar shown.told.many.bins.items

-- the same where runs are asked for, and nothing is shown of any where none are
abbrev pub AreRunsShown : Option AskedRuns → List ℕ → Option RunsShown → Type 0
AreRunsShown None input None = Unit {0}
AreRunsShown None input (Some shown) = ⊥
AreRunsShown (Some asked) input None = ⊥
AreRunsShown (Some asked) input (Some shown) = AreRunsShownIn asked input shown

-- a fault of the runs that are asked for: where none are, there is none
abbrev pub IsOfRunsShown : Option AskedRuns → List ℕ → Fault → Type 0
IsOfRunsShown None input fault = ⊥
IsOfRunsShown (Some asked) input fault = IsOfWhyRuns asked input fault
