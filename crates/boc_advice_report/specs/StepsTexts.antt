-- How one change after another is told.
use Rattle.std.specs.Prelude.{◌≡◌, ℕ, suc, List, [], ◌∷◌, ◌++◌, length, cond, nat_lt, Option, Some, codes, decimal}
use Rattle.boc_table.specs.Tables.{table_text}
use Rattle.boc_names.specs.declared.names.Names.{Names}
use Rattle.boc_names.specs.Names.{Text}
use Rattle.boc_remedies.specs.declared.candidates.Candidate.{Candidate}
use Rattle.boc_remedies.specs.declared.ends.Ends.{Ends}
use Rattle.boc_advice_report.specs.declared.steps.StepsTold.{StepsTold}
use Rattle.boc_advice_report.specs.AdviceTexts.{ends_texts, list_head, list_sides, remedy_text}
use Rattle.boc_advice_report.specs.WorkersTexts.{workers_text}

-- what the step with this number is called
abbrev pub step_name : Names → ℕ → Candidate → Text
step_name names number step = codes "  " ++ decimal number ++ codes "  " ++ remedy_text names step.remedy

-- the lines of steps, the first of which has this number, in a list for these ends: each against what the one before it left
abbrev pub steps_lines : Names → Ends → ℕ → Ends → List Candidate → List (List Text)
steps_lines names now number was [] = []
steps_lines names now number was (step ∷ steps) =
    ends_texts (step_name names number step) now was step.ends ∷ steps_lines names now (suc number) step.ends steps

-- the lines of the steps, below what stands above their columns
abbrev pub table_lines : Names → StepsTold → List (List Text)
table_lines names told = list_head (codes "steps") told.workers told.now ∷ steps_lines names told.now 1 told.now told.steps.now

-- the table of the steps
abbrev pub steps_table : Names → StepsTold → Text
steps_table names told = table_text (list_sides told.now) (table_lines names told)

-- what the rows take by the workers, where a number of these is given
abbrev pub workers_line : ℕ → ℕ → Option ℕ → Option ℕ → Text
workers_line work span (Some p) (Some end) = workers_text (record { p = p; work = work; span = span; end = end })
workers_line work span workers end = []

-- the numbers at the head
abbrev pub steps_head : StepsTold → Text
steps_head told =
    codes "rows " ++ decimal told.rows ++ codes "   work " ++ decimal told.work ++ codes "   span " ++ decimal told.now.span ++ codes "\n"
    ++ workers_line told.work told.now.span told.workers told.now.greedy

-- that nothing further saves anything, where there are fewer steps than were asked for
abbrev pub no_further : ℕ → ℕ → Text
no_further steps most = cond (nat_lt steps most) (codes "no further change that was tried saves anything\n") []

-- what is told of one change after another
pub record IsStepsText (names : Names) (told : StepsTold) (text : Text) : Type 0 where
  pub is : text ≡ steps_head told ++ codes "\n" ++ steps_table names told ++ no_further (length told.steps.now) told.most
