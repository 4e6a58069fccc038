-- How runs of two programs are told that the same seeds draw.
use Rattle.std.specs.Prelude.{◌≡◌, ℕ, ◌-◌, List, [], ◌∷◌, ◌++◌, Option, Some, None, codes, decimal}
use Rattle.boc_table.specs.declared.side.Side.{Side}
use Rattle.boc_table.specs.declared.side.Side.TheVariants.{Left, Right}
use Rattle.boc_table.specs.Tables.{table_text}
use Rattle.boc_names.specs.Names.{Text}
use Rattle.boc_outcomes.specs.declared.asked.Asked.{Asked}
use Rattle.boc_outcomes.specs.Samples.{seed_of}
use Rattle.boc_many_runs.specs.declared.spread.Spread.{Spread}
use Rattle.boc_compare_report.specs.CompareTexts.{percent_text}
use Rattle.boc_several_commands.specs.declared.runs_text.RunsCompared.{RunsCompared}

-- how many runs of each program there are, of how many workers, and by which seeds
abbrev pub head_line : Asked → Text
head_line asked =
    codes "runs " ++ decimal asked.runs ++ codes "   workers " ++ decimal asked.workers ++ codes "   seeds " ++ decimal asked.seed ++ codes ".."
    ++ decimal (seed_of asked.seed (asked.runs - 1)) ++ codes "\n\n"

-- the sides of a name, three numbers, an arrow, and three numbers
abbrev pub runs_sides : List Side
runs_sides = Left ∷ Right ∷ Right ∷ Right ∷ Left ∷ Right ∷ Right ∷ Right ∷ []

-- what stands above the numbers
abbrev pub runs_head : List Text
runs_head = [] ∷ codes "least" ∷ codes "median" ∷ codes "most" ∷ codes "->" ∷ codes "least" ∷ codes "median" ∷ codes "most" ∷ []

-- the line of a number of both programs, by its name
abbrev pub both_line : Text → Spread → Spread → List Text
both_line name before after =
    name ∷ decimal before.least ∷ decimal before.median ∷ decimal before.most ∷ [] ∷ decimal after.least ∷ decimal after.median ∷ decimal after.most ∷ []

-- by what runs are judged
abbrev pub what_text : Option ℕ → Text
what_text None = codes "span"
what_text (Some p) = codes "end for " ++ decimal p

-- the line of the ends for some workers, where a number of them is given
abbrev pub ends_line : Option ℕ → Spread → Spread → List (List Text)
ends_line None before after = []
ends_line (Some p) before after = both_line (what_text (Some p)) before after ∷ []

-- the lines of all numbers
abbrev pub runs_lines : RunsCompared → List (List Text)
runs_lines told =
    runs_head ∷ both_line (codes "rows") told.before.rows told.after.rows ∷ both_line (codes "work") told.before.work told.after.work
    ∷ both_line (codes "span") told.before.span told.after.span ∷ ends_line told.plan_workers told.before.end told.after.end

-- the table of all numbers
abbrev pub runs_table : RunsCompared → Text
runs_table told = table_text runs_sides (runs_lines told)

-- by how much the median end changes
abbrev pub change_text : RunsCompared → Text
change_text told = codes "the median " ++ what_text told.plan_workers ++ codes " is " ++ percent_text told.before.end.median told.after.end.median

-- for how many of so many seeds the end is less, and for how many it is the same
abbrev pub seeds_text : ℕ → ℕ → ℕ → Text
seeds_text less same runs =
    codes "; it is less in " ++ decimal less ++ codes " and the same in " ++ decimal same ++ codes " of " ++ decimal runs ++ codes " seeds\n"

-- by how much the median end changes, and for how many seeds it is less or the same
abbrev pub last_line : RunsCompared → Text
last_line told = change_text told ++ seeds_text told.less told.same told.asked.runs

-- all of it
pub record IsRunsText (told : RunsCompared) (text : Text) : Type 0 where
  pub is : text ≡ head_line told.asked ++ runs_table told ++ last_line told
