-- How what many runs say is told.
use Rattle.std.specs.Prelude.{◌≡◌, ℕ, ◌+◌, ◌-◌, ◌*◌, ◌/◌, nat_lt, cond, List, [], ◌∷◌, ◌++◌, length, map, replicate, take, Option, Some, None, codes, decimal}
use Rattle.std.specs.Fmt.{signed_decimal}
use Rattle.std.specs.List.{fold}
use Rattle.std.specs.Prelude.{max}
use Rattle.boc_table.specs.declared.side.Side.{Side}
use Rattle.boc_table.specs.declared.side.Side.TheVariants.{Left, Right}
use Rattle.boc_table.specs.Tables.{table_text}
use Rattle.boc_names.specs.declared.names.Names.{Names}
use Rattle.boc_names.specs.Names.{Text}
use Rattle.boc_advice_report.specs.AdviceTexts.{remedy_text}
use Rattle.boc_outcomes.specs.Samples.{seed_of}
use Rattle.boc_many_runs.specs.declared.bins.Bin.{Bin}
use Rattle.boc_many_runs.specs.declared.lines.Line.{Line}
use Rattle.boc_many_runs.specs.declared.many.ManyRuns.{ManyRuns}
use Rattle.boc_many_runs.specs.declared.many_numbers.Spreads.{Spreads}
use Rattle.boc_many_runs.specs.declared.spread.Spread.{Spread}
use Rattle.boc_many_runs_report.specs.declared.told.ManyTold.{ManyTold}
use Rattle.boc_many_runs_report.specs.declared.bars.TheConstants.{BAR}
use Rattle.boc_many_runs_report.specs.declared.lines.TheConstants.{MOST_LISTED}

-- ---- the head

-- how many runs there are, and of how many workers
abbrev pub counts_text : ℕ → ℕ → Text
counts_text runs workers = codes "runs " ++ decimal runs ++ codes "   workers " ++ decimal workers

-- by which seeds they are drawn: the first and the last
abbrev pub seeds_text : ℕ → ℕ → Text
seeds_text first last = codes "   seeds " ++ decimal first ++ codes ".." ++ decimal last ++ codes "\n"

-- how many runs there are, of how many workers, and by which seeds
abbrev pub head_line : ManyTold → Text
head_line told = counts_text told.asked.runs told.asked.workers ++ seeds_text told.asked.seed (seed_of told.asked.seed (told.asked.runs - 1))

-- ---- the numbers of all runs

-- the sides of a name, and three numbers
abbrev pub number_sides : List Side
number_sides = Left ∷ Right ∷ Right ∷ Right ∷ []

-- the line of some numbers, by their name
abbrev pub spread_line : Text → Spread → List Text
spread_line name s = name ∷ decimal s.least ∷ decimal s.median ∷ decimal s.most ∷ []

-- what stands above the numbers
abbrev pub numbers_head : List Text
numbers_head = [] ∷ codes "least" ∷ codes "median" ∷ codes "most" ∷ []

-- the line of the ends of greedy plans, where there are any
abbrev pub end_lines : Option ℕ → Spread → List (List Text)
end_lines None s = []
end_lines (Some p) s = spread_line (codes "end for " ++ decimal p) s ∷ []

-- the lines of the numbers of all runs
abbrev pub numbers_lines : Option ℕ → Spreads → List (List Text)
numbers_lines p all =
    numbers_head ∷ spread_line (codes "rows") all.rows ∷ spread_line (codes "work") all.work ∷ spread_line (codes "span") all.span
    ∷ spread_line (codes "a better order") all.order ∷ end_lines p all.end

abbrev pub numbers_table : Option ℕ → Spreads → Text
numbers_table p all = table_text number_sides (numbers_lines p all)

-- ---- the run by one worker

-- that the run by one worker has another span than any of the others: more, or less
abbrev pub other_span : ℕ → Text → Text
other_span single word = codes "the run on one worker has span " ++ decimal single ++ codes ", " ++ word ++ codes " than any of these\n"

-- the line of the run by one worker, where its span lies outside those of the others
abbrev pub single_line : ℕ → Spread → Text
single_line single span =
    cond (nat_lt span.most single) (other_span single (codes "more")) (cond (nat_lt single span.least) (other_span single (codes "less")) [])

-- ---- the histogram

-- what stands above the histogram: which ends it is of
abbrev pub ends_word : Option ℕ → Text
ends_word None = codes "spans\n"
ends_word (Some p) = codes "ends for " ++ decimal p ++ codes "\n"

-- the most runs of a bin
abbrev pub most_runs : List Bin → ℕ
most_runs bins = fold (λ most b. max most b.runs) 0 bins

-- how long a bar is: as many of 40 signs as the runs of its bin are of the most, rounded up
abbrev pub bar_length : ℕ → ℕ → ℕ
bar_length runs most = (runs * BAR + (most - 1)) / max most 1

abbrev pub bar_text : ℕ → ℕ → Text
bar_text runs most = replicate (bar_length runs most) 35

-- the numbers of a bin
abbrev pub range_text : ℕ → ℕ → Text
range_text first last = codes "  " ++ decimal first ++ cond (nat_lt first last) (codes ".." ++ decimal last) []

-- the line of a bin: its numbers, how many runs have one of these, and its bar
abbrev pub bin_line : ℕ → Bin → List Text
bin_line most b = range_text b.first b.last ∷ decimal b.runs ∷ bar_text b.runs most ∷ []

abbrev pub bin_sides : List Side
bin_sides = Left ∷ Right ∷ Left ∷ []

abbrev pub bins_table : List Bin → Text
bins_table bins = table_text bin_sides (map (bin_line (most_runs bins)) bins)

-- ---- what remedies bring

abbrev pub line_sides : List Side
line_sides = Left ∷ Right ∷ Right ∷ Right ∷ Right ∷ []

-- what stands above the lines of remedies
abbrev pub lines_head : List Text
lines_head = codes "candidates" ∷ codes "least less" ∷ codes "median" ∷ codes "most" ∷ codes "best in" ∷ []

-- the line of a remedy
abbrev pub remedy_line : Names → Line → List Text
remedy_line names own = (codes "  " ++ remedy_text names own.remedy) ∷ signed_decimal own.least ∷ signed_decimal own.median ∷ signed_decimal own.most
    ∷ decimal own.best_in ∷ []

-- how many more there are than are told, where there are more
abbrev pub more_lines : ℕ → List (List Text)
more_lines count =
    cond (nat_lt MOST_LISTED count) (((codes "  " ++ decimal (count - MOST_LISTED) ++ codes " more") ∷ [] ∷ [] ∷ [] ∷ [] ∷ []) ∷ []) []

abbrev pub remedies_lines : Names → List Line → List (List Text)
remedies_lines names lines = lines_head ∷ map (remedy_line names) (take MOST_LISTED lines) ++ more_lines (length lines)

abbrev pub remedies_table : Names → List Line → Text
remedies_table names lines = table_text line_sides (remedies_lines names lines)

-- ---- all of it

-- how many runs there are, of how many workers, and by which seeds, with an empty line below
abbrev pub head_part : ManyTold → Text
head_part told = head_line told ++ codes "\n"

-- the numbers of all runs, and the run by one worker, where its span lies outside, with an empty line below
abbrev pub numbers_part : Option ℕ → ManyRuns → Text
numbers_part p many = numbers_table p many.spreads ++ single_line many.single many.spreads.span ++ codes "\n"

-- the histogram, with an empty line below
abbrev pub bins_part : Option ℕ → List Bin → Text
bins_part p bins = ends_word p ++ bins_table bins ++ codes "\n"

-- what is told of the runs in front of what remedies bring
abbrev pub runs_text : ManyTold → ManyRuns → Text
runs_text told many = head_part told ++ numbers_part told.plan_workers many ++ bins_part told.plan_workers many.bins.items

-- what many runs say, in these names
pub record IsManyText (names : Names) (told : ManyTold) (many : ManyRuns) (text : Text) : Type 0 where
  pub is : text ≡ runs_text told many ++ remedies_table names many.lines.items
