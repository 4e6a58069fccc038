-- What is told of many runs that say the same is the same, in names that call everything the same.
use Rattle.std.proofs.Common.{◌≡◌, ◌∙◌, List, [], ◌∷◌, ◌++◌, length, map, take, ap, sym}
use Rattle.std.specs.Prelude.{codes, decimal}
use Rattle.std.specs.Fmt.{signed_decimal}
use Rattle.boc_table.specs.Tables.{table_text}
use Rattle.boc_names.specs.declared.names.Names.{Names}
use Rattle.boc_names.specs.Names.{CallTheSame, Text}
use Rattle.boc_advice_report.proofs.OneText.{remedy_same}
use Rattle.boc_many_runs.specs.declared.lines.Line.{Line}
use Rattle.boc_many_runs.specs.declared.many.ManyRuns.{ManyRuns}
use Rattle.boc_many_runs.specs.Many.{SayTheSame}
use Rattle.boc_many_runs_report.specs.declared.lines.TheConstants.{MOST_LISTED}
use Rattle.boc_many_runs_report.specs.declared.told.ManyTold.{ManyTold}
use Rattle.boc_many_runs_report.specs.ManyTexts.{IsManyText, bins_part, head_part, line_sides, lines_head, more_lines, numbers_table}
use Rattle.boc_many_runs_report.specs.ManyTexts.{remedies_table, remedy_line, runs_text, single_line}

-- what is told of the runs is the same
runs_same : (told : ManyTold) (many other : ManyRuns) → SayTheSame many other → runs_text told many ≡ runs_text told other
runs_same told many other alike = λ i. head_part told ++ (numbers_table told.plan_workers (alike.spreads i)
    ++ single_line (alike.single i) (alike.spreads i).span ++ codes "\n") ++ bins_part told.plan_workers (alike.bins i)

module _ (a b : Names) (same : CallTheSame a b) where
  line_same : (own : Line) → remedy_line a own ≡ remedy_line b own
  line_same own = λ i. (codes "  " ++ remedy_same a b same own.remedy i) ∷ signed_decimal own.least ∷ signed_decimal own.median ∷ signed_decimal own.most
      ∷ decimal own.best_in ∷ []

  remedies_same : (lines : List Line) → remedies_table a lines ≡ remedies_table b lines
  remedies_same lines = λ i. table_text line_sides
      (lines_head ∷ map (λ (own : Line). line_same own i) (take MOST_LISTED lines) ++ more_lines (length lines))

  -- what many runs say has one text
  pub one_many_text : (told : ManyTold) (many other : ManyRuns) (text other_text : Text) → SayTheSame many other → IsManyText a told many text
      → IsManyText b told other other_text → text ≡ other_text
  one_many_text told many other text other_text alike x y =
      let lines : remedies_table a many.lines.items ≡ remedies_table b other.lines.items =
      remedies_same many.lines.items ∙ ap (remedies_table b) alike.lines in
      x.is ∙ ((λ i. runs_same told many other alike i ++ lines i) ∙ sym y.is)
