-- All that is told of many runs, from what the passes found.
use Rattle.std.proofs.Common.{◌≡◌, ◌∙◌, ℕ, List, length, ap, subst, ℤ}
use Rattle.std.specs.Prelude.{All}
use Rattle.std.proofs.lemmas.List.{length-map}
use Rattle.std.proofs.lemmas.Option.{get_or_from_slice_get}
use Rattle.boc_program.proofs.ChangedItems.{item_at}
use Rattle.boc_program.specs.declared.program.Program.{Program}
use Rattle.boc_remedies.specs.declared.remedy.Remedy.{Remedy}
use Rattle.boc_outcomes.specs.declared.asked.Asked.{Asked}
use Rattle.boc_many_runs.specs.declared.counted.Counted.{Counted}
use Rattle.boc_many_runs.specs.declared.many.ManyRuns.{ManyRuns}
use Rattle.boc_many_runs.specs.declared.seen.Numbers.{Numbers}
use Rattle.boc_many_runs.specs.Many.{IsManyRuns, IsToldOf}
use Rattle.boc_many_runs.specs.Passes.{HasFound}
use Rattle.boc_many_runs.specs.Runs.{AreColumns, Found, IsSingle, Manner}
use Rattle.boc_many_runs.specs.Union.{most_tried, union_of}

module _ (p : Program) (asked : Asked) (m : Manner) where
  -- there are as many numbers as runs
  pub numbers_long : (count : ℕ) (numbers : List Numbers) (counted : List Counted) → HasFound p asked m count numbers counted → length numbers ≡ count
  numbers_long count numbers counted has = ap length has.numbers_are ∙ length-map has.all (λ (f : Found). f.numbers) ∙ has.are.long

  -- and so long is each column
  pub columns_even : (remedies : List Remedy) (count : ℕ) (columns : List (List ℤ)) → AreColumns p asked m remedies count columns
      → All (λ column. length column ≡ count) columns
  columns_even remedies count columns are = λ k d low.
      let q = item_at columns k low in
      ap length (get_or_from_slice_get columns k q.0 d q.1) ∙ are.each_long k q.0 q.1

  pub many_are : (numbers : List Numbers) (counted : List Counted) (remedies : List Remedy) (columns : List (List ℤ)) (many : ManyRuns)
      → HasFound p asked m asked.runs numbers counted → remedies ≡ most_tried counted → AreColumns p asked m remedies asked.runs columns
      → IsSingle p m.sharing many.single → IsToldOf asked.runs numbers remedies columns many → IsManyRuns p asked m many
  many_are numbers counted remedies columns many has are cols single told =
      let same : remedies ≡ union_of has.all = are ∙ ap most_tried has.counted_are in
      record {
        all = has.all;
        all_are = has.are;
        columns = columns;
        columns_are = subst (λ (rs : List Remedy). AreColumns p asked m rs asked.runs columns) same cols;
        single = single;
        told = subst (λ (ns : List Numbers). IsToldOf asked.runs ns (union_of has.all) columns many) has.numbers_are
            (subst (λ (rs : List Remedy). IsToldOf asked.runs numbers rs columns many) same told);
      }
