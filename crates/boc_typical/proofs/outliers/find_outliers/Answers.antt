use Rattle.std.proofs.Common.{◌<◌, ℕ, List, sym, ap, ◌∙◌, subst}
use Rattle.std.specs.Prelude.{All}
use Rattle.boc_program.specs.declared.limits.TheConstants.{MOST_ROWS}
use Rattle.boc_runs.specs.declared.rows.Row.{Row}
use Rattle.boc_typical.specs.Outliers.{noted, outliers_among, work_in}
use Rattle.boc_typical.specs.Taken.{taken}
use Rattle.boc_typical.proofs.outliers.find_outliers.Goals as goal

pub outliers_among-found-requires-clause-shape : goal.outliers_among-found-requires-clause-shape
outliers_among-found-requires-clause-shape c = rw c.as_slice.ensures.same c.as_slice.ensures.shape

pub outliers_among-found-requires-clause-below : goal.outliers_among-found-requires-clause-below
outliers_among-found-requires-clause-below c = rw c.deref.ensures.value
    (subst (λ (n : ℕ). All (λ d. d < n) c.args.defs.now) (sym c.in_ok-typical.ensures.whole) c.requires.few_defs)

pub work_in-requires : goal.work_in-requires
work_in-requires c = rw c.as_slice-2.ensures.same c.as_slice-2.ensures.shape

pub returns : goal.returns
returns c = record {
  bound = MOST_ROWS;
  below = c.requires.few_defs;
  typical = c.in_ok-typical.typical.items;
  typical_is = c.in_ok-typical.ensures;
  is = c.noted.ensures
      ∙ ap (λ (w : ℕ). noted w c.outliers_among-found.result) (c.work_in.ensures ∙ ap work_in c.as_slice-2.ensures.same)
      ∙ ap (noted (work_in c.args.rows.now)) (c.outliers_among-found.ensures.is
      ∙ ap (λ (t : List ℕ). outliers_among t (taken c.as_slice.result.now c.args.defs.now)) c.deref.ensures.value
      ∙ ap (λ (r : List Row). outliers_among c.in_ok-typical.typical.items (taken r c.args.defs.now)) c.as_slice.ensures.same);
}
