use Rattle.std.proofs.Common.{◌∙◌, List, ap, length, refl}
use Rattle.boc_runs.specs.declared.rows.Row.{Row}
use Rattle.boc_plans.specs.Plans.{work_of}
use Rattle.boc_many_runs.proofs.seen.numbers_of.Goals as goal

pub returns : goal.returns
returns c = record {
  rows = ap (λ (rows : List Row). length rows) c.as_slice-rows.ensures.same;
  work = c.work.ensures ∙ ap work_of c.as_slice-rows.ensures.same;
  ends = c.in_ok-ends.ends;
  ends_are = c.in_ok-ends.ensures;
  span = refl;
  end = c.judged.ensures;
  eager = c.in_ok-eager.eager;
  is_eager = c.in_ok-eager.ensures;
  order = refl;
}
