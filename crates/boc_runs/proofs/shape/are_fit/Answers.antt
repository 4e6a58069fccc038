use Rattle.std.proofs.Common.{◌∙◌, refl, sym, arith}
use Rattle.std.proofs.lemmas.List.{length-set}
use Rattle.boc_runs.specs.Rows.{IsFit}
use Rattle.boc_runs.proofs.Children.{row_read, parent_there, last_more, fit_more}
use Rattle.boc_runs.proofs.shape.are_fit.Goals as goal

pub loop-number-preserved : goal.loop-number-preserved
loop-number-preserved c =
    let i = c.loop-number.invariant in
    let fit : IsFit c.args.rows.now c.loop-number.number = c.if-not-is_fit.ensures.0 refl in
    let row = row_read c.args.rows.now c.loop-number.number c.index-rows-number.result c.loop-number-test.true c.index-rows-number.is in
    let parent = parent_there c.args.rows.now c.loop-number.number fit c.loop-number-test.true in (
      fit_more c.args.rows.now c.loop-number.number i.0 fit,
      rw (sym row.parent, sym row.offset) (last_more c.args.rows.now c.loop-number.number c.loop-number.last fit (omega (arith, parent, c.requires.whole, i.2))
          i.1),
      length-set c.loop-number.last _ _ ∙ i.2,
    )
