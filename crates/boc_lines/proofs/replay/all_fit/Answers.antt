use Rattle.std.proofs.Common.{IsTrue, refl, sym, subst, map}
use Rattle.boc_eval.specs.Instances.{behaviour_in}
use Rattle.boc_lines.proofs.Replaying.{fits_more, row_at, row_below_all}
use Rattle.boc_lines.proofs.replay.all_fit.Goals as goal

pub returns-then-not-fits : goal.returns-then-not-fits
returns-then-not-fits c = (
  λ e. absurd cc,
  λ all. subst IsTrue c.if-not-fits.true
      (c.fits.ensures.1 (all c.loop-row.row-index (behaviour_in c.row-item.result)
      (row_at c.args.rows.now c.loop-row.row-index c.row-item.result c.loop-row-test.true c.row-item.is))),
)

pub loop-row-preserved : goal.loop-row-preserved
loop-row-preserved c =
    fits_more c.args.program.now (map behaviour_in c.args.rows.now) c.loop-row.row-index (behaviour_in c.row-item.result) c.loop-row.invariant
    (row_at c.args.rows.now c.loop-row.row-index c.row-item.result c.loop-row-test.true c.row-item.is)
    (c.fits.ensures.0 (subst IsTrue (sym c.if-not-fits.false) refl))

pub returns : goal.returns
returns c =
    (λ e row b is. c.loop-row.invariant row b (row_below_all c.args.rows.now c.loop-row.row-index row b c.loop-row-test.false is) is, λ all. refl)
