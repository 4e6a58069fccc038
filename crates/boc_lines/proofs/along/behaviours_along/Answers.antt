use Rattle.std.proofs.Common.{◌≡◌, ◌∙◌, [], ap, length, subst, sym}
use Rattle.boc_program.specs.Programs.{initial_values}
use Rattle.boc_runs.proofs.Behaviours.{initial-length}
use Rattle.boc_runs.specs.Serial.{serial_along}
use Rattle.boc_lines.specs.Wished.{Stands, Took}
use Rattle.boc_lines.proofs.Running.{way_begun, way_more}
use Rattle.boc_lines.proofs.along.behaviours_along.Goals as goal

pub loop-row-init : goal.loop-row-init
loop-row-init c =
    let p = c.args.program.now in
    let values_are : c.deref_mut.result.now ≡ initial_values p.cowns =
    c.deref_mut.ensures.value ∙ c.in_ok-initial.ensures ∙ ap initial_values c.as_slice.ensures in
    record {
      values = ap length values_are ∙ initial-length p.cowns;
      both = c.new-along.ensures.both;
      way = way_begun p c.args.rows.now c.deref_mut.result.now c.new-along.result
          (subst (λ v. Stands (serial_along p []) v c.new-along.result) (sym values_are) (c.new-along.ensures.stands p));
    }

pub loop-row-preserved : goal.loop-row-preserved
loop-row-preserved c =
    let p = c.args.program.now in
    let way = c.loop-row.invariant.way in
    record {
      values = c.in_ok-take.ensures.values;
      both = c.in_ok-take.ensures.both;
      way = way_more p c.args.rows.now c.loop-row.row-index c.row-item.result c.loop-row.values c.take.new.values c.loop-row.along c.take.new.self
          c.loop-row-test.true c.row-item.is way
          (subst (λ took. Took p way.s c.row-item.result took c.take.new.values c.take.new.self) c.if-not-branch.false
          (c.in_ok-take.ensures.took way.s way.stands));
    }
