use Rattle.std.proofs.Common.{arith, ◌≡◌, ◌∙◌, IsTrue, ap, length, map, refl, subst, sym}
use Rattle.boc_program.specs.Programs.{initial_values}
use Rattle.boc_runs.proofs.Behaviours.{initial-length}
use Rattle.boc_eval.specs.Instances.{behaviour_in}
use Rattle.boc_lines.specs.Replays.{numbers}
use Rattle.boc_lines.proofs.Numbering.{numbers_few}
use Rattle.boc_lines.proofs.Replaying.{row_ticks, zero_and}
use Rattle.boc_lines.proofs.replay.ticks_by_statement.Goals as goal

pub all_fit-requires : goal.all_fit-requires
all_fit-requires c =
    ap length (c.deref_mut.ensures.value ∙ c.in_ok-initial.ensures ∙ ap initial_values c.as_slice.ensures) ∙ initial-length c.args.program.now.cowns

pub run_rows-requires-clause-fit : goal.run_rows-requires-clause-fit
run_rows-requires-clause-fit c = c.all_fit.ensures.0 (subst IsTrue (sym c.if-not-all_fit.false) refl)

pub run_rows-requires-clause-values : goal.run_rows-requires-clause-values
run_rows-requires-clause-values c =
    ap length (c.deref_mut.ensures.value ∙ c.in_ok-initial.ensures ∙ ap initial_values c.as_slice.ensures) ∙ initial-length c.args.program.now.cowns

pub returns-clause-ticks : goal.returns-clause-ticks
returns-clause-ticks c =
    let walk = c.in_ok-walk.walk in
    let after = c.run_rows.new.walk in
    let bodies_are : numbers c.as_slice-2.result.now ≡ numbers c.args.program.now.bodies = ap numbers c.as_slice-2.ensures in
    row_ticks c.args.program.now (map behaviour_in c.args.rows.now) c.args.through.now after.counts.items after.chain.items walk.counts.items walk.chain.items
    c.deref_mut.result.now c.in_ok-end.end (c.deref_mut.ensures.value ∙ c.in_ok-initial.ensures ∙ ap initial_values c.as_slice.ensures)
    (c.in_ok-end.ensures.end ∙ zero_and (numbers c.as_slice-2.result.now) ∙ bodies_are) c.in_ok-walk.ensures.counts c.in_ok-walk.ensures.chain
    c.in_ok-run_rows.ensures.counts c.in_ok-run_rows.ensures.chain

pub put_sizes-requires : goal.put_sizes-requires
put_sizes-requires c = omega (arith, numbers_few c.args.program.now.bodies, c.args.program.now.few_defs, ap numbers c.as_slice-3.ensures)
