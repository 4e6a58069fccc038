use Rattle.std.proofs.Common.{◌++◌, List, map, subst, arith}
use Rattle.boc_outcomes.specs.declared.sampling.Sampled.{Sampled}
use Rattle.boc_outcomes.specs.Samples.{Sample, sample_of}
use Rattle.boc_outcomes.specs.Tallies.{Tallies}
use Rattle.boc_outcomes.proofs.Rounds.{none_drawn, round_drawn, some_bounds}
use Rattle.boc_outcomes.proofs.drawing_all.outcomes_of.Goals as goal

pub loop-done-init : goal.loop-done-init
loop-done-init g c = none_drawn c.args.program.now c.args.asked.now c.new-tally.result (c.new-tally.ensures c.args.asked.now.seed)

pub loop-done-preserved : goal.loop-done-preserved
loop-done-preserved g c =
    let asked = c.args.asked.now in
    let all : List Sampled = c.in_ok-all.all.items in
    round_drawn c.args.program.now asked c.loop-done.done c.round_end-next.result all c.loop-done.tally c.add_all.new.self c.loop-done.invariant c.in_ok-all.ensures
    (omega (arith, c.round_end-next.ensures.after))
    (λ xs long was. subst (λ (l : List Sampled). Tallies asked.seed (xs ++ map sample_of l) c.add_all.new.self) c.deref.ensures.value
    (c.in_ok-add_all.ensures xs long was))

pub in_order-requires-clause-rows : goal.in_order-requires-clause-rows
in_order-requires-clause-rows g c =
    let so = c.loop-done.invariant in
    some_bounds (λ (s : Sample). s.rows) so.samples c.loop-done.tally.rows (omega (arith, so.are.all, so.within, c.loop-done-test.false, c.requires.runs))
    so.tallied.rows

pub in_order-requires-clause-spans : goal.in_order-requires-clause-spans
in_order-requires-clause-spans g c =
    let so = c.loop-done.invariant in
    some_bounds (λ (s : Sample). s.span) so.samples c.loop-done.tally.spans (omega (arith, so.are.all, so.within, c.loop-done-test.false, c.requires.runs))
    so.tallied.spans
