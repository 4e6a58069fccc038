use Rattle.std.proofs.Common.{◌≡◌, inl, inr, ap, arith}
use Rattle.std.specs.Prelude.{slice_index}
use Rattle.std.proofs.lemmas.Bool.{cases_lt, cases_eq}
use Rattle.boc_used_greedy.proofs.queues.least_of.Goals as goal

pub loop-tick-preserved : goal.loop-tick-preserved
loop-tick-preserved c =
    let ticks = c.args.ticks.now in
    let i = c.loop-tick.tick-index in
    record {
      least = λ k h. elim (cases_eq k i) [
        | inl e ↦ (let at : slice_index ticks k ≡ slice_index ticks i = ap (slice_index ticks) e in omega (arith, at, c.min-least.ensures))
        | inr ne ↦ omega (arith, c.min-least.ensures, c.loop-tick.invariant.least k (omega (arith, h, ne)))
      ];
      there = elim (cases_lt (slice_index ticks i) c.loop-tick.least) [
        | inl lt ↦ (i, c.loop-tick-test.true, omega (arith, c.min-least.ensures, lt))
        | inr ge ↦ (let (k, h, e) = c.loop-tick.invariant.there in (k, h, omega (arith, c.min-least.ensures, ge, e)))
      ];
    }

pub returns-clause-least : goal.returns-clause-least
returns-clause-least c = λ k h. c.loop-tick.invariant.least k (omega (arith, h, c.loop-tick-test.false))

pub returns-clause-there : goal.returns-clause-there
returns-clause-there c = c.loop-tick.invariant.there
