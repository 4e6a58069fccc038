use Rattle.std.proofs.Common.{ℕ, ◌+◌, ◌<◌, arith, refl}
use Rattle.std.specs.Prelude.{slice_index}
use Rattle.boc_program.specs.declared.limits.TheConstants.{MOST_COWNS}
use Rattle.boc_cowns.proofs.Added.{added_all, added_more, fresh}
use Rattle.boc_cowns.proofs.totals.add.Goals as goal

pub overflow_add-totals : goal.overflow_add-totals
overflow_add-totals c =
    let cown : ℕ = slice_index c.args.cowns.now c.loop-cown.cown-index in
    let small : cown < MOST_COWNS = omega (arith, c.type_inv.cowns c.loop-cown.cown-index) in
    omega (
      arith,
      fresh c.args.cowns.now c.args.ticks c.args.totals.now c.requires.rise c.loop-cown.cown-index c.loop-cown.totals c.loop-cown.invariant
          c.loop-cown-test.true,
      c.requires.room cown small,
    )

pub loop-cown-preserved : goal.loop-cown-preserved
loop-cown-preserved c =
    let cown : ℕ = slice_index c.args.cowns.now c.loop-cown.cown-index in
    let small : cown < MOST_COWNS = omega (arith, c.type_inv.cowns c.loop-cown.cown-index) in
    added_more c.args.cowns.now c.args.ticks c.args.totals.now c.requires.rise c.loop-cown.cown-index c.loop-cown.totals c.loop-cown.invariant
    c.loop-cown-test.true (omega (arith, small, c.requires.whole)) (slice_index c.loop-cown.totals cown + c.args.ticks) refl

pub returns-clause-each : goal.returns-clause-each
returns-clause-each c cown h = added_all c.args.cowns.now c.args.ticks c.args.totals.now c.loop-cown.cown-index c.loop-cown.totals c.loop-cown-test.false
    c.loop-cown.auto.cown-index-end c.loop-cown.invariant cown
