use Rattle.std.proofs.Common.{rules, ◌≡◌, length, arith, replicate}
use Rattle.boc_greedy.specs.declared.frontier.RowState.TheVariants.{Unspawned}
use Rattle.boc_greedy.proofs.Waking.{begun, main_waits}
use Rattle.std.specs.Prelude.{pred}
use Rattle.boc_greedy.proofs.frontier.Frontier.new.Goals as goal

pub returns-clause-kept : goal.returns-clause-kept
returns-clause-kept c =
    let all : c.loop-row.row ≡ length c.args.rows.now = omega (arith, c.loop-row-test.false, c.len-count.ensures.count, c.loop-row.auto.row-end) in
    let i = c.loop-row.invariant in
    let states : c.in_ok-states.states.items ≡ replicate (length c.args.rows.now) Unspawned = search rules in
    let main = main_waits (length c.args.rows.now) c.requires.shape.not_empty in (
      c.args.waits.now,
      begun c.args.rows.now c.args.waits.now c.args.followers.now _ c.loop-row.unmet.items c.in_ok-ready.ready c.insert.new.self (pred (length c.args.rows.now))
          (rw states main.0) main.1 c.requires.waits c.requires.followers (omega (arith, i.whole, all)) (λ r h. i.counts r (omega (arith, h, all)))
          c.in_ok-ready.ensures.rows c.insert.ensures.set c.insert.ensures.rows,
    )
