use Rattle.std.proofs.Common.{◌≡◌, ℕ, ◌+◌, ◌<◌, ◌≤◌, length, arith}
use Rattle.boc_runs.specs.Rows.{ticks_of}
use Rattle.boc_program.specs.declared.limits.TheConstants.{MOST_ROWS}
use Rattle.boc_order.proofs.LeastSpawns.{spawned_next, spawned_plan, starts_low}
use Rattle.boc_order.proofs.least.spawn_plan.Goals as goal

pub loop-row-preserved : goal.loop-row-preserved
loop-row-preserved c =
    let rows = c.args.rows.now in
    let n : ℕ = c.loop-row.row in
    let there : n < length rows = omega (arith, c.loop-row-test.true, c.len-row-end.ensures.count) in
    let start : ℕ = c.spawned_at-start.result in
    let end : start + c.from.result ≡ start + ticks_of rows n = omega (arith, c.from.ensures, c.ticks.ensures) in
    record {
      spawned = rw c.push_reserved.ensures.items (spawned_next rows c.requires c.loop-row.starts.items n c.loop-row.latest start there
          c.loop-row.invariant.spawned c.spawned_at-start.ensures.main (rw c.deref.ensures.value at c.spawned_at-start.ensures.child)
          (start + c.from.result) c.max-latest.result end c.max-latest.ensures);
      room = omega (arith, c.push_reserved.ensures.capacity, c.loop-row.invariant.room);
    }

pub returns-clause-is : goal.returns-clause-is
returns-clause-is c =
    let rows = c.args.rows.now in
    let all : c.loop-row.row ≡ length rows = omega (arith, c.loop-row-test.false, c.loop-row.auto.row-end, c.len-row-end.ensures.count) in
    spawned_plan rows c.requires c.loop-row.starts.items c.loop-row.row c.loop-row.latest all c.loop-row.invariant.spawned

pub returns-clause-low : goal.returns-clause-low
returns-clause-low c =
    let rows = c.args.rows.now in
    let few : c.loop-row.row ≤ MOST_ROWS = omega (arith, c.loop-row.auto.row-end, c.len-row-end.ensures.count, c.requires.not_many) in
    starts_low rows c.loop-row.starts.items c.loop-row.row c.loop-row.latest few c.loop-row.invariant.spawned
