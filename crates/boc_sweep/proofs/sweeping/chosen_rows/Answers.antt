use Rattle.std.proofs.Common.{◌≡◌, ℕ, ◌<◌, max, length, arith}
use Rattle.std.specs.Prelude.{slice_index}
use Rattle.std.proofs.lemmas.List.{get_or_read}
use Rattle.boc_plans.specs.Plans.{end_of}
use Rattle.boc_sweep.proofs.Choosing.{chosen_none, chosen_more}
use Rattle.boc_sweep.proofs.Spanning.{latest_none, latest_more}
use Rattle.boc_sweep.proofs.sweeping.chosen_rows.Goals as goal

pub loop-row-init : goal.loop-row-init
loop-row-init c = record {
  chosen = chosen_none _ _ _ c.in_ok-chosen.ensures.before c.in_ok-chosen.ensures.bases;
  room = rw c.len.ensures.count at c.in_ok-chosen.ensures.room;
  latest = latest_none _ _;
}

pub loop-row-preserved : goal.loop-row-preserved
loop-row-preserved c =
    let v : ℕ = c.loop-row.row in
    let there : v < length c.args.rows.now = omega (arith, c.loop-row-test.true, c.len-row-end.ensures.count) in
    let read_end : c.index.result.now ≡ slice_index c.args.plan.now.ends.items v =
    get_or_read c.args.plan.now.ends.items v c.index.result.now (omega (arith, there, c.requires.placed.ends_len)) c.index.ensures 0 in
    let now : c.max-latest.result ≡ max (end_of c.args.rows.now c.args.plan.now.starts.items v) c.loop-row.latest =
    omega (arith, c.max-latest.ensures, read_end, (c.requires.placed.placed v there).ends_then) in
    record {
      chosen = chosen_more _ _ _ _ _ _ c.loop-row.invariant.chosen c.put.ensures c.least_base.ensures;
      room = (
        omega (arith, c.loop-row.invariant.room.0, c.put.ensures.before_room),
        omega (arith, c.loop-row.invariant.room.1, c.put.ensures.bases_room),
      );
      latest = latest_more c.args.rows.now c.args.plan.now.starts.items v c.loop-row.latest c.max-latest.result now c.loop-row.invariant.latest;
    }

pub returns : goal.returns
returns c =
    let done : c.loop-row.row ≡ length c.args.rows.now = omega (arith, c.loop-row-test.false, c.loop-row.auto.row-end, c.len-row-end.ensures.count) in
    rw done at c.loop-row.invariant.chosen
