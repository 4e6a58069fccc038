use Rattle.std.proofs.Common.{◌≡◌, ℕ, ◌+◌, ◌<◌, ◌≤◌, ◌∙◌, List, drop, length, ap, subst, sym, arith}
use Rattle.boc_runs.specs.Rows.{cowns_of}
use Rattle.boc_turns.specs.Ticks.{AreTicks}
use Rattle.boc_turns.specs.Turns.{cowns_before, use_at}
use Rattle.boc_turns.proofs.Adding.{ticks_more, written_back}
use Rattle.boc_turns.proofs.Counting.{before_more, own_enough, part_is}
use Rattle.boc_turns.proofs.ticks.ticks_used.Goals as goal

pub add_ticks-requires-clause-uses : goal.add_ticks-requires-clause-uses
add_ticks-requires-clause-uses c =
    let rows = c.args.rows.now in
    let there : c.loop-row.row < length rows = omega (arith, c.loop-row-test.true, c.len-row-end.ensures.count) in
    rw (part_is rows c.args.uses.now c.requires.uses c.loop-row.row there c.loop-row.passed c.loop-row.invariant.passed)
    (own_enough rows c.args.uses.now c.requires.uses c.loop-row.row there)

pub loop-row-preserved : goal.loop-row-preserved
loop-row-preserved c =
    let rows = c.args.rows.now in
    let n : ℕ = c.loop-row.row in
    let there : c.loop-row.row < length rows = omega (arith, c.loop-row-test.true, c.len-row-end.ensures.count) in
    let part = part_is rows c.args.uses.now c.requires.uses n there c.loop-row.passed c.loop-row.invariant.passed in
    let each = rw (c.deref_mut.ensures.value, part) at c.add_ticks.ensures.each in
    let long : length c.add_ticks.new.totals ≡ length c.loop-row.totals.items =
    c.add_ticks.ensures.whole ∙ sym c.loop-row.invariant.ticks.whole in
    let back = written_back c.add_ticks.new.totals c.loop-row.totals.items c.loop-row.totals.len long c.loop-row.totals.ok.0 in
    record {
      passed = ap (λ (k : ℕ). c.loop-row.passed + k) (ap length c.cowns.ensures) ∙ omega (arith, c.loop-row.invariant.passed, before_more rows n there);
      ticks = subst (AreTicks rows c.args.uses.now (n + 1)) (sym back) (ticks_more rows c.requires.shape c.args.uses.now c.requires.uses n there
          c.loop-row.totals.items c.add_ticks.new.totals c.loop-row.invariant.ticks c.add_ticks.ensures.whole each);
    }

pub returns : goal.returns
returns c =
    let all : c.loop-row.row ≡ length c.args.rows.now =
    omega (arith, c.loop-row-test.false, c.loop-row.auto.row-end, c.len-row-end.ensures.count) in
    subst (λ (k : ℕ). AreTicks c.args.rows.now c.args.uses.now k c.loop-row.totals.items) all c.loop-row.invariant.ticks
