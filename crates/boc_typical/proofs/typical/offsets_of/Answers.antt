use Rattle.std.proofs.Common.{◌≡◌, ◌≤◌, ◌+◌, ℕ, List, length, set, sym, subst, arith}
use Rattle.boc_program.specs.declared.limits.TheConstants.{MOST_TICKS}
use Rattle.boc_runs.specs.declared.rows.Row.{Row}
use Rattle.boc_typical.specs.Spread.{AreOffsetsTo}
use Rattle.boc_typical.proofs.Offsets.{step_low, step_next}
use Rattle.boc_typical.proofs.typical.offsets_of.Goals as goal

pub overflow_cast-offset : goal.overflow_cast-offset
overflow_cast-offset c =
    let low : c.offset_after-next.result ≤ MOST_TICKS = step_low c.args.rows.now c.requires.shape c.args.middles.now c.loop-row.row c.loop-row.auto.row
    c.loop-row-test.true c.loop-row.offsets.items c.loop-row.lasts.items c.loop-row.invariant c.index-rows-row.result c.index-rows-row.is
    c.index-rows-parent.result c.index-rows-parent.is c.index-last.result.now c.index-last.ensures c.offset_after-next.result c.offset_after-next.ensures
    c.requires.middles in
    omega (arith, low)

pub loop-row-preserved : goal.loop-row-preserved
loop-row-preserved c =
    let x : Row = c.index-rows-row.result in
    let next : ℕ = c.offset_after-next.result in
    subst (λ (l : List ℕ). AreOffsetsTo c.args.rows.now c.args.middles.now (c.loop-row.row + 1) l (set c.loop-row.lasts.items x.parent next))
    (sym {A = List ℕ} c.in_ok-push-2.ensures.items)
    (step_next c.args.rows.now c.requires.shape c.args.middles.now c.loop-row.row c.loop-row.auto.row
    c.loop-row-test.true c.loop-row.offsets.items c.loop-row.lasts.items c.loop-row.invariant x c.index-rows-row.is
    c.index-rows-parent.result c.index-rows-parent.is c.index-last.result.now c.index-last.ensures next c.offset_after-next.ensures)

pub returns : goal.returns
returns c =
    let all : c.loop-row.row ≡ length c.args.rows.now =
    omega (arith, c.loop-row-test.false, c.loop-row.auto.row-end (omega (arith, c.requires.shape.not_empty))) in
    subst (λ (n : ℕ). AreOffsetsTo c.args.rows.now c.args.middles.now n c.loop-row.offsets.items c.loop-row.lasts.items) all c.loop-row.invariant
