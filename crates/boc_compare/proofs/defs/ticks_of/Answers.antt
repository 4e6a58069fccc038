use Rattle.std.proofs.Common.{◌≡◌, ◌<◌, ◌+◌, ℕ, refl, arith, get_or}
use Rattle.std.specs.Prelude.{slice_index}
use Rattle.boc_program.specs.declared.limits.TheConstants.{MOST_ROWS}
use Rattle.boc_runs.specs.declared.rows.Row.{Row}
use Rattle.boc_why.proofs.ShareKeys.{read_at}
use Rattle.boc_compare.proofs.DefTotals.{ticks_all, ticks_begin, ticks_more, ticks_room}
use Rattle.boc_compare.proofs.defs.ticks_of.Goals as goal

pub loop-row-init : goal.loop-row-init
loop-row-init c = ticks_begin c.args.rows.now c.args.defs.now c.in_ok-ticks.ticks.items MOST_ROWS refl (c.in_ok-ticks.ensures.items_if_clones_equal (λ y e. e))

pub overflow_add-index_mut : goal.overflow_add-index_mut
overflow_add-index_mut c =
    let n : ℕ = c.loop-row.row in
    let x : Row = c.index-rows-row.result in
    let key : ℕ = slice_index c.args.defs.now n in
    let there : key < MOST_ROWS = c.requires.few_defs n 0 c.loop-row-test.true in
    let was : c.index_mut.result.now ≡ slice_index c.loop-row.ticks.items key =
    read_at c.loop-row.ticks.items MOST_ROWS key c.index_mut.result.now c.loop-row.invariant.whole there c.index_mut.ensures.value in
    let own : c.from.result ≡ (get_or c.args.rows.now n x).ticks = c.from.ensures in
    omega (
      arith,
      was,
      own,
      ticks_room c.args.rows.now c.args.defs.now c.requires.defs n x c.loop-row-test.true c.loop-row.ticks.items there c.loop-row.invariant c.requires.shape,
    )

pub loop-row-preserved : goal.loop-row-preserved
loop-row-preserved c =
    let n : ℕ = c.loop-row.row in
    let x : Row = c.index-rows-row.result in
    let key : ℕ = slice_index c.args.defs.now n in
    let there : key < MOST_ROWS = c.requires.few_defs n 0 c.loop-row-test.true in
    let was : c.index_mut.result.now ≡ slice_index c.loop-row.ticks.items key =
    read_at c.loop-row.ticks.items MOST_ROWS key c.index_mut.result.now c.loop-row.invariant.whole there c.index_mut.ensures.value in
    let own : c.from.result ≡ (get_or c.args.rows.now n x).ticks = c.from.ensures in
    ticks_more c.args.rows.now c.args.defs.now c.requires.defs n x c.loop-row-test.true c.loop-row.ticks.items there c.loop-row.invariant
    (c.index_mut.result.now + c.from.result) (omega (arith, was, own))

pub returns : goal.returns
returns c = ticks_all c.args.rows.now c.args.defs.now c.loop-row.row c.loop-row.ticks.items c.requires.defs c.loop-row-test.false c.loop-row.invariant
