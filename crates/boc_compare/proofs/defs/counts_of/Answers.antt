use Rattle.std.proofs.Common.{◌≡◌, ◌<◌, ◌+◌, ℕ, refl, arith}
use Rattle.std.specs.Prelude.{slice_index}
use Rattle.boc_program.specs.declared.limits.TheConstants.{MOST_ROWS}
use Rattle.boc_why.proofs.ShareKeys.{read_at}
use Rattle.boc_compare.proofs.DefTotals.{counts_all, counts_begin, counts_more, counts_room}
use Rattle.boc_compare.proofs.defs.counts_of.Goals as goal

pub loop-def-init : goal.loop-def-init
loop-def-init c = counts_begin c.args.defs.now c.in_ok-counts.counts.items MOST_ROWS refl (c.in_ok-counts.ensures.items_if_clones_equal (λ y e. e))

pub overflow_add-index_mut : goal.overflow_add-index_mut
overflow_add-index_mut c =
    let i : ℕ = c.loop-def.def-index in
    let key : ℕ = slice_index c.args.defs.now i in
    let there : key < MOST_ROWS = c.requires.few_defs i 0 c.loop-def-test.true in
    let was : c.index_mut.result.now ≡ slice_index c.loop-def.counts.items key =
    read_at c.loop-def.counts.items MOST_ROWS key c.index_mut.result.now c.loop-def.invariant.whole there c.index_mut.ensures.value in
    omega (arith, was, counts_room c.args.defs.now i c.loop-def-test.true c.loop-def.counts.items there c.loop-def.invariant, c.requires.few)

pub loop-def-preserved : goal.loop-def-preserved
loop-def-preserved c =
    let i : ℕ = c.loop-def.def-index in
    let key : ℕ = slice_index c.args.defs.now i in
    let there : key < MOST_ROWS = c.requires.few_defs i 0 c.loop-def-test.true in
    let was : c.index_mut.result.now ≡ slice_index c.loop-def.counts.items key =
    read_at c.loop-def.counts.items MOST_ROWS key c.index_mut.result.now c.loop-def.invariant.whole there c.index_mut.ensures.value in
    counts_more c.args.defs.now i c.loop-def-test.true c.loop-def.counts.items there c.loop-def.invariant (c.index_mut.result.now + 1) (omega (arith, was))

pub returns : goal.returns
returns c = counts_all c.args.defs.now c.loop-def.def-index c.loop-def.counts.items c.loop-def-test.false c.loop-def.invariant
