use Rattle.std.proofs.Common.{◌≡◌, ◌<◌, ◌+◌, ℕ, arith}
use Rattle.std.specs.Prelude.{slice_index}
use Rattle.std.proofs.lemmas.List.{take_all}
use Rattle.boc_typical.proofs.SeenMedians.{counts_low, counts_more, read_at}
use Rattle.boc_typical.proofs.medians.counts_of.Goals as goal

pub overflow_add-index_mut : goal.overflow_add-index_mut
overflow_add-index_mut c =
    let i : ℕ = c.loop-def.def-index in
    let key : ℕ = slice_index c.args.defs.now i in
    let there : key < c.args.bound = c.requires.below i 0 c.loop-def-test.true in
    let was : c.index_mut.result.now ≡ slice_index c.loop-def.counts.items key =
    read_at c.loop-def.counts.items c.args.bound key c.index_mut.result.now c.loop-def.invariant.whole there c.index_mut.ensures.value in
    omega (
      arith,
      was,
      counts_low c.args.defs.now c.args.bound i c.loop-def.counts.items key c.loop-def.invariant there,
      c.requires.few,
      c.loop-def-test.true,
    )

pub loop-def-preserved : goal.loop-def-preserved
loop-def-preserved c =
    let i : ℕ = c.loop-def.def-index in
    let key : ℕ = slice_index c.args.defs.now i in
    let there : key < c.args.bound = c.requires.below i 0 c.loop-def-test.true in
    let was : c.index_mut.result.now ≡ slice_index c.loop-def.counts.items key =
    read_at c.loop-def.counts.items c.args.bound key c.index_mut.result.now c.loop-def.invariant.whole there c.index_mut.ensures.value in
    counts_more c.args.defs.now c.args.bound i c.loop-def.counts.items (c.index_mut.result.now + 1) c.loop-def-test.true there c.loop-def.invariant
    (omega (arith, was))

pub returns : goal.returns
returns c = rw (take_all c.loop-def.def-index c.args.defs.now c.loop-def-test.false) at c.loop-def.invariant
