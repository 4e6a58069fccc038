use Rattle.std.proofs.Common.{◌≡◌, length, arith}
use Rattle.std.specs.List.Sorted.{IsPermutation}
use Rattle.std.proofs.lemmas.Result.{IfOk-weaker}
use Rattle.boc_typical.specs.Taken.{taken}
use Rattle.boc_typical.proofs.SeenMedians.{counts_are, defs_below, many_taken, medians_typical}
use Rattle.boc_typical.proofs.medians.typical_ticks.Goals as goal

pub counts_of-requires-clause-few : goal.counts_of-requires-clause-few
counts_of-requires-clause-few c = omega (arith, c.requires.defs, c.as_slice.ensures.shape.not_many)

pub medians_of-requires-clause-rise : goal.medians_of-requires-clause-rise
medians_of-requires-clause-rise c = rw c.deref.ensures.value c.in_ok-all.ensures.rise

pub medians_of-requires-clause-below : goal.medians_of-requires-clause-below
medians_of-requires-clause-below c =
    let moved : IsPermutation (taken c.args.rows.now c.args.defs.now) c.in_ok-all.all.items = rw c.as_slice.ensures.same at c.in_ok-all.ensures.moved in
    rw (c.deref.ensures.value, c.deref-2.ensures.value) (defs_below c.args.rows.now c.args.defs.now c.args.bound c.requires.defs c.in_ok-all.all.items moved
    c.requires.below c.in_ok-counts.counts.items c.in_ok-counts.ensures.whole)

pub medians_of-requires-clause-counts : goal.medians_of-requires-clause-counts
medians_of-requires-clause-counts c =
    let moved : IsPermutation (taken c.args.rows.now c.args.defs.now) c.in_ok-all.all.items = rw c.as_slice.ensures.same at c.in_ok-all.ensures.moved in
    rw (c.deref.ensures.value, c.deref-2.ensures.value) (counts_are c.args.rows.now c.args.defs.now c.args.bound c.requires.defs c.in_ok-all.all.items moved
    c.in_ok-counts.counts.items c.in_ok-counts.ensures)

pub medians_of-requires-clause-few : goal.medians_of-requires-clause-few
medians_of-requires-clause-few c =
    let moved : IsPermutation (taken c.args.rows.now c.args.defs.now) c.in_ok-all.all.items = rw c.as_slice.ensures.same at c.in_ok-all.ensures.moved in
    let many : length c.in_ok-all.all.items ≡ length c.args.rows.now =
    many_taken c.args.rows.now c.args.defs.now c.args.bound c.requires.defs c.in_ok-all.all.items moved in
    rw c.deref.ensures.value (omega (arith, many, c.as_slice.ensures.shape.not_many))

pub returns : goal.returns
returns c =
    let moved : IsPermutation (taken c.args.rows.now c.args.defs.now) c.in_ok-all.all.items = rw c.as_slice.ensures.same at c.in_ok-all.ensures.moved in
    IfOk-weaker c.medians_of.result _ _ (λ medians h. medians_typical c.args.rows.now c.args.defs.now c.args.bound c.requires.defs c.in_ok-all.all.items moved
    c.in_ok-counts.counts.items medians.items c.in_ok-counts.ensures.whole (rw (c.deref.ensures.value, c.deref-2.ensures.value) at h)) c.medians_of.ensures
