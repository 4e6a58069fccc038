use Rattle.std.proofs.Common.{ℕ, List, ◌+◌, ◌<◌, length, get_or, arith}
use Rattle.std.specs.Prelude.{All}
use Rattle.std.proofs.lemmas.List.Elements.{All-get_or}
use Rattle.boc_why.proofs.ShareKeys.{read_at, totals_more}
use Rattle.boc_why.proofs.shares.totals_of.Goals as goal

-- a key is below the bound
below : (keys : List ℕ) (bound place : ℕ) → All (λ k. k < bound) keys → place < length keys → get_or keys place 0 < bound
below keys bound place small there = All-get_or (λ k. k < bound) keys place 0 there small

pub overflow_add-index_mut : goal.overflow_add-index_mut
overflow_add-index_mut c =
    let key : ℕ = get_or c.args.keys.now c.loop-place.place 0 in
    let so = c.loop-place.invariant in
    let h : key < c.args.bound = below c.args.keys.now c.args.bound c.loop-place.place c.requires.below (omega arith) in
    let ticks = read_at c.loop-place.ticks.items c.args.bound key c.index_mut.result.now so.totals.many_ticks h c.index_mut.ensures.value in
    omega (arith, ticks, so.low_ticks key h, c.requires.few)

pub overflow_add-index_mut-in-loop-place : goal.overflow_add-index_mut-in-loop-place
overflow_add-index_mut-in-loop-place c =
    let key : ℕ = get_or c.args.keys.now c.loop-place.place 0 in
    let so = c.loop-place.invariant in
    let now : ℕ = c.index_mut-in-loop-place.result.now in
    let h : key < c.args.bound = below c.args.keys.now c.args.bound c.loop-place.place c.requires.below (omega arith) in
    let counts = read_at c.loop-place.counts.items c.args.bound key now so.totals.many_counts h c.index_mut-in-loop-place.ensures.value in
    omega (arith, counts, so.low_counts key h, c.requires.few)

pub loop-place-preserved : goal.loop-place-preserved
loop-place-preserved c =
    let key : ℕ = get_or c.args.keys.now c.loop-place.place 0 in
    let so = c.loop-place.invariant in
    let now : ℕ = c.index_mut-in-loop-place.result.now in
    let h : key < c.args.bound = below c.args.keys.now c.args.bound c.loop-place.place c.requires.below (omega arith) in
    let ticks = read_at c.loop-place.ticks.items c.args.bound key c.index_mut.result.now so.totals.many_ticks h c.index_mut.ensures.value in
    let counts = read_at c.loop-place.counts.items c.args.bound key now so.totals.many_counts h c.index_mut-in-loop-place.ensures.value in
    totals_more c.args.keys.now c.args.weights.now c.args.bound c.loop-place.place c.loop-place.ticks.items c.loop-place.counts.items
    (c.index_mut.result.now + c.from.result) (now + 1) c.requires.whole c.loop-place-test.true h (omega (arith, c.type_inv.weights c.loop-place.place)) so
    (omega (arith, ticks, c.from.ensures)) (omega (arith, counts))
