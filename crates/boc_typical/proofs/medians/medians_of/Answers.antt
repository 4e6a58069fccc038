use Rattle.std.proofs.Common.{◌≡◌, ◌<◌, ◌-◌, ◌/◌, ℕ, length, get_or, ap, arith}
use Rattle.std.specs.Prelude.{slice_index}
use Rattle.boc_typical.specs.declared.medians.DefTicks.{DefTicks}
use Rattle.boc_typical.proofs.SeenMedians.{all_seen, read_at, see_keeps, see_takes, seen_low}
use Rattle.boc_typical.proofs.medians.medians_of.Goals.{then-before-middle, else-before-middle}
use Rattle.boc_typical.proofs.medians.medians_of.Goals as goal

-- what an index reads where there is nothing
abbrev nothing : DefTicks
nothing = record { def = 0; ticks = 0 }

pub index-before-requires : goal.index-before-requires
index-before-requires c = omega (
  arith,
  c.requires.below c.loop-own.own-index nothing c.loop-own-test.true,
  c.loop-own.invariant.seen_whole,
  c.loop-own.seen.ok.0,
)

pub index_mut-requires : goal.index_mut-requires
index_mut-requires c = omega (
  arith,
  c.requires.below c.loop-own.own-index nothing c.loop-own-test.true,
  c.loop-own.invariant.whole,
  c.loop-own.medians.ok.0,
)

pub overflow_add-before : goal.overflow_add-before
overflow_add-before c =
    let x : DefTicks = get_or c.args.all.now c.loop-own.own-index nothing in
    let inside : x.def < length c.args.counts.now = c.requires.below c.loop-own.own-index nothing c.loop-own-test.true in
    omega (
      arith,
      read_at c.loop-own.seen.items (length c.args.counts.now) x.def c.index-before.result.now c.loop-own.invariant.seen_whole inside c.index-before.ensures,
      seen_low c.args.all.now c.args.counts.now c.loop-own.own-index c.loop-own.seen.items c.loop-own.medians.items x.def c.loop-own.invariant inside,
      c.requires.few,
      c.loop-own-test.true,
    )

pub loop-own-preserved : goal.loop-own-preserved
loop-own-preserved c =
    let all = c.args.all.now in
    let n : ℕ = c.loop-own.own-index in
    let x : DefTicks = get_or all n nothing in
    let there : n < length all = c.loop-own-test.true in
    let inside : x.def < length c.args.counts.now = c.requires.below n nothing there in
    let was : c.index-before.result.now ≡ slice_index c.loop-own.seen.items x.def =
    read_at c.loop-own.seen.items (length c.args.counts.now) x.def c.index-before.result.now c.loop-own.invariant.seen_whole inside c.index-before.ensures in
    let middle : ℕ = c.saturating_sub-middle.result / 2 in
    let mid : middle ≡ (slice_index c.args.counts.now x.def - 1) / 2 = ap (λ (k : ℕ). k / 2) c.saturating_sub-middle.ensures in
    elim c.if-before-middle.branch [
      | then-before-middle w ↦ rw w.medians-is (see_takes all c.requires.rise n nothing there c.args.counts.now c.requires.counts inside
          c.loop-own.seen.items c.loop-own.medians.items c.loop-own.invariant c.index-before.result.now middle was mid w.if-before-middle.true)
      | else-before-middle w ↦ rw w.medians-is (see_keeps all c.requires.rise n nothing there c.args.counts.now c.requires.counts inside
          c.loop-own.seen.items c.loop-own.medians.items c.loop-own.invariant c.index-before.result.now middle was mid w.if-before-middle.false)
    ]

pub returns : goal.returns
returns c = all_seen c.args.all.now c.args.counts.now c.loop-own.own-index c.loop-own.seen.items c.loop-own.medians.items c.loop-own-test.false
    c.loop-own.invariant
