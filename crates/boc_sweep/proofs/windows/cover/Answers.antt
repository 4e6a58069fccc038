use Rattle.std.proofs.Common.{◌≡◌, ℕ, max, length, get_or, refl, sym, ◌∙◌, arith}
use Rattle.std.specs.Prelude.{slice_index}
use Rattle.std.specs.List.{Contains}
use Rattle.std.proofs.lemmas.List.{length-set, get_or_default}
use Rattle.boc_sweep.specs.declared.windows.Stretch.{Stretch}
use Rattle.boc_sweep.proofs.Topping.{raised_none, raised_next}
use Rattle.boc_sweep.proofs.windows.cover.Goals as goal

abbrev none : Stretch
none = record { low = 0; high = 0; value = 0 }

pub loop-stretch-init : goal.loop-stretch-init
loop-stretch-init c = record { len = refl; raised = raised_none c.args.stretches.now c.args.size c.args.values.now }

pub raise-requires : goal.raise-requires
raise-requires c =
    let k : ℕ = c.loop-stretch.stretch-index in
    let x : Stretch = get_or c.args.stretches.now k none in
    let is : x ≡ get_or c.args.stretches.now k x = get_or_default c.args.stretches.now k none x c.loop-stretch-test.true in
    let has : Contains c.args.stretches.now x = (k, c.loop-stretch-test.true, sym is) in
    omega (arith, c.requires.inside x has, c.requires.long x has, c.requires.some, c.loop-stretch.invariant.len)

pub overflow_sub-stretch : goal.overflow_sub-stretch
overflow_sub-stretch c =
    let k : ℕ = c.loop-stretch.stretch-index in
    let x : Stretch = get_or c.args.stretches.now k none in
    let is : x ≡ get_or c.args.stretches.now k x = get_or_default c.args.stretches.now k none x c.loop-stretch-test.true in
    omega (arith, c.requires.long x (k, c.loop-stretch-test.true, sym is))

pub raise-requires-in-loop-stretch : goal.raise-requires-in-loop-stretch
raise-requires-in-loop-stretch c =
    let k : ℕ = c.loop-stretch.stretch-index in
    let x : Stretch = get_or c.args.stretches.now k none in
    let is : x ≡ get_or c.args.stretches.now k x = get_or_default c.args.stretches.now k none x c.loop-stretch-test.true in
    let has : Contains c.args.stretches.now x = (k, c.loop-stretch-test.true, sym is) in
    rw c.raise.ensures (omega (
      arith,
      c.requires.inside x has,
      c.requires.long x has,
      c.requires.some,
      c.loop-stretch.invariant.len,
      length-set c.loop-stretch.values x.low (max x.value (slice_index c.loop-stretch.values x.low)),
    ))

pub loop-stretch-preserved : goal.loop-stretch-preserved
loop-stretch-preserved c =
    let k : ℕ = c.loop-stretch.stretch-index in
    let x : Stretch = get_or c.args.stretches.now k none in
    let is : x ≡ get_or c.args.stretches.now k x = get_or_default c.args.stretches.now k none x c.loop-stretch-test.true in
    let has : Contains c.args.stretches.now x = (k, c.loop-stretch-test.true, sym is) in
    rw (c.raise-in-loop-stretch.ensures, c.raise.ensures) (record {
      len = length-set _ _ _ ∙ length-set _ _ _ ∙ c.loop-stretch.invariant.len;
      raised = raised_next c.args.stretches.now c.args.size c.args.values.now c.loop-stretch.values k x c.loop-stretch-test.true is c.requires.some
          (c.requires.inside x has) (c.requires.long x has) (c.requires.short x has) c.loop-stretch.invariant.len c.loop-stretch.invariant.raised _ _ refl refl;
    })

pub returns-clause-raised : goal.returns-clause-raised
returns-clause-raised c =
    let all : c.loop-stretch.stretch-index ≡ length c.args.stretches.now = omega (arith, c.loop-stretch-test.false, c.loop-stretch.auto.stretch-index-end) in
    rw all at c.loop-stretch.invariant.raised
