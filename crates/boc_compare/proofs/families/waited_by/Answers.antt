use Rattle.std.proofs.Common.{◌≡◌, ℕ, ◌+◌, ◌^◌, ◌∙◌, Bool, ap, arith, cond, get_or}
use Rattle.boc_cowns.specs.declared.hot.HotCown.{HotCown}
use Rattle.boc_compare.specs.Totalled.{is_of}
use Rattle.boc_compare.proofs.FamilyTotals.{low_more, no_cown, waited_all, waited_more}
use Rattle.boc_compare.proofs.families.waited_by.Goals as goal

pub add_if-waited-requires : goal.add_if-waited-requires
add_if-waited-requires c =
    omega (arith, c.requires.low c.loop-hot.hot-index no_cown c.loop-hot-test.true, c.loop-hot.invariant.low, c.loop-hot-test.true, c.requires.few)

pub loop-hot-preserved : goal.loop-hot-preserved
loop-hot-preserved c =
    let n : ℕ = c.loop-hot.hot-index in
    let x : HotCown = get_or c.args.cowns.now n no_cown in
    let now : c.add_if-waited.result ≡ c.loop-hot.waited + cond (is_of c.args.families.now c.args.family x.cown) x.waited 0 =
    c.add_if-waited.ensures ∙ ap (λ (b : Bool). c.loop-hot.waited + cond b x.waited 0) c.is_of.ensures in
    record {
      is = waited_more c.args.families.now c.args.family c.args.cowns.now n no_cown c.loop-hot-test.true c.loop-hot.waited c.add_if-waited.result
          c.loop-hot.invariant.is now;
      low = low_more (is_of c.args.families.now c.args.family x.cown) c.loop-hot.waited x.waited c.add_if-waited.result n (2 ^ 56)
          c.loop-hot.invariant.low (omega (arith, c.requires.low n no_cown c.loop-hot-test.true)) now;
    }

pub returns : goal.returns
returns c = waited_all c.args.families.now c.args.family c.args.cowns.now c.loop-hot.hot-index c.loop-hot.waited c.loop-hot-test.false c.loop-hot.invariant.is
