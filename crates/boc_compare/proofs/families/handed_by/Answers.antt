use Rattle.std.proofs.Common.{◌≡◌, ℕ, ◌+◌, ◌^◌, ◌∙◌, Bool, ap, arith, cond, get_or}
use Rattle.boc_why.specs.declared.links.Link.{Link}
use Rattle.boc_compare.specs.Totalled.{hands_any}
use Rattle.boc_compare.proofs.FamilyTotals.{handed_all, handed_more, low_more}
use Rattle.boc_compare.proofs.families.handed_by.Goals as goal

pub add_if-ticks-requires : goal.add_if-ticks-requires
add_if-ticks-requires c = omega (
  arith,
  c.from-own.ensures,
  c.type_inv.weights c.loop-place.place,
  c.loop-place.invariant.low,
  c.loop-place-test.true,
  c.requires.whole,
  c.requires.few,
)

pub loop-place-preserved : goal.loop-place-preserved
loop-place-preserved c =
    let n : ℕ = c.loop-place.place in
    let x : Link = c.index-links-place.result in
    let w : ℕ = get_or c.args.weights.now n 0 in
    let now : c.add_if-ticks.result ≡ c.loop-place.ticks + cond (hands_any c.args.families.now c.args.family (get_or c.args.links.now n x)) w 0 =
    c.add_if-ticks.ensures ∙ ap (λ (b : Bool). c.loop-place.ticks + cond b c.from-own.result 0) c.hands_any.ensures
    ∙ ap (λ (l : Link). c.loop-place.ticks + cond (hands_any c.args.families.now c.args.family l) c.from-own.result 0) c.index-links-place.is
    ∙ ap (λ (k : ℕ). c.loop-place.ticks + cond (hands_any c.args.families.now c.args.family (get_or c.args.links.now n x)) k 0) c.from-own.ensures in
    record {
      left = handed_more c.args.families.now c.args.family c.args.links.now c.args.weights.now c.requires.whole n x c.loop-place-test.true c.loop-place.ticks
          c.add_if-ticks.result c.loop-place.invariant.left now;
      low = low_more (hands_any c.args.families.now c.args.family (get_or c.args.links.now n x)) c.loop-place.ticks w c.add_if-ticks.result n (2 ^ 32)
          c.loop-place.invariant.low (omega (arith, c.type_inv.weights n)) now;
    }

pub returns : goal.returns
returns c = handed_all c.args.families.now c.args.family c.args.links.now c.args.weights.now c.loop-place.place c.loop-place.ticks c.loop-place-test.false
    c.loop-place.invariant.left
