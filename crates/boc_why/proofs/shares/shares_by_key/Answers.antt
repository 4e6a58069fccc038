use Rattle.std.proofs.Common.{◌≡◌, ℕ, ◌+◌, ◌<◌, List, arith, sym, ap, subst, ◌∙◌, refl}
use Rattle.std.proofs.lemmas.List.{get_or_default}
use Rattle.std.proofs.lemmas.List.Elements.{All-contains}
use Rattle.boc_why.specs.declared.shares.Share.{Share}
use Rattle.boc_why.specs.Shares.{steps_at}
use Rattle.boc_why.proofs.ShareKeys.{counted_stands, stands_counted, count_read, ticks_read}
use Rattle.boc_why.proofs.ShareListing.{SharesBelow, below_more, below_same, below_all}
use Rattle.boc_why.proofs.shares.shares_by_key.Goals as goal
use Rattle.boc_why.proofs.shares.shares_by_key.Goals.{then-count-gt0+in_ok-push, else-count-gt0}

pub overflow_cast-key : goal.overflow_cast-key
overflow_cast-key c =
    let key : ℕ = c.loop-key.key in
    let count : c.index-count.result.now ≡ steps_at key c.args.keys.now =
    count_read c.in_ok-totals.ensures key c.index-count.result.now c.loop-key-test.true c.index-count.ensures in
    let stands = counted_stands key c.args.keys.now (omega (arith, count, c.if-count-gt0.true)) in
    omega (arith, c.type_inv.keys stands.0, stands.2, get_or_default c.args.keys.now stands.0 key 0 stands.1)

pub loop-key-preserved : goal.loop-key-preserved
loop-key-preserved c =
    let key : ℕ = c.loop-key.key in
    let count : c.index-count.result.now ≡ steps_at key c.args.keys.now =
    count_read c.in_ok-totals.ensures key c.index-count.result.now c.loop-key-test.true c.index-count.ensures in
    elim c.if-count-gt0.branch [
      | then-count-gt0+in_ok-push w ↦ subst (λ (shares : List Share). SharesBelow c.args.keys.now c.args.weights.now (key + 1) shares)
          (sym (ap (λ v. v.items) w.shares-is ∙ w.in_ok-push.ensures.items))
          (below_more c.args.keys.now c.args.weights.now key c.loop-key.shares.items
          (record { key = key; ticks = w.index.result.now; steps = c.index-count.result.now })
          c.loop-key.invariant (record {
            there = counted_stands key c.args.keys.now (omega (arith, count, w.if-count-gt0.true));
            ticks = ticks_read c.in_ok-totals.ensures key w.index.result.now c.loop-key-test.true w.index.ensures;
            steps = count;
          }) refl)
      | else-count-gt0 w ↦ subst (λ (shares : List Share). SharesBelow c.args.keys.now c.args.weights.now (key + 1) shares)
          (sym (ap (λ v. v.items) w.shares-is)) (below_same c.args.keys.now c.args.weights.now key c.loop-key.shares.items c.loop-key.invariant
          (λ stands. absurd (omega (arith, count, w.if-count-gt0.false, stands_counted key c.args.keys.now stands))))
    ]

pub returns : goal.returns
returns c = below_all c.args.keys.now c.args.weights.now c.loop-key.key c.loop-key.shares.items
    (λ key stands. let h : key < c.args.bound = All-contains (λ k. k < c.args.bound) c.args.keys.now key c.requires.below stands in omega arith)
    c.loop-key.invariant
