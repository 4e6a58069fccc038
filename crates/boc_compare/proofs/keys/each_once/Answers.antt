use Rattle.std.proofs.Common.{◌≡◌, ◌<◌, ◌+◌, ◌∷◌, ◌++◌, [], ◌∙◌, ℕ, Bool, true, false, List, ap, arith, get_or, length, refl, set, subst, sym}
use Rattle.std.proofs.lemmas.List.{get_or_default}
use Rattle.boc_compare.proofs.EachOnce.{OnceSoFar, all_once, none_seen, once_new, once_old}
use Rattle.boc_compare.proofs.keys.each_once.Goals as goal
use Rattle.boc_compare.proofs.keys.each_once.Goals.{then-not-index+in_ok-push, else-not-index}

pub loop-number-init : goal.loop-number-init
loop-number-init c = none_seen c.args.numbers.now c.args.bound c.in_ok-seen.seen.items c.new-once.result.items
    (c.in_ok-seen.ensures.items_if_clones_equal (λ y e. e)) c.new-once.ensures.items

pub loop-number-preserved : goal.loop-number-preserved
loop-number-preserved c =
    let numbers : List ℕ = c.args.numbers.now in
    let bound : ℕ = c.args.bound in
    let n : ℕ = c.loop-number.number-index in
    let table : List Bool = c.loop-number.seen.items in
    let once : List ℕ = c.loop-number.once.items in
    let x : ℕ = get_or numbers n 0 in
    let below : x < bound = c.requires n 0 c.loop-number-test.true in
    let within : x < length table = omega (arith, below, c.loop-number.invariant.whole) in
    let was : c.index.result.now ≡ get_or table x false = c.index.ensures ∙ get_or_default table x c.index.result.now false within in
    elim c.if-not-index.branch [
      | then-not-index+in_ok-push w ↦
          let seen : c.if-not-index.seen.items ≡ set table x true = ap (λ v. v.items) w.seen-is in
          let more : c.if-not-index.once.items ≡ once ++ x ∷ [] = ap (λ v. v.items) w.once-is ∙ w.in_ok-push.ensures.items in
          subst (λ (l : List Bool). OnceSoFar numbers bound (n + 1) l c.if-not-index.once.items) (sym seen)
          (subst (OnceSoFar numbers bound (n + 1) (set table x true)) (sym more)
          (once_new numbers bound n table once x c.loop-number-test.true refl below c.loop-number.invariant (sym was ∙ w.if-not-index.true)))
      | else-not-index w ↦
          let seen : c.if-not-index.seen.items ≡ table = ap (λ v. v.items) w.seen-is in
          let same : c.if-not-index.once.items ≡ once = ap (λ v. v.items) w.once-is in
          subst (λ (l : List Bool). OnceSoFar numbers bound (n + 1) l c.if-not-index.once.items) (sym seen)
          (subst (OnceSoFar numbers bound (n + 1) table) (sym same)
          (once_old numbers bound n table once x c.loop-number-test.true refl below c.loop-number.invariant (sym was ∙ w.if-not-index.false)))
    ]

pub returns : goal.returns
returns c = all_once c.args.numbers.now c.args.bound c.loop-number.number-index c.loop-number.seen.items c.loop-number.once.items c.loop-number-test.false
    c.loop-number.invariant
