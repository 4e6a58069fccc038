use Rattle.std.proofs.Common.{ℕ, ◌+◌, ◌∙◌, ap, arith, cond, eqb, get_or, sym, take}
use Rattle.std.proofs.lemmas.List.{length-take}
use Rattle.std.proofs.lemmas.List.Sums.{count_by-le-length, sum_by_more}
use Rattle.boc_compare.proofs.families.members.Goals as goal

pub add_if-count-requires : goal.add_if-count-requires
add_if-count-requires c = omega (
  arith,
  c.loop-own.invariant,
  count_by-le-length (λ f. eqb f c.args.family) (take c.loop-own.own-index c.args.families.now),
  length-take c.loop-own.own-index c.args.families.now,
  c.loop-own-test.true,
  c.requires,
)

pub loop-own-preserved : goal.loop-own-preserved
loop-own-preserved c =
    let i : ℕ = c.loop-own.own-index in
    c.add_if-count.ensures ∙ ap (λ (n : ℕ). n + cond (eqb (get_or c.args.families.now i 0) c.args.family) 1 0) c.loop-own.invariant
    ∙ sym (sum_by_more (λ f. cond (eqb f c.args.family) 1 0) c.args.families.now i 0 c.loop-own-test.true)
