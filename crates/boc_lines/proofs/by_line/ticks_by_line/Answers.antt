use Rattle.std.proofs.Common.{◌≡◌, ◌∙◌, ap, length, rules, subst}
use Rattle.boc_lines.specs.Chained.{GoesThrough, through_from}
use Rattle.boc_lines.proofs.Chaining.{length_through}
use Rattle.boc_lines.proofs.Found.{told_by_line}
use Rattle.boc_lines.proofs.Replaying.{if_ok}
use Rattle.boc_lines.proofs.by_line.ticks_by_line.Goals as goal

pub ticks_through-requires : goal.ticks_through-requires
ticks_through-requires c =
    let rows = c.as_slice.result.now in
    let there : GoesThrough 0 rows c.args.chain.now × (c.in-Some.through.items ≡ through_from 0 rows c.args.chain.now) = search rules in
    ap length c.deref.ensures.value ∙ ap length there.1 ∙ length_through 0 rows c.args.chain.now ∙ ap length c.as_slice.ensures.same

pub returns-in-Some : goal.returns-in-Some
returns-in-Some c =
    let p = c.args.program.now in
    let chain = c.args.chain.now in
    let rows = c.as_slice.result.now in
    let there : GoesThrough 0 rows chain × (c.in-Some.through.items ≡ through_from 0 rows chain) = search rules in
    let goes = subst (λ rs. GoesThrough 0 rs chain) c.as_slice.ensures.same there.0 in
    let is : c.deref.result.now ≡ through_from 0 c.args.rows.now chain =
    c.deref.ensures.value ∙ there.1 ∙ ap (λ rs. through_from 0 rs chain) c.as_slice.ensures.same in
    if_ok c.ticks_through.result _ _ (λ found. told_by_line p c.args.rows.now chain c.deref.result.now found goes is) c.ticks_through.ensures
