use Rattle.std.proofs.Common.{◌≡◌, inl, inr, ◌∙◌, ◌<◌, true, false, length, sym, arith}
use Rattle.boc_used_greedy.specs.Fronts.{Blocks}
use Rattle.boc_used_greedy.proofs.Leaving.{either}
use Rattle.boc_used_greedy.proofs.Passing.{told_blocked, telling_first, telling_more}
use Rattle.boc_used_greedy.proofs.Noting.{has_same, has_push, rows_push, lists_first, lists_more}
use Rattle.boc_used_greedy.proofs.fronts.tell.Goals as goal

pub returns-then-blocks-clause-told : goal.returns-then-blocks-clause-told
returns-then-blocks-clause-told c = told_blocked c.args.rows.now c.args.holds.now.all.items c.args.cown c.args.front.now.at c.after-next.result
    c.after-next.ensures (c.blocks-2.ensures.0 c.if-blocks.true)

pub returns-then-blocks-clause-notes : goal.returns-then-blocks-clause-notes
returns-then-blocks-clause-notes c = rw c.in_ok-push.ensures.items (λ b told ge lt own.
    lists_first c.args.rows.now c.args.cown c.args.front.now.at c.after-next.result c.args.list.now.items c.after-next.ensures b ge lt own)

pub returns-then-blocks-clause-rows : goal.returns-then-blocks-clause-rows
returns-then-blocks-clause-rows c = rw c.in_ok-push.ensures.items
    (rows_push c.args.rows.now c.args.list.now.items c.args.front.now.at (omega (arith, c.if-at-len.false, c.len.ensures.count)) c.requires.rows)

pub loop-next-init : goal.loop-next-init
loop-next-init c =
    let rows = c.args.rows.now in
    let at = c.args.front.now.at in
    let list = c.args.list.now.items in
    rw c.in_ok-push.ensures.items (record {
      telling = telling_first rows c.args.holds.now.all.items c.args.cown at c.after-next.result c.after-next.ensures
          (λ b. (let s : true ≡ false = sym (c.blocks-2.ensures.1 b) ∙ c.if-blocks.false in cc));
      lists = lists_first rows c.args.cown at c.after-next.result list c.after-next.ensures;
      has = has_push list list at (has_same list);
      are_rows = rows_push rows list at (omega (arith, c.if-at-len.false, c.len.ensures.count)) c.requires.rows;
    })

pub loop-next-preserved : goal.loop-next-preserved
loop-next-preserved c =
    let rows = c.args.rows.now in
    let at = c.args.front.now.at in
    let i = c.loop-next.invariant in
    let list = c.loop-next.list.items in
    let free : c.blocks-in-loop-next.result ≡ false = elim (either c.blocks-in-loop-next.result) [
      | inl t ↦ absurd (let s = rw t at c.if-not-blocks.true in cc)
      | inr f ↦ f
    ] in
    let there : c.loop-next.next < length rows = omega (arith, c.loop-next-test.true, c.len-in-loop-next.ensures.count) in
    rw c.in_ok-push-2.ensures.items (record {
      telling = telling_more rows c.args.holds.now.all.items c.args.cown at c.loop-next.next c.after-next-in-loop-next.result i.telling
          c.after-next-in-loop-next.ensures (λ b. (let s : true ≡ false = sym (c.blocks-in-loop-next.ensures.1 b) ∙ free in cc));
      lists = lists_more rows c.args.cown at c.loop-next.next c.after-next-in-loop-next.result list i.lists c.after-next-in-loop-next.ensures;
      has = has_push c.args.list.now.items list c.loop-next.next i.has;
      are_rows = rows_push rows list c.loop-next.next there i.are_rows;
    })
