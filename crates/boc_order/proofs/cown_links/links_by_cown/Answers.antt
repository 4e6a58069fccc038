use Rattle.std.proofs.Common.{arith, subst, rules}
use Rattle.std.proofs.lemmas.List.Sorted.{answers_always}
use Rattle.boc_order.specs.declared.cown_links.CownLink.{CownLink}
use Rattle.boc_order.specs.CownLinks.{AreLinked}
use Rattle.boc_order.proofs.CownLinked.{linked_none, sorted_links}
use Rattle.boc_order.proofs.cown_links.links_by_cown.Goals as goal

pub loop-row-init : goal.loop-row-init
loop-row-init c = record {
  uses = c.in_ok-uses.ensures c.args.rows.now;
  linked = linked_none c.args.rows.now c.new-list.result.items c.new-list.ensures.items;
}

pub returns : goal.returns
returns c =
    sorted_links c.args.rows.now c.loop-row.list.items c.sort_unstable_by_key.new.self.items
    (subst (λ (n : _). AreLinked c.args.rows.now n c.loop-row.list.items)
    (omega (arith, c.loop-row-test.false, c.len-row-end.ensures.count, c.loop-row.auto.row-end)) c.loop-row.invariant.linked)
    c.sort_unstable_by_key.ensures.permutation
    (c.sort_unstable_by_key.ensures.sorted (λ (l : CownLink). l.before) (answers_always _ _ _ (λ f a r g h. search rules)))
