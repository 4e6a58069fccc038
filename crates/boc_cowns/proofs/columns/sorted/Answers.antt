use Rattle.std.proofs.Common.{rules}
use Rattle.std.proofs.lemmas.List.Sorted.{answers_always}
use Rattle.boc_cowns.specs.declared.hot.HotCown.{HotCown}
use Rattle.boc_cowns.proofs.Sorting.{cowns_sorted, sorted_tell}
use Rattle.boc_cowns.proofs.columns.sorted.Goals as goal

pub returns-clause-sorted : goal.returns-clause-sorted
returns-clause-sorted c = cowns_sorted c.args.columns.now c.args.count c.in_ok-list.list.items c.sort_unstable_by_key.new.self.items c.in_ok-list.ensures
    c.sort_unstable_by_key.ensures.permutation
    (c.sort_unstable_by_key.ensures.sorted (λ (h : HotCown). (record { 0 = h.held }, h.cown)) (answers_always _ _ _ (λ f a r g h. search rules)))

pub returns-clause-tell : goal.returns-clause-tell
returns-clause-tell c = sorted_tell c.args.columns.now c.args.count c.in_ok-list.list.items c.sort_unstable_by_key.new.self.items c.in_ok-list.ensures
    c.sort_unstable_by_key.ensures.permutation
