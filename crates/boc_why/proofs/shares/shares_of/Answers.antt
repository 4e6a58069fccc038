use Rattle.std.proofs.Common.{rules}
use Rattle.std.proofs.lemmas.List.Sorted.{answers_always}
use Rattle.boc_why.specs.declared.shares.Share.{Share}
use Rattle.boc_why.proofs.ShareSorting.{shares_sorted}
use Rattle.boc_why.proofs.shares.shares_of.Goals as goal

pub returns : goal.returns
returns c = shares_sorted c.args.keys.now c.args.weights.now c.in_ok-shares.shares.items c.sort_unstable_by_key.new.self.items c.in_ok-shares.ensures
    c.sort_unstable_by_key.ensures.permutation
    (c.sort_unstable_by_key.ensures.sorted (λ (s : Share). (record { 0 = s.ticks }, s.key)) (answers_always _ _ _ (λ f a r g h. search rules)))
