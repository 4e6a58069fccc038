use Rattle.std.proofs.Common.{rules, List, subst}
use Rattle.std.specs.List.Sorted.{IsPermutation}
use Rattle.std.proofs.lemmas.List.Sorted.{IsNonDecreasingBy-from_sort_by_key}
use Rattle.boc_typical.specs.declared.medians.DefTicks.{DefTicks}
use Rattle.boc_typical.proofs.medians.in_order.Goals as goal

pub returns-clause-moved : goal.returns-clause-moved
returns-clause-moved c = subst (λ (xs : List DefTicks). IsPermutation xs c.sort_unstable_by_key.new.self.items) c.in_ok-all.ensures
    c.sort_unstable_by_key.ensures.permutation

pub returns-clause-rise : goal.returns-clause-rise
returns-clause-rise c = IsNonDecreasingBy-from_sort_by_key (λ (t : DefTicks). t.ticks) _ c.sort_unstable_by_key.ensures.sorted (λ a r q k. search rules)
