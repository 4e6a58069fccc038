use Rattle.std.proofs.Common.{rules}
use Rattle.std.proofs.lemmas.List.Sorted.{answers_always}
use Rattle.boc_greedy_chain.specs.declared.takes.Turn.{Turn}
use Rattle.boc_greedy_chain.proofs.ByStart.{turns_sorted}
use Rattle.boc_greedy_chain.proofs.takes.turns_by_start.Goals as goal

pub returns : goal.returns
returns c = turns_sorted _ _ c.in_ok-turns.turns.items c.sort_unstable_by_key.new.self.items c.in_ok-turns.ensures
    c.sort_unstable_by_key.ensures.permutation
    (c.sort_unstable_by_key.ensures.sorted (λ (t : Turn). (t.start, t.row)) (answers_always _ _ _ (λ f a r g h. search rules)))
