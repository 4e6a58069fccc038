use Rattle.std.proofs.Common.{rules}
use Rattle.std.proofs.lemmas.List.Sorted.{answers_always}
use Rattle.boc_busy.specs.declared.stints.Stint.{Stint}
use Rattle.boc_busy.proofs.InLine.{stints_sorted}
use Rattle.boc_busy.proofs.stints.in_line.Goals as goal

pub returns : goal.returns
returns c = stints_sorted _ _ _ c.in_ok-stints.stints.items c.sort_unstable_by_key.new.self.items c.in_ok-stints.ensures
    c.sort_unstable_by_key.ensures.permutation
    (c.sort_unstable_by_key.ensures.sorted (λ (s : Stint). (s.worker, s.start)) (answers_always _ _ _ (λ f a r g h. search rules)))
