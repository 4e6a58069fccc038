use Rattle.std.proofs.Common.{rules, length, refl}
use Rattle.std.proofs.lemmas.List.Sorted.{answers_always}
use Rattle.boc_why.specs.declared.ranking.Placed.{Placed}
use Rattle.boc_why.proofs.SpanRanking.{places_below, spans_sorted}
use Rattle.boc_why.proofs.ranking.ranked.Goals as goal

pub returns-clause-ranked : goal.returns-clause-ranked
returns-clause-ranked c = spans_sorted c.args.spans.now c.in_ok-placed.placed.items c.sort_unstable_by_key.new.self.items c.in_ok-placed.ensures
    c.sort_unstable_by_key.ensures.permutation
    (c.sort_unstable_by_key.ensures.sorted (λ (p : Placed). (p.span, p.place)) (answers_always _ _ _ (λ f a r g h. search rules)))

pub returns-clause-below : goal.returns-clause-below
returns-clause-below c = places_below c.args.spans.now c.sort_unstable_by_key.new.self.items (length c.args.spans.now) (returns-clause-ranked c) refl
