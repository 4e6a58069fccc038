use Rattle.std.proofs.Common.{rules, subst}
use Rattle.std.proofs.lemmas.List.Sorted.{answers_always}
use Rattle.boc_outcomes.specs.declared.tally.Outcome.{Outcome}
use Rattle.boc_outcomes.specs.Tallies.{AreRows, AreSpans}
use Rattle.boc_outcomes.proofs.Sorting.{outcomes_sorted}
use Rattle.boc_outcomes.proofs.tally.Tally.in_order.Goals as goal

pub returns : goal.returns
returns c seed samples so =
    let list = outcomes_sorted seed samples c.args.self.all.items c.sort_unstable_by_key.new.self.items so.outcomes_are
    c.sort_unstable_by_key.ensures.permutation
    (c.sort_unstable_by_key.ensures.sorted (λ (o : Outcome). (record { 0 = o.runs }, o.first)) (answers_always _ _ _ (λ f a r g h. search rules))) in
    record {
      outcomes_are = list.0;
      in_order = list.1;
      rows = subst (AreRows samples) c.unwrap.ensures so.rows;
      spans = subst (AreSpans samples) c.unwrap-2.ensures so.spans;
    }
