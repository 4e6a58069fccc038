use Rattle.std.proofs.Common.{ℕ, ℤ, ◌∙◌, List, sym, subst}
use Rattle.std.specs.Prelude.{MatchOption, Option}
use Rattle.boc_outcomes.specs.declared.tally.Outcome.{Outcome}
use Rattle.boc_outcomes.specs.Tallies.{NoneHas, StandsAt}
use Rattle.boc_outcomes.proofs.tally.Tally.place_of.Goals as goal

pub returns : goal.returns
returns c =
    let all : List Outcome = c.args.self.now.all.items in
    let values : List ℤ = c.args.sampled.now.values.items in
    subst (λ (o : Option ℕ). MatchOption o (NoneHas all values) (StandsAt all values)) (sym (c.copied.ensures ∙ c.get.ensures.value))
    (c.requires c.args.sampled.now.values)
