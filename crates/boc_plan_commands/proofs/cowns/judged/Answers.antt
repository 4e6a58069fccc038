use Rattle.std.proofs.Common.{◌≡◌, ◌∙◌, ◌<◌, ◌^◌, ℕ, List, length, slice_index_or, ap, subst, sym}
use Rattle.std.specs.Prelude.{All}
use Rattle.std.proofs.lemmas.Option.{slice_get-get_or}
use Rattle.boc_cowns.specs.declared.hot.HotCown.{HotCown}
use Rattle.boc_plan_commands.proofs.cowns.judged.Goals as goal

pub judged_cowns-requires : goal.judged_cowns-requires
judged_cowns-requires g c =
    let whole : length c.deref-2.result.now ≡ length c.args.question.now.families.now = ap length c.deref-2.ensures.value ∙ c.in_ok-ends.ensures.sweep.whole in
    let below : All (λ own. own.cown < length c.args.question.now.families.now) c.args.hot.now.cowns.items =
    λ k d h. c.requires.hot.sorted.below k (slice_index_or c.args.hot.now.cowns.items k d) (slice_get-get_or c.args.hot.now.cowns.items k d h) in
    record {
      there = subst (λ (n : ℕ). All (λ own. own.cown < n) c.deref.result.now) (sym whole)
          (subst (λ (cowns : List HotCown). All (λ own. own.cown < length c.args.question.now.families.now) cowns) (sym c.deref.ensures.value) below);
    }

pub returns-clause-low : goal.returns-clause-low
returns-clause-low g c =
    c.in_ok-cowns.ensures.low (2 ^ 56)
    (subst (λ (cowns : List HotCown). All (λ own. own.held < 2 ^ 56) cowns) (sym c.deref.ensures.value) c.requires.low)
