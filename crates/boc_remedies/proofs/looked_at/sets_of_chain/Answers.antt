use Rattle.std.proofs.Common.{length, sym, ap, ◌∙◌}
use Rattle.std.proofs.lemmas.Result.{IfOk-weaker}
use Rattle.boc_runs.specs.declared.rows.Row.{Row}
use Rattle.boc_plans.proofs.Seeing.{length-seen}
use Rattle.boc_remedies.proofs.looked_at.sets_of_chain.Goals as goal

pub links_of-requires-clause-defs : goal.links_of-requires-clause-defs
links_of-requires-clause-defs c = c.requires.defs
    ∙ (sym (length-seen c.args.question.now.sharing c.args.rows.now) ∙ ap (length {A = Row}) (sym c.new-seen.ensures.same))

pub returns : goal.returns
returns c = IfOk-weaker c.link_sets.result _ _ (λ sets are. record {
  profile = c.in_ok-profile.profile;
  profile_is = c.in_ok-profile.ensures;
  links = c.in_ok-links.links.items;
  links_are = rw (c.deref.ensures.value, c.new-seen.ensures.same) at c.in_ok-links.ensures;
  shares = c.in_ok-by_set.by_set.items;
  shares_are = rw (c.deref-3.ensures.value, c.deref-4.ensures.value, c.in_ok-weights.ensures, c.deref-2.ensures.value) at c.in_ok-by_set.ensures;
  are = rw (c.deref-5.ensures.value, c.deref-6.ensures.value) at are;
}) c.link_sets.ensures
