use Rattle.std.proofs.Common.{List, ℕ, refl, subst}
use Rattle.boc_runs.specs.declared.rows.Row.{Row}
use Rattle.boc_plans.specs.declared.chain.ChainStep.{ChainStep}
use Rattle.boc_order.specs.Profiles.{IsProfileOf}
use Rattle.boc_pictures.specs.Subjects.{AreShown}
use Rattle.boc_pictures.proofs.Showing.{one_start}
use Rattle.boc_pictures.proofs.subject.Subject.of.Goals as goal

pub returns : goal.returns
returns c =
    let starts = one_start c.new-seen.result c.new-seen.ensures.shape c.in_ok-plan.plan c.in_ok-plan.ensures.placed c.in_ok-profile.profile
    c.in_ok-profile.ensures in
    let of_steps = subst (λ (steps : List ChainStep). AreShown c.new-seen.result c.in_ok-plan.plan.starts.items steps c.in_ok-shown.shown.items)
    c.deref-2.ensures.value c.in_ok-shown.ensures in
    let shown = subst (λ (l : List ℕ). AreShown c.new-seen.result l c.in_ok-profile.profile.chain.steps.items c.in_ok-shown.shown.items) starts of_steps in
    record {
      rows_are = refl;
      names_are = refl;
      sharing_is = refl;
      profile = c.in_ok-profile.profile;
      is = subst (λ (rows : List Row). IsProfileOf rows c.in_ok-profile.profile) c.new-seen.ensures.same c.in_ok-profile.ensures;
      work = refl;
      span = refl;
      chain = refl;
      shown = subst (λ (rows : List Row). AreShown rows c.in_ok-profile.profile.starts.items c.in_ok-profile.profile.chain.steps.items
          c.in_ok-shown.shown.items) c.new-seen.ensures.same shown;
    }
