use Rattle.std.proofs.Common.{◌≡◌, ◌∙◌, ℕ, length, ap, arith, sym}
use Rattle.std.proofs.lemmas.List.{length-map}
use Rattle.std.proofs.lemmas.Result.{IfOk-weaker}
use Rattle.boc_plans.specs.declared.chain.ChainStep.{ChainStep}
use Rattle.boc_why.specs.Shares.{weights_of}
use Rattle.boc_compare.proofs.Waiting.{waited_low}
use Rattle.boc_compare.proofs.side.families_of.Goals as goal

pub family_totals-requires-clause-few_cowns : goal.family_totals-requires-clause-few_cowns
family_totals-requires-clause-few_cowns g c = rw c.deref-2.ensures.value
    (omega (arith, c.in_ok-hot.ensures.hot.sorted.whole, c.requires.few_cowns))

pub family_totals-requires-clause-low : goal.family_totals-requires-clause-low
family_totals-requires-clause-low g c = rw c.deref-2.ensures.value
    (waited_low c.args.question.now.rows.now c.args.question.now.sharing (length c.args.question.now.families.now) c.in_ok-hot.hot
    c.requires.shape c.in_ok-hot.ensures.hot)

pub family_totals-requires-clause-whole : goal.family_totals-requires-clause-whole
family_totals-requires-clause-whole g c =
    let weights : length c.in_ok-weights.weights.items ≡ length c.args.why.now.profile.chain.steps.items =
    ap (length {A = ℕ}) c.in_ok-weights.ensures ∙ length-map c.deref.result.now (λ (s : ChainStep). s.weight)
    ∙ ap (length {A = ChainStep}) c.deref.ensures.value in
    rw (c.deref-3.ensures.value, c.deref-4.ensures.value) (c.requires.whole ∙ sym weights)

pub family_totals-requires-clause-few_steps : goal.family_totals-requires-clause-few_steps
family_totals-requires-clause-few_steps g c =
    let weights : length c.in_ok-weights.weights.items ≡ length c.args.why.now.profile.chain.steps.items =
    ap (length {A = ℕ}) c.in_ok-weights.ensures ∙ length-map c.deref.result.now (λ (s : ChainStep). s.weight)
    ∙ ap (length {A = ChainStep}) c.deref.ensures.value in
    rw c.deref-4.ensures.value (omega (arith, weights, c.requires.few_steps))

pub returns : goal.returns
returns g c =
    let weights : c.in_ok-weights.weights.items ≡ weights_of c.args.why.now.profile.chain.steps.items =
    c.in_ok-weights.ensures ∙ ap weights_of c.deref.ensures.value in
    IfOk-weaker c.family_totals.result _ _ (λ list h. record {
      hot = c.in_ok-hot.hot;
      hot_is = c.in_ok-hot.ensures.hot;
      are = rw (c.deref-2.ensures.value, c.deref-3.ensures.value, c.deref-4.ensures.value, weights) at h;
    }) c.family_totals.ensures
