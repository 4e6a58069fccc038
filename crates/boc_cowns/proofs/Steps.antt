-- The cowns that the steps of a chain hand on.
use Rattle.std.proofs.Common.{◌≡◌, ◌⊎◌, inl, inr, ℕ, suc, ◌+◌, ◌<◌, false, List, length, get_or, arith, refl, ◌∙◌}
use Rattle.std.specs.Prelude.{slice_get}
use Rattle.std.proofs.lemmas.Option.{slice_get-get_or}
use Rattle.boc_runs.specs.declared.rows.Row.{Row}
use Rattle.boc_plans.specs.declared.chain.ChainStep.{ChainStep}
use Rattle.boc_plans.specs.declared.chain.Via.TheVariants.{Spawn, Order, Last}
use Rattle.boc_plans.specs.Chains.{IsChain}
use Rattle.boc_cowns.specs.Hot.{hands_cown, link_hands, step_hands}

-- what an index reads where there is no step
abbrev pub no_step : ChainStep
no_step = record { row = 0; via = Spawn; weight = 0 }

module _ (rows : List Row) (steps : List ChainStep) where
  -- the row of a step is there
  pub step_there : IsChain rows steps → (k : ℕ) → k < length steps → (get_or steps k no_step).row < length rows
  step_there chain k h = (chain.holds k (get_or steps k no_step) (slice_get-get_or steps k no_step h)).1.0

  module _ (cown k : ℕ) (there : k < length steps) where
    step_is : step_hands rows steps cown k ≡ link_hands rows cown (get_or steps k no_step).row (get_or steps k no_step).via (slice_get steps (suc k))
    step_is = rw (slice_get-get_or steps k no_step there) refl

    -- a step that leads on by an order hands on what the two rows conflict on
    pub order_hands : (get_or steps k no_step).via ≡ Order → k + 1 < length steps
        → step_hands rows steps cown k ≡ hands_cown rows cown (get_or steps k no_step).row (get_or steps (k + 1) no_step).row
    order_hands is next =
        let e : suc k ≡ k + 1 = omega arith in
        step_is ∙ rw (is, e, slice_get-get_or steps (k + 1) no_step next) refl

    -- any other hands on nothing
    pub else_hands : ((get_or steps k no_step).via ≡ Spawn) ⊎ ((get_or steps k no_step).via ≡ Last) → step_hands rows steps cown k ≡ false
    else_hands (inl is) = step_is ∙ rw is refl
    else_hands (inr is) = step_is ∙ rw is refl
