-- Whether two chains are the same is decided.
use Rattle.std.proofs.Common.{◌≡◌, ◌⊎◌, List, [], ◌∷◌, inl, inr}
use Rattle.std.proofs.lemmas.Bool.{cases_eq}
use Rattle.boc_plans.specs.declared.chain.ChainStep.{ChainStep}
use Rattle.boc_plans.specs.declared.chain.Via.{Via}
use Rattle.boc_plans.specs.declared.chain.Via.TheVariants as vias
use Rattle.boc_greedy_chain.specs.declared.chain.GreedyStep.{GreedyStep}
use Rattle.boc_greedy_chain.specs.declared.chain.Tie.{Tie}
use Rattle.boc_greedy_chain.specs.declared.chain.Tie.TheVariants as ties
use Rattle.boc_remedies.specs.GreedyWhys.{IsSameChain, IsSameStep, IsSameTie}

tie_decided : (via : Via) (tie : Tie) → IsSameTie via tie ⊎ (IsSameTie via tie → ⊥)
tie_decided vias.Spawn ties.Spawn = inl tt
tie_decided vias.Spawn ties.Order = inr (λ h. h)
tie_decided vias.Spawn ties.Worker = inr (λ h. h)
tie_decided vias.Spawn ties.Last = inr (λ h. h)
tie_decided vias.Order ties.Spawn = inr (λ h. h)
tie_decided vias.Order ties.Order = inl tt
tie_decided vias.Order ties.Worker = inr (λ h. h)
tie_decided vias.Order ties.Last = inr (λ h. h)
tie_decided vias.Last ties.Spawn = inr (λ h. h)
tie_decided vias.Last ties.Order = inr (λ h. h)
tie_decided vias.Last ties.Worker = inr (λ h. h)
tie_decided vias.Last ties.Last = inl tt

step_decided : (step : ChainStep) (other : GreedyStep) → IsSameStep step other ⊎ (IsSameStep step other → ⊥)
step_decided step other = elim (tie_decided step.via other.tie) [
  | inl tie ↦ elim (cases_eq step.row other.row) [
    | inl row ↦ elim (cases_eq step.weight other.weight) [
      | inl weight ↦ inl (tie, row, weight)
      | inr apart ↦ inr (λ h. apart h.2)
    ]
    | inr apart ↦ inr (λ h. apart h.1)
  ]
  | inr apart ↦ inr (λ h. apart h.0)
]

-- two chains are the same or not
pub chain_decided : (steps : List ChainStep) (others : List GreedyStep) → IsSameChain steps others ⊎ (IsSameChain steps others → ⊥)
chain_decided [] [] = inl tt
chain_decided [] (other ∷ others) = inr (λ h. h)
chain_decided (step ∷ steps) [] = inr (λ h. h)
chain_decided (step ∷ steps) (other ∷ others) = elim (step_decided step other) [
  | inl same ↦ elim (chain_decided steps others) [
    | inl rest ↦ inl (same, rest)
    | inr apart ↦ inr (λ h. apart h.1)
  ]
  | inr apart ↦ inr (λ h. apart h.0)
]
