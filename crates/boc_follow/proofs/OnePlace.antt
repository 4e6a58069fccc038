-- The events that are refused are refused at one place.
use Rattle.std.proofs.Common.{◌≡◌, ℕ, zero, suc, ◌<◌, inl, inr, arith, List, [], ◌∷◌, take, subst}
use Rattle.std.specs.Prelude.{slice_get, Some, None}
use Rattle.std.proofs.lemmas.Bool.{cases_lt}
use Rattle.boc_runs.specs.declared.event.Event.{Event}
use Rattle.boc_program.specs.declared.program.Program.{Program}
use Rattle.boc_runs.specs.Run.{Config, config_after, config_after_all, opening, MayHappen, IsRunFrom}
use Rattle.boc_follow.specs.Strays.{IsRefusedAt}

-- what stands before a place in a run may happen there
happened_before : (p : Program) (c : Config) (log : List Event) (place n : ℕ) (event : Event) → place < n → IsRunFrom p c (take n log)
    → slice_get log place ≡ Some event → MayHappen p (config_after_all p c (take place log)) event
happened_before p c log place zero event lt run is = absurd (omega (arith, lt))
happened_before p c [] place (suc n) event lt run is = absurd (let e : None ≡ Some event = is in cc)
happened_before p c (d ∷ log) zero (suc n) event lt run is =
    (let e : Some d ≡ Some event = is in let same : d ≡ event = cc in subst (MayHappen p c) same run.0)
happened_before p c (d ∷ log) (suc place) (suc n) event lt run is =
    happened_before p (config_after p c d) log place n event (omega (arith, lt)) run.1 is

not_before : (p : Program) (events : List Event) (place other : ℕ) → place < other → IsRefusedAt p events place → IsRefusedAt p events other → ⊥
not_before p events place other lt first second =
    first.refused (happened_before p (opening p) events place other first.event lt second.before first.is)

pub one_place : (p : Program) (events : List Event) (place other : ℕ) → IsRefusedAt p events place → IsRefusedAt p events other → place ≡ other
one_place p events place other first second = elim (cases_lt place other) [
  | inl lt ↦ absurd (not_before p events place other lt first second)
  | inr ge ↦ elim (cases_lt other place) [
    | inl gt ↦ absurd (not_before p events other place gt second first)
    | inr le ↦ omega (arith, ge, le)
  ]
]
