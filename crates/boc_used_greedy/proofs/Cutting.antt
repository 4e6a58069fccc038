-- The starts by a tick.
use Rattle.std.proofs.Common.{◌≡◌, ◌⊎◌, inl, inr, ℕ, ◌+◌, ◌<◌, ◌≤◌, Bool, true, false, cond, List, length, refl, ap, ◌∙◌, arith}
use Rattle.std.specs.Prelude.{nat_lt}
use Rattle.std.proofs.lemmas.Bool.{cases_lt}
use Rattle.std.proofs.lemmas.Bool.Decides.{nat_tests}
use Rattle.std.proofs.lemmas.List.{get_or-map}
use Rattle.boc_plans.specs.Plans.{start_of}
use Rattle.boc_greedy.specs.Simulating.{later}
use Rattle.boc_used_greedy.specs.Ready.{so_far}

module _ (t : ℕ) (plan : List ℕ) (r : ℕ) (there : r < length plan) where
  cut_is : start_of (so_far t plan) r ≡ cond (nat_lt t (start_of plan r)) later (start_of plan r)
  cut_is = get_or-map (λ (s : ℕ). cond (nat_lt t s) later s) plan r 0 0 there

  pub cut_early : start_of plan r ≤ t → start_of (so_far t plan) r ≡ start_of plan r
  cut_early h = (let e : nat_lt t (start_of plan r) ≡ false = grind (arith, nat_tests) in
      cut_is ∙ ap (λ (b : Bool). cond b later (start_of plan r)) e)

  pub cut_late : t < start_of plan r → start_of (so_far t plan) r ≡ later
  cut_late h = (let e : nat_lt t (start_of plan r) ≡ true = grind (arith, nat_tests) in
      cut_is ∙ ap (λ (b : Bool). cond b later (start_of plan r)) e)

  -- what is seen to start before the later tick does so
  pub cut_seen : start_of (so_far t plan) r < later → (start_of plan r ≤ t) × (start_of (so_far t plan) r ≡ start_of plan r)
  cut_seen h = elim (cases_lt t (start_of plan r)) [
    | inl l ↦ absurd (omega (arith, h, cut_late l))
    | inr le ↦ (le, cut_early le)
  ]

  pub cut_no_sooner : start_of plan r ≤ later → start_of plan r ≤ start_of (so_far t plan) r
  cut_no_sooner h = elim (cases_lt t (start_of plan r)) [ inl l ↦ omega (arith, h, cut_late l) | inr le ↦ omega (arith, cut_early le) ]

-- by a later tick a row is not seen to start later
pub cut_falls : (t u : ℕ) (plan : List ℕ) (r : ℕ) → r < length plan → t ≤ u → start_of plan r ≤ later
    → start_of (so_far u plan) r ≤ start_of (so_far t plan) r
cut_falls t u plan r there le h = elim (cases_lt t (start_of plan r)) [
  | inl l ↦ elim (cases_lt u (start_of plan r)) [
    | inl m ↦ omega (arith, cut_late t plan r there l, cut_late u plan r there m)
    | inr m ↦ omega (arith, cut_late t plan r there l, cut_early u plan r there m, h)
  ]
  | inr e ↦ omega (arith, cut_early t plan r there e, cut_early u plan r there (omega (arith, e, le)))
]
