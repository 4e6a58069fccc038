-- The fronts of cowns before any row has started.
use Rattle.std.proofs.Common.{◌≡◌, inl, inr, ℕ, zero, suc, ◌+◌, ◌<◌, List, [], ◌∷◌, ◌++◌, length, Option, Some, None, refl, subst, sym, ◌∙◌, arith}
use Rattle.std.specs.Prelude.{slice_get}
use Rattle.std.specs.List.{Contains}
use Rattle.std.proofs.lemmas.Bool.{cases_eq}
use Rattle.boc_runs.specs.declared.rows.Row.{Row}
use Rattle.boc_runs.specs.Rows.{IsRows, cowns_of}
use Rattle.boc_uses.specs.declared.uses.Use.{Use}
use Rattle.boc_turns.proofs.Gathering.{got_push, use_has}
use Rattle.boc_used_greedy.specs.declared.fronts.Front.{Front}
use Rattle.boc_used_greedy.specs.Ready.{left}
use Rattle.boc_used_greedy.specs.Users.{IsNextUser}
use Rattle.boc_used_greedy.specs.Fronts.{HasCome, IsFront}
use Rattle.boc_used_greedy.proofs.Leaving.{one_or_none, own, left_none}

module _ (rows : List Row) (holds : List (Option Use)) (plan : List ℕ) where
  -- rows that don't hold a cown leave it as it was
  left_first : (c n : ℕ) → ((r : ℕ) → r < n → own rows holds c r ≡ None) → left rows holds plan c n ≡ record { held = 0; wrote = 0 }
  left_first c zero none = refl
  left_first c (suc n) none = left_none rows holds c plan n (none n (omega arith)) ∙ left_first c n (λ r lt. none r (omega (arith, lt)))

  -- a cown has come to the first row that has it
  pub first_come : IsRows rows → (c : ℕ) (front : Front) → IsNextUser rows c 1 front.at → front.held ≡ 0 → front.wrote ≡ 0 → HasCome rows holds plan c front
  first_come hr c front user held wrote = record {
    below = user.below;
    user = user.user;
    started = λ r lt h. absurd (let (u, e) = h in none_has r lt (use_has (cowns_of rows r) _ c u e));
    left_is = rw (held, wrote) (sym (left_first c front.at (λ r lt. elim (one_or_none (own rows holds c r)) [
      | inl e ↦ e
      | inr (u, e) ↦ absurd (none_has r lt (use_has (cowns_of rows r) _ c u e))
    ])));
  }
    where
      none_has : (r : ℕ) → r < front.at → Contains (cowns_of rows r) c → ⊥
      none_has r lt has = elim (cases_eq r 0) [
        | inl e ↦ (
            let empty : Contains [] c = subst (λ (l : List ℕ). Contains l c) hr.main_cowns (subst (λ (x : ℕ). Contains (cowns_of rows x) c) e has) in
            omega (arith, empty.1))
        | inr ne ↦ user.none_between r (omega (arith, ne)) lt has
      ]

  -- the first cowns have their fronts
  abbrev pub AreFrontsOf : List Front → Type 0
  AreFrontsOf fronts = (c : ℕ) (front : Front) → slice_get fronts c ≡ Some front → IsFront rows holds plan c front

  pub fronts_more : (n : ℕ) (fronts : List Front) (front : Front) → length fronts ≡ n → AreFrontsOf fronts → IsFront rows holds plan n front
      → AreFrontsOf (fronts ++ front ∷ [])
  fronts_more n fronts front whole are is = λ c x at. elim (got_push fronts front c x at) [
    | inl before ↦ are c x before
    | inr (here, same) ↦ subst (λ (k : ℕ). IsFront rows holds plan k x) (omega (arith, here, whole)) (subst (IsFront rows holds plan n) same is)
  ]
