-- The rows that are shown, and what the chain goes through.
use Rattle.std.proofs.Common.{◌≡◌, ◌∙◌, ◌==◌, ℕ, zero, suc, ◌+◌, ◌<◌, ◌≤◌, Bool, true, false, cond, List, [], ◌∷◌, ◌++◌, length, drop, get_or, set}
use Rattle.std.proofs.Common.{ap, arith, refl, subst, sym, Some}
use Rattle.std.specs.Prelude.{replicate, slice_get}
use Rattle.std.proofs.lemmas.Bool.{eqb-true, eqb-false}
use Rattle.std.proofs.lemmas.List.{drop_all, get_or-replicate, get_or-set_same, get_or-set_other, length-replicate, length-set}
use Rattle.std.proofs.lemmas.Option.{get_or_from_slice_get, slice_get_within}
use Rattle.boc_runs.specs.declared.rows.Row.{Row}
use Rattle.boc_runs.specs.Rows.{IsRows}
use Rattle.boc_plans.specs.declared.chain.ChainStep.{ChainStep}
use Rattle.boc_order.specs.declared.plan.Earliest.{Earliest}
use Rattle.boc_order.specs.declared.report.Profile.{Profile}
use Rattle.boc_order.specs.Profiles.{IsProfileOf}
use Rattle.boc_order.specs.Standing.{IsPlanOf}
use Rattle.boc_order.proofs.Alone.{one_plan}
use Rattle.boc_order.proofs.Chaining.{placed_earliest}
use Rattle.boc_pictures.specs.Subjects.{through_of, weight_from}

-- what holds of each place of a list, and of one thing more at its end, holds of each place of both
pub holds_at_all : {X : Type 0} (P : ℕ → X → Type 0) (xs : List X) (x : X)
    → ((k : ℕ) (y : X) → slice_get xs k ≡ Some y → P k y) → P (length xs) x
    → (k : ℕ) (y : X) → slice_get (xs ++ x ∷ []) k ≡ Some y → P k y
holds_at_all P [] x old new zero y at = subst (P zero) (get_or_from_slice_get (x ∷ []) zero y x at) new
holds_at_all P [] x old new (suc k) y at = let within = slice_get_within (x ∷ []) (suc k) y at in absurd (omega (arith, within))
holds_at_all P (z ∷ xs) x old new zero y at = old zero y at
holds_at_all P (z ∷ xs) x old new (suc k) y at = holds_at_all (λ j w. P (suc j) w) xs x (λ j w. old (suc j) w) new k y at

-- a plan in which the rows stand where they must is that of their profile
pub one_start : (rows : List Row) → IsRows rows → (plan : Earliest) → IsPlanOf rows plan → (profile : Profile) → IsProfileOf rows profile
    → plan.starts.items ≡ profile.starts.items
one_start rows hr plan placed profile is = one_plan rows plan.starts.items profile.starts.items
    (placed_earliest rows hr plan.starts.items plan.ends.items plan.after.items placed) is.earliest

-- the ticks of each of so many rows that the chain goes through are known but for its steps from a place on
pub record AreThrough (count : ℕ) (steps : List ChainStep) (k : ℕ) (through : List ℕ) : Type 0 where
  pub whole : length through ≡ count
  pub each : (r : ℕ) → r < count → weight_from (get_or through r 0) (drop k steps) r ≡ through_of steps r

-- before the first step
pub through_begins : (count : ℕ) (steps : List ChainStep) (through : List ℕ) → through ≡ replicate count 0 → AreThrough count steps 0 through
through_begins count steps through is = rw is (record {
  whole = length-replicate {A = ℕ} count 0;
  each = λ r h. ap (λ (ticks : ℕ). weight_from ticks steps r) (get_or-replicate {A = ℕ} count r 0 0 h);
})

-- what one row has is put in its place
set_as : (old : List ℕ) (row ticks r : ℕ) → row < length old → get_or (set old row ticks) r 0 ≡ cond (row == r) ticks (get_or old r 0)
set_as old row ticks r h = go (row == r) refl
  where
    go : (b : Bool) → (row == r) ≡ b → get_or (set old row ticks) r 0 ≡ cond b ticks (get_or old r 0)
    go true is = subst (λ (x : ℕ). get_or (set old row ticks) x 0 ≡ ticks) (eqb-true row r is) (get_or-set_same old row ticks 0 h)
    go false is = get_or-set_other old row r ticks 0 (λ e. eqb-false row r is (sym e))

module _ (count : ℕ) (steps : List ChainStep) (k : ℕ) (step : ChainStep) (next : drop k steps ≡ step ∷ drop (k + 1) steps) (old : List ℕ)
    (there : step.row < count) (so : AreThrough count steps k old) where
  inside : step.row < length old
  inside = omega (arith, there, so.whole)

  each_next : (r : ℕ) → r < count → weight_from (get_or (set old step.row step.weight) r 0) (drop (k + 1) steps) r ≡ through_of steps r
  each_next r h =
      let before = subst (λ (l : List ChainStep). weight_from (get_or old r 0) l r ≡ through_of steps r) next (so.each r h) in
      subst (λ (t : ℕ). weight_from t (drop (k + 1) steps) r ≡ through_of steps r) (sym (set_as old step.row step.weight r inside)) before

  -- one step more
  pub through_next : AreThrough count steps (k + 1) (set old step.row step.weight)
  through_next = record { whole = length-set old step.row step.weight ∙ so.whole; each = each_next }

-- after the last step
pub through_ends : (count : ℕ) (steps : List ChainStep) (k : ℕ) (through : List ℕ) → length steps ≤ k → AreThrough count steps k through
    → (r : ℕ) → r < count → get_or through r 0 ≡ through_of steps r
through_ends count steps k through past so r h =
    subst (λ (l : List ChainStep). weight_from (get_or through r 0) l r ≡ through_of steps r) (drop_all k steps past) (so.each r h)
