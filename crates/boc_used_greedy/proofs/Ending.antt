-- When a plan ends in which all rows have started.
use Rattle.std.proofs.Common.{◌≡◌, inl, inr, ℕ, ◌+◌, ◌^◌, ◌<◌, ◌≤◌, max, List, length, Option, Some, subst, ap, ◌∙◌, arith}
use Rattle.std.specs.Prelude.{slice_get}
use Rattle.std.proofs.lemmas.Bool.{cases_lt, cases_eq}
use Rattle.std.proofs.lemmas.Option.{slice_get-get_or}
use Rattle.boc_program.specs.declared.limits.TheConstants.{MOST_COWNS}
use Rattle.boc_runs.specs.declared.rows.Row.{Row}
use Rattle.boc_plans.specs.Plans.{start_of, end_of}
use Rattle.boc_greedy.specs.Simulating.{later}
use Rattle.boc_uses.specs.declared.uses.Use.{Use}
use Rattle.boc_used_greedy.specs.declared.fronts.Front.{Front}
use Rattle.boc_used_greedy.specs.Ready.{Left, left}
use Rattle.boc_used_greedy.specs.Fronts.{IsFront, AreFronts}
use Rattle.boc_used_greedy.specs.Ends.{IsEndOf}

-- it is the last end of the first n rows
pub record IsEndTo (rows : List Row) (plan : List ℕ) (n end : ℕ) : Type 0 where
  pub above : (r : ℕ) → r < n → end_of rows plan r ≤ end
  pub least : (tick : ℕ) → ((r : ℕ) → r < n → end_of rows plan r ≤ tick) → end ≤ tick

pub end_none : (rows : List Row) (plan : List ℕ) → IsEndTo rows plan 0 0
end_none rows plan = record { above = λ r lt. absurd (omega (arith, lt)); least = λ tick all. omega arith }

pub end_more : (rows : List Row) (plan : List ℕ) (n end own new : ℕ) → IsEndTo rows plan n end → own ≡ end_of rows plan n → new ≡ max own end
    → IsEndTo rows plan (n + 1) new
end_more rows plan n end own new i is new_is = record {
  above = λ r lt. elim (cases_eq r n) [
    | inl e ↦ (let same : end_of rows plan r ≡ end_of rows plan n = ap (end_of rows plan) e in omega (arith, same, is, new_is))
    | inr ne ↦ omega (arith, new_is, i.above r (omega (arith, lt, ne)))
  ];
  least = λ tick all. omega (arith, new_is, i.least tick (λ r lt. all r (omega (arith, lt))), all n (omega arith), is);
}

-- it is the last end of all rows, or when the last of the first n cowns is left
pub record IsEndWith (rows : List Row) (holds : List (Option Use)) (plan : List ℕ) (n end : ℕ) : Type 0 where
  pub rows_end : (r : ℕ) → r < length rows → end_of rows plan r ≤ end
  pub turns_end : (c : ℕ) → c < n → (left rows holds plan c (length rows)).held ≤ end
  pub least : (tick : ℕ) → ((r : ℕ) → r < length rows → end_of rows plan r ≤ tick)
      → ((c : ℕ) → c < n → (left rows holds plan c (length rows)).held ≤ tick) → end ≤ tick

module _ (rows : List Row) (holds : List (Option Use)) (plan : List ℕ) where
  pub with_none : (n end : ℕ) → n ≡ length rows → IsEndTo rows plan n end → IsEndWith rows holds plan 0 end
  with_none n end all i = record {
    rows_end = λ r there. i.above r (omega (arith, there, all));
    turns_end = λ c lt. absurd (omega (arith, lt));
    least = λ tick ends turns. i.least tick (λ r lt. ends r (omega (arith, lt, all)));
  }

  module _ (low : (r : ℕ) → r < length rows → start_of plan r < 2 ^ 61) (fronts : List Front) (f : AreFronts rows holds plan fronts) where
    -- a cown has come to the end of all rows
    held_is : (c : ℕ) (front : Front) → slice_get fronts c ≡ Some front → front.held ≡ (left rows holds plan c (length rows)).held
    held_is c front at =
        let is = f.each c front at in
        let all : front.at ≡ length rows = elim (cases_lt front.at (length rows)) [
          | inl there ↦ absurd (omega (arith, (is.stops there).not_started, low front.at there))
          | inr ge ↦ omega (arith, ge, is.come.below)
        ] in
        ap (λ (x : Left). x.held) (is.come.left_is ∙ ap (left rows holds plan c) all)

    pub with_more : (n end new : ℕ) (front : Front) → slice_get fronts n ≡ Some front → IsEndWith rows holds plan n end → new ≡ max front.held end
        → IsEndWith rows holds plan (n + 1) new
    with_more n end new front at i new_is =
        let is = held_is n front at in
        record {
          rows_end = λ r there. omega (arith, new_is, i.rows_end r there);
          turns_end = λ c lt. elim (cases_eq c n) [
            | inl e ↦ (
                let same : (left rows holds plan c (length rows)).held ≡ (left rows holds plan n (length rows)).held =
                ap (λ (x : ℕ). (left rows holds plan x (length rows)).held) e in
                omega (arith, same, is, new_is))
            | inr ne ↦ omega (arith, new_is, i.turns_end c (omega (arith, lt, ne)))
          ];
          least = λ tick ends turns. omega (arith, new_is, i.least tick ends (λ c lt. turns c (omega (arith, lt))), turns n (omega arith), is);
        }

    pub with_all : (n end : ℕ) → length fronts ≤ n → IsEndWith rows holds plan n end → n ≤ length fronts → IsEndOf rows holds plan end
    with_all n end all i le = record {
      rows_end = i.rows_end;
      turns_end = λ c small. i.turns_end c (omega (arith, small, all, f.whole));
      least = λ tick ends turns. i.least tick ends (λ c lt. turns c (omega (arith, lt, le, f.whole)));
    }
