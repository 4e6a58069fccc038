-- The latest of some ends.
use Rattle.std.proofs.Common.{◌≡◌, ℕ, ◌+◌, ◌<◌, ◌≤◌, ◌⊎◌, List, length, inl, inr, arith}
use Rattle.std.specs.Prelude.{max}
use Rattle.std.proofs.lemmas.Bool.{cases_lt, cases_eq}
use Rattle.boc_runs.specs.declared.rows.Row.{Row}
use Rattle.boc_plans.specs.Plans.{end_of, IsEnd}

-- the latest end among the first n rows, and 0 where there is none
pub record IsLatest (rows : List Row) (plan : List ℕ) (n latest : ℕ) : Type 0 where
  pub none_later : (r : ℕ) → r < n → end_of rows plan r ≤ latest
  pub reached : ((n ≡ 0) × (latest ≡ 0)) ⊎ ((r : ℕ) × (r < n) × (end_of rows plan r ≡ latest))

-- the same with one row more
pub latest_more : (rows : List Row) (plan : List ℕ) (n latest end : ℕ) → IsLatest rows plan n latest → end ≡ end_of rows plan n →
    IsLatest rows plan (n + 1) (max end latest)
latest_more rows plan n latest end l is = record {
  none_later = λ r h. elim (cases_eq r n) [
    | inl e ↦ rw e (omega (arith, is))
    | inr ne ↦ omega (arith, l.none_later r (omega (arith, h, ne)))
  ];
  reached = inr (elim (cases_lt latest end) [
    | inl more ↦ (n, omega arith, omega (arith, is, more))
    | inr le ↦ elim l.reached [
      | inl none ↦ (n, omega arith, omega (arith, is, le, none.1))
      | inr one ↦ (one.0, omega (arith, one.1), omega (arith, one.2, le))
    ]
  ]);
}

-- the latest of all ends is the end of the plan
pub latest_of_all : (rows : List Row) (plan : List ℕ) (n latest : ℕ) → 0 < length rows → n ≡ length rows → IsLatest rows plan n latest → IsEnd rows plan latest
latest_of_all rows plan n latest some all l = record {
  none_later = λ r h. l.none_later r (omega (arith, h, all));
  reached = elim l.reached [
    | inl none ↦ absurd (omega (arith, some, all, none.0))
    | inr one ↦ (one.0, omega (arith, one.1, all), one.2)
  ];
}
