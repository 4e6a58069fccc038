-- The lowest-numbered pending row.
use Rattle.std.proofs.Common.{◌≡◌, ℕ, zero, suc, ◌<◌, ◌⊎◌, List, length, refl, sym, ◌∙◌, ap, inl, inr, arith}
use Rattle.std.proofs.lemmas.Bool.{cases_eq}
use Rattle.std.specs.Prelude.{Option, Some, None}
use Rattle.boc_program.proofs.ChangedItems.{item_at}
use Rattle.boc_runs.specs.Lives.{Life, Pending, Running, Ended, MayStart, AreOver}
use Rattle.boc_runs.specs.Legal.{Entry, life_of, entry_cowns}
use Rattle.boc_rules.proofs.Next.{life_at, life_cases}
use Rattle.boc_stalled.specs.Stalled.{NoneRuns, IsLeastPending, HasStart}

pub least_starts : (life : ℕ → Option Life) (cowns : ℕ → List ℕ) (row : ℕ) → NoneRuns life → IsLeastPending life row → MayStart life cowns row
least_starts life cowns row none l = record {
  waits = l.waits;
  none_running = λ other runs _. none other runs;
  none_earlier = λ other less waits _. l.least other less waits;
}

is_it : (o : Option Life) → (o ≡ Some Pending) ⊎ (o ≡ Some Pending → ⊥)
is_it None = inr (λ e. cc)
is_it (Some Pending) = inl refl
is_it (Some Running) = inr (λ e. cc)
is_it (Some Ended) = inr (λ e. cc)

same_or_below : (r n : ℕ) → r < suc n → (r < n) ⊎ (r ≡ n)
same_or_below r n h = elim (cases_eq r n) [ inl e ↦ inr e | inr not ↦ inl (omega arith) ]

-- below a number no row is pending, or a lowest-numbered one is
least_below : (life : ℕ → Option Life) (n : ℕ) → ((r : ℕ) → r < n → life r ≡ Some Pending → ⊥) ⊎ ((r : ℕ) × IsLeastPending life r)
least_below life zero = inl (λ r less _. absurd (omega arith))
least_below life (suc n) = elim (least_below life n) [
  | inr l ↦ inr l
  | inl none ↦ elim (is_it (life n)) [
    | inl waits ↦ inr (n, record { waits = waits; least = none })
    | inr not ↦ inl (λ r less waits. elim (same_or_below r n less) [
      | inl below ↦ none r below waits
      | inr e ↦ not (ap life (sym e) ∙ waits)
    ])
  ]
]

pub some_starts : (rows : List Entry) → NoneRuns (life_of rows) → 0 < length rows → (AreOver (length rows) (life_of rows) → ⊥) → HasStart rows
some_starts rows none some unended = elim (least_below (life_of rows) (length rows)) [
  | inr l ↦ record { row = l.0; least = l.1; starts = least_starts (life_of rows) (entry_cowns rows) l.0 none l.1 }
  | inl waits ↦ absurd (unended (record {
    some = some;
    ended = λ r less.
        let x = item_at rows r less in
        let at = life_at rows r x.0 x.1 in
        elim (life_cases x.0.life) [
          | inl p ↦ absurd (waits r less (at ∙ ap (λ (l : Life). Some l) p))
          | inr p ↦ elim p [
            | inl q ↦ absurd (none r (at ∙ ap (λ (l : Life). Some l) q))
            | inr q ↦ at ∙ ap (λ (l : Life). Some l) q
          ]
        ];
  }))
]
