-- The lowest of some rows that ends at a tick, as they are gone through.
use Rattle.std.proofs.Common.{◌≡◌, ◌≢◌, ◌⊎◌, ℕ, ◌+◌, ◌<◌, ◌≤◌, List, length, min, refl, ap, sym, ◌∙◌, inl, inr, arith, Option, Some, None}
use Rattle.std.specs.Option.{option_map_or}
use Rattle.std.specs.Prelude.{slice_index}
use Rattle.std.specs.List.{Contains}
use Rattle.std.proofs.lemmas.Bool.{cases_lt, cases_eq}
use Rattle.std.proofs.lemmas.List.{get_or_default}
use Rattle.boc_greedy_chain.specs.GreedyChains.{IsLeastEnding}

module _ (rows ends : List ℕ) (tick : ℕ) where
  -- one of the first n of the rows that ends at the tick
  pub record EndsAmong (n a : ℕ) : Type 0 where
    pub place : ℕ
    pub first : place < n
    pub row : slice_index rows place ≡ a
    pub ends_then : slice_index ends a ≡ tick

  -- the lowest of these, if any
  abbrev pub LowestSoFar : ℕ → Option ℕ → Type 0
  LowestSoFar n (Some a) = EndsAmong n a × ((other : ℕ) → EndsAmong n other → a ≤ other)
  LowestSoFar n None = (other : ℕ) → EndsAmong n other → ⊥

  pub lowest_none : LowestSoFar 0 None
  lowest_none other m = omega (arith, m.first)

  more : (n a : ℕ) → EndsAmong n a → EndsAmong (n + 1) a
  more n a m = record { place = m.place; first = omega (arith, m.first); row = m.row; ends_then = m.ends_then }

  fewer : (n a : ℕ) → EndsAmong (n + 1) a → EndsAmong n a ⊎ (slice_index rows n ≡ a)
  fewer n a m = elim (cases_eq m.place n) [
    | inl e ↦ inr (ap (slice_index rows) (sym e) ∙ m.row)
    | inr ne ↦ inl (record { place = m.place; first = omega (arith, m.first, ne); row = m.row; ends_then = m.ends_then })
  ]

  -- a row that ends at another tick changes nothing
  pub lowest_same : (n : ℕ) (o : Option ℕ) → slice_index ends (slice_index rows n) ≢ tick → LowestSoFar n o → LowestSoFar (n + 1) o
  lowest_same n (Some a) ne low = (
    more n a low.0,
    λ other m. elim (fewer n other m) [ inl old ↦ low.1 other old | inr new ↦ absurd (ne (ap (slice_index ends) new ∙ m.ends_then)) ],
  )
  lowest_same n None ne low = λ other m. elim (fewer n other m) [ inl old ↦ low other old | inr new ↦ ne (ap (slice_index ends) new ∙ m.ends_then) ]

  -- one that ends then may be the lowest
  pub lowest_more : (n : ℕ) (o : Option ℕ) → slice_index ends (slice_index rows n) ≡ tick → LowestSoFar n o
      → LowestSoFar (n + 1) (Some (option_map_or (λ other. min other (slice_index rows n)) o (slice_index rows n)))
  lowest_more n None e low = (
    record { place = n; first = omega arith; row = refl; ends_then = e },
    λ other m. elim (fewer n other m) [ inl old ↦ absurd (low other old) | inr new ↦ omega (arith, new) ],
  )
  lowest_more n (Some a) e low = elim (cases_lt a (slice_index rows n)) [
    | inl l ↦ (
        let least : min a (slice_index rows n) ≡ a = omega (arith, l) in
        rw least (more n a low.0, λ other m. elim (fewer n other m) [ inl old ↦ low.1 other old | inr new ↦ omega (arith, new, l) ]))
    | inr ge ↦ (
        let least : min a (slice_index rows n) ≡ slice_index rows n = omega (arith, ge) in
        rw least (
          record { place = n; first = omega arith; row = refl; ends_then = e },
          λ other m. elim (fewer n other m) [ inl old ↦ omega (arith, low.1 other old, ge) | inr new ↦ omega (arith, new) ],
        ))
  ]

  from_contains : (n a : ℕ) → n ≡ length rows → Contains rows a → slice_index ends a ≡ tick → EndsAmong n a
  from_contains n a all m e = record {
    place = m.0;
    first = omega (arith, m.1, all);
    row = get_or_default rows m.0 0 a m.1 ∙ m.2;
    ends_then = e;
  }

  -- all of them
  pub lowest_all : (n : ℕ) (o : Option ℕ) → n ≡ length rows → LowestSoFar n o → IsLeastEnding rows ends tick o
  lowest_all n (Some a) all low = (
    (low.0.place, omega (arith, low.0.first, all), get_or_default rows low.0.place a 0 (omega (arith, low.0.first, all)) ∙ low.0.row),
    low.0.ends_then,
    λ other m e. low.1 other (from_contains n other all m e),
  )
  lowest_all n None all low = λ other m e. low other (from_contains n other all m e)
