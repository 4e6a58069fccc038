-- Typical ticks: the median of the ticks of a def's rows.
use Rattle.std.specs.Prelude.{◌≡◌, ℕ, ◌-◌, ◌/◌, ◌<◌, ◌≤◌, ◌==◌, nat_lt, nat_le, cond, List, [], ◌∷◌, length, slice_index, count_by}
use Rattle.boc_runs.specs.declared.rows.Row.{Row}

-- the ticks of the rows of a def, in the order of the rows, whose defs these are
abbrev pub ticks_in : List Row → List ℕ → ℕ → List ℕ
ticks_in [] defs def = []
ticks_in (x ∷ rows) [] def = []
ticks_in (x ∷ rows) (d ∷ defs) def = cond (d == def) (x.ticks ∷ ticks_in rows defs def) (ticks_in rows defs def)

-- The median of K numbers, of which there is one at least: in rising order it stands at place (K - 1) / 2, rounded down. So no more than this many are less,
-- and more than this many are no greater.
pub record IsMedian (numbers : List ℕ) (median : ℕ) : Type 0 where
  pub few_less : count_by (λ n. nat_lt n median) numbers ≤ (length numbers - 1) / 2
  pub more_up_to : (length numbers - 1) / 2 < count_by (λ n. nat_le n median) numbers

-- the typical ticks of a def
abbrev pub IsTypicalOf : List Row → List ℕ → ℕ → ℕ → Type 0
IsTypicalOf rows defs def ticks = IsMedian (ticks_in rows defs def) ticks

-- for each def below the bound its typical ticks, and 0 where no row is of it
pub record AreTypicalTicks (rows : List Row) (defs : List ℕ) (bound : ℕ) (typical : List ℕ) : Type 0 where
  pub whole : length typical ≡ bound
  pub each : (def : ℕ) → def < bound → 0 < length (ticks_in rows defs def) → IsTypicalOf rows defs def (slice_index typical def)
  pub none : (def : ℕ) → def < bound → length (ticks_in rows defs def) ≡ 0 → slice_index typical def ≡ 0

-- no two are the same
abbrev pub AreAllApart : List ℕ → Type 0
AreAllApart numbers = (i j : ℕ) → i < length numbers → j < length numbers → slice_index numbers i ≡ slice_index numbers j → i ≡ j
