-- What a sweep computes: the heaviest way over the cut of a row.
use Rattle.std.specs.Prelude.{◌≡◌, ℕ, ◌+◌, ◌*◌, ◌<◌, ◌≤◌, ◌⊎◌, List, length, Option, slice_index}
use Rattle.boc_program.specs.declared.limits.TheConstants.{MOST_ROWS, MOST_TICKS}
use Rattle.boc_runs.specs.declared.rows.Row.{Row}
use Rattle.boc_runs.specs.Rows.{offset_of, edited}
use Rattle.boc_plans.specs.Plans.{start_of, end_of, IsChild, IsEnd}
use Rattle.boc_order.specs.Placed.{ArePlaced}
use Rattle.boc_sweep.specs.declared.sweeping.Cut.{Cut}
use Rattle.boc_sweep.specs.declared.sweeping.Cut.TheVariants.{Before, Behind}
use Rattle.boc_sweep.specs.Ways.{AreTails, IsHeaviest}
use Rattle.boc_order.specs.Waits.{Covers, IsNear}
use Rattle.boc_sweep.specs.Links.{Node, start, stop, finish, number_of, IsNode, Links, tick_of}

-- the earliest plan, and the heaviest way from each node to the end of all
pub record AreWays (rows : List Row) (Waits : ℕ → ℕ → Type 0) (starts ends : List ℕ) (after : List (Option ℕ)) (last : ℕ) (tail : Node → ℕ) : Type 0 where
  pub covers : Covers rows Waits
  pub placed : ArePlaced rows starts ends after (length rows)
  pub ended : IsEnd rows starts last
  pub tails : AreTails (IsNode (length rows)) (Links rows Waits) finish tail

-- the heaviest way over the cut of a row that takes so many ticks
abbrev pub IsMostAt : List Row → (ℕ → ℕ → Type 0) → List ℕ → ℕ → (Node → ℕ) → ℕ → ℕ → ℕ → Type 0
IsMostAt rows Waits starts last tail row ticks most =
    IsHeaviest (number_of (length rows)) (Links (edited rows row ticks) Waits) (tick_of rows starts last) tail (2 * row) most

-- the weights of the heaviest ways from the starts and the ends of rows to the end of all
abbrev pub tail_of : List ℕ → List ℕ → Node → ℕ
tail_of from_starts from_ends (start r) = slice_index from_starts r
tail_of from_starts from_ends (stop r) = slice_index from_ends r
tail_of from_starts from_ends finish = 0

-- what the rows' links say of the tails, and their sizes
pub record HasTails (rows : List Row) (from_starts from_ends : List ℕ) : Type 0 where
  pub starts_len : length from_starts ≡ length rows
  pub ends_len : length from_ends ≡ length rows
  pub tails : AreTails (IsNode (length rows)) (Links rows (IsNear rows)) finish (tail_of from_starts from_ends)
  pub low : (r : ℕ) → r < length rows → slice_index from_starts r ≤ MOST_ROWS * MOST_TICKS

-- the first row over whose cut a spawn by this row leads
abbrev pub first_cut : Cut → ℕ → ℕ
first_cut Before parent = parent + 1
first_cut Behind parent = parent

-- a link other than a row's own leads over the cut of row v, and not to its start, on a way of this weight
abbrev pub Crosses : Cut → List Row → List ℕ → List ℕ → ℕ → ℕ → Type 0
Crosses cut rows starts from_starts v weight =
    ((a : ℕ) × (b : ℕ) × (first_cut cut a ≤ v) × (v < b) × IsChild rows a b × (start_of starts a + offset_of rows b + slice_index from_starts b ≡ weight))
    ⊎ ((a : ℕ) × (b : ℕ) × (a < v) × (v < b) × IsNear rows a b × (end_of rows starts a + slice_index from_starts b ≡ weight))
    ⊎ ((a : ℕ) × (a < v) × (end_of rows starts a ≡ weight))
