-- What is kept to find the rows that can start.
use Rattle.std.specs.Prelude.{◌≡◌, ℕ, ◌+◌, ◌<◌, ◌⊎◌, List, [], length, slice_get, slice_index, Option, Some, None}
use Rattle.std.specs.List.{Contains, sum_by}
use Rattle.boc_runs.specs.declared.rows.Row.{Row}
use Rattle.boc_plans.specs.Plans.{Ordered}
use Rattle.boc_order.specs.Waits.{links_of, times, AreWaits, AreFollowers}
use Rattle.boc_greedy.specs.declared.frontier.RowState.{RowState}
use Rattle.boc_greedy.specs.declared.frontier.RowState.TheVariants.{Unspawned, Waiting, UnderWay, Over}
use Rattle.boc_greedy.specs.declared.frontier.Frontier.{Frontier}
use Rattle.boc_greedy.specs.declared.row_set.RowSet.{RowSet}
use Rattle.boc_greedy.specs.RowSets.{IsRowSet, Has}
use Rattle.boc_greedy.specs.RowStates.{IsAt}

-- all rows that row r waits for are over
abbrev pub HasNoWaits : List (List ℕ) → List RowState → ℕ → Type 0
HasNoWaits waits states r = (a : ℕ) → Contains (links_of waits r) a → IsAt states a Over

-- row r waits for nothing but a worker
pub record AwaitsWorker (waits : List (List ℕ)) (states : List RowState) (r : ℕ) : Type 0 where
  pub waiting : IsAt states r Waiting
  pub over : HasNoWaits waits states r

-- the set has only such rows, and all of them but perhaps some that are left
unfoldable pub AreQueuedBut : List ℕ → (ℕ → Type 0) → RowSet → Type 0
AreQueuedBut left Is ready = IsRowSet ready × ((r : ℕ) → Has ready r → Is r) × ((r : ℕ) → Is r → Has ready r ⊎ Contains left r)

-- 1 for a row that is not over or not there, and 0 for one that is over
abbrev pub not_over : Option RowState → ℕ
not_over (Some Over) = 0
not_over (Some UnderWay) = 1
not_over (Some Waiting) = 1
not_over (Some Unspawned) = 1
not_over None = 1

-- how many of some rows are not over, each as often as it stands there
abbrev pub unmet_of : List RowState → List ℕ → ℕ
unmet_of states rows = sum_by (λ a. not_over (slice_get states a)) rows

-- each row has a count: how many of those that it waits for are not over, and one more for each time that it stands among those that are left
pub record AreCountedBut (left : List ℕ) (waits : List (List ℕ)) (states : List RowState) (unmet : List ℕ) : Type 0 where
  pub whole : length unmet ≡ length states
  pub waits_whole : length waits ≡ length states
  pub count : (r : ℕ) → r < length states → slice_index unmet r ≡ unmet_of states (links_of waits r) + times r left

-- row r is spawned and has not started, and its count is 0
pub record CountsReady (states : List RowState) (unmet : List ℕ) (r : ℕ) : Type 0 where
  pub waiting : IsAt states r Waiting
  pub none_unmet : slice_index unmet r ≡ 0

-- all rows that are ordered before one that is under way or over are over
pub record AreInTurn (rows : List Row) (states : List RowState) : Type 0 where
  pub whole : length states ≡ length rows
  pub turns : (r : ℕ) → IsAt states r UnderWay → (a : ℕ) → Ordered rows a r → IsAt states a Over
  pub past : (r : ℕ) → IsAt states r Over → (a : ℕ) → Ordered rows a r → IsAt states a Over

-- What is kept is that of the rows at their states, except that for each time a row stands among those left, one that it waits for has ended and its count
-- has not fallen yet; until it has, the ready set may lack the row.
pub record IsKeptBut (rows : List Row) (left : List ℕ) (waits followers : List (List ℕ)) (states : List RowState) (unmet : List ℕ) (ready : RowSet) : Type 0
  where
    pub in_turn : AreInTurn rows states
    pub are_waits : AreWaits rows waits
    pub are_followers : AreFollowers waits followers
    pub are_counted : AreCountedBut left waits states unmet
    pub are_ready : AreQueuedBut left (AwaitsWorker waits states) ready

-- with some lists of waits the frontier is that of the rows at their states, but for these rows, which are left
abbrev pub IsFrontierBut : List Row → List ℕ → Frontier → Type 0
IsFrontierBut rows left f = (waits : List (List ℕ)) × IsKeptBut rows left waits f.followers.now f.states.items f.unmet.items f.ready

-- the frontier is that of the rows at their states
abbrev pub IsFrontier : List Row → Frontier → Type 0
IsFrontier rows f = IsFrontierBut rows [] f
