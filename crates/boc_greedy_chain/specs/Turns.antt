-- When rows start and on which workers, in the order of their starts.
use Rattle.std.specs.Prelude.{◌≡◌, ℕ, ◌<◌, ◌⊎◌, List, length, Some, slice_get}
use Rattle.std.specs.List.Sorted.{IsPermutation}
use Rattle.boc_plans.specs.Plans.{start_of}
use Rattle.boc_plans.specs.Greedy.{worker_of}
use Rattle.boc_greedy_chain.specs.declared.takes.Turn.{Turn}

-- for each row when it starts, and on which worker
pub record AreTurns (plan workers : List ℕ) (turns : List Turn) : Type 0 where
  pub whole : length turns ≡ length plan
  pub at : (r : ℕ) (turn : Turn) → slice_get turns r ≡ Some turn → (turn.row ≡ r) × (turn.start ≡ start_of plan r) × (turn.worker ≡ worker_of workers r)

-- the one starts sooner, or at the same tick and has the lower number
abbrev pub StartsBefore : Turn → Turn → Type 0
StartsBefore a b = (a.start < b.start) ⊎ ((a.start ≡ b.start) × (a.row < b.row))

-- the same, those that start first first
pub record AreByStart (plan workers : List ℕ) (turns : List Turn) : Type 0 where
  pub unsorted : List Turn
  pub are : AreTurns plan workers unsorted
  pub permuted : IsPermutation unsorted turns
  pub sorted : (i j : ℕ) (a b : Turn) → i < j → slice_get turns i ≡ Some a → slice_get turns j ≡ Some b → StartsBefore a b

-- no worker gets two rows at one tick
abbrev pub StartApart : List ℕ → List ℕ → Type 0
StartApart plan workers = (a b : ℕ) → a < length plan → b < length plan → start_of plan a ≡ start_of plan b → worker_of workers a ≡ worker_of workers b → a ≡ b
