-- What the keys of a chain have in all, before the keys are put in their order.
use Rattle.std.specs.Prelude.{◌≡◌, ◌≢◌, ℕ, ◌<◌, List, length, Some, slice_get, slice_index}
use Rattle.std.specs.List.{Contains}
use Rattle.boc_why.specs.declared.shares.Share.{Share}
use Rattle.boc_why.specs.Shares.{ticks_at, steps_at, IsShare}

-- for each key below the bound what the steps with that key weigh, and how many they are
pub record HasTotals (keys weights : List ℕ) (bound : ℕ) (ticks counts : List ℕ) : Type 0 where
  pub many_ticks : length ticks ≡ bound
  pub many_counts : length counts ≡ bound
  pub ticks_are : (key : ℕ) → key < bound → slice_index ticks key ≡ ticks_at key keys weights
  pub counts_are : (key : ℕ) → key < bound → slice_index counts key ≡ steps_at key keys

-- the shares of all keys, each once
pub record ListShares (keys weights : List ℕ) (shares : List Share) : Type 0 where
  pub each : (i : ℕ) (share : Share) → slice_get shares i ≡ Some share → IsShare keys weights share
  pub all : (key : ℕ) → Contains keys key → (i : ℕ) × (share : Share) × (slice_get shares i ≡ Some share) × (share.key ≡ key)
  pub once : (i j : ℕ) (a b : Share) → i < j → slice_get shares i ≡ Some a → slice_get shares j ≡ Some b → a.key ≢ b.key
