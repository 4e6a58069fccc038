-- Rows of a run that have gone on as far as they may without another spawn.
use Rattle.std.specs.Prelude.{◌≡◌, ℕ, List, Some, slice_get}
use Rattle.boc_runs.specs.Lives.{Pending, Running}
use Rattle.boc_runs.specs.Run.{Member}
use Rattle.boc_runs.specs.Serial.{SerialRow}
use Rattle.boc_fronts.specs.Orders.{HasWish, IsBefore}

-- a row before this one has a wish
pub record Waits (rows : List SerialRow) (r : ℕ) : Type 0 where
  pub earlier : ℕ
  pub before : IsBefore rows earlier r
  pub wishes : HasWish rows earlier

-- a pending row waits, and a running one has a wish
pub record Settled (rows : List SerialRow) (members : List Member) (r : ℕ) : Type 0 where
  pub pending : (m : Member) → slice_get members r ≡ Some m → m.life ≡ Pending → Waits rows r
  pub running : (m : Member) → slice_get members r ≡ Some m → m.life ≡ Running → HasWish rows r
