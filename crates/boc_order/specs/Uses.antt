-- What of a cown was used by the rows so far.
use Rattle.std.specs.Prelude.{◌≡◌, ℕ, ◌+◌, ◌<◌, ◌≤◌, List, ◌++◌, length, Some, MatchOption, slice_get}
use Rattle.std.specs.List.{Contains}
use Rattle.boc_program.specs.declared.limits.TheConstants.{MOST_COWNS}
use Rattle.boc_runs.specs.declared.rows.Row.{Row}
use Rattle.boc_runs.specs.Rows.{cowns_of, written_of}
use Rattle.boc_order.specs.declared.gathering.Use.{Use}
use Rattle.boc_order.specs.Waits.{IsNearOn, IsNear}

-- no row from row r on and before row n writes cown c
abbrev pub NoneWrites : List Row → ℕ → ℕ → ℕ → Type 0
NoneWrites rows c r n = (k : ℕ) → r ≤ k → k < n → Contains (written_of rows k) c → ⊥

-- row w is the last before row n that writes cown c
pub record IsWriter (rows : List Row) (n c w : ℕ) : Type 0 where
  pub before : w < n
  pub wrote : Contains (written_of rows w) c
  pub last : NoneWrites rows c (w + 1) n

-- row r needs cown c, and neither it nor a row behind it, before row n, writes it
pub record IsReader (rows : List Row) (n c r : ℕ) : Type 0 where
  pub before : r < n
  pub needs : Contains (cowns_of rows r) c
  pub since : NoneWrites rows c r n

-- the last writer of cown c before row n, and its readers since
pub record IsUse (rows : List Row) (n c : ℕ) (used : Use) : Type 0 where
  pub writer : MatchOption used.writer (NoneWrites rows c 0 n) (IsWriter rows n c)
  pub sound : (r : ℕ) → Contains used.readers.items r → IsReader rows n c r
  pub complete : (r : ℕ) → IsReader rows n c r → Contains used.readers.items r

-- the uses of all cowns before row n
pub record AreUses (rows : List Row) (n : ℕ) (uses : List Use) : Type 0 where
  pub whole : length uses ≡ MOST_COWNS
  pub at : (c : ℕ) (used : Use) → slice_get uses c ≡ Some used → IsUse rows n c used

-- the links, once the rows were added for which row b waits on cown c
pub record AddsNearOn (rows : List Row) (b c : ℕ) (old new : List ℕ) : Type 0 where
  pub added : List ℕ
  pub is : new ≡ old ++ added
  pub sound : (a : ℕ) → Contains added a → IsNearOn rows c a b
  pub complete : (a : ℕ) → IsNearOn rows c a b → Contains added a

-- the links, once the rows were added for which row b waits
pub record AddsNear (rows : List Row) (b : ℕ) (old new : List ℕ) : Type 0 where
  pub added : List ℕ
  pub is : new ≡ old ++ added
  pub sound : (a : ℕ) → Contains added a → IsNear rows a b
  pub complete : (a : ℕ) → IsNear rows a b → Contains added a
