-- For whose sake rows wait for others.
use Rattle.std.specs.Prelude.{◌≡◌, ◌≢◌, ℕ, ◌<◌, ◌≤◌, List, ◌++◌, length, Some, slice_get}
use Rattle.std.specs.List.{Contains}
use Rattle.boc_runs.specs.declared.rows.Row.{Row}
use Rattle.boc_order.specs.declared.cown_links.CownLink.{CownLink}
use Rattle.boc_order.specs.Waits.{IsNearOn}

-- that a row waits for another one for the sake of a cown
abbrev pub link_to : ℕ → ℕ → ℕ → CownLink
link_to row cown before = record { before = before; row = row; cown = cown }

-- each link is one of the first n rows to the nearest row that it waits for on the cown, and each of these is linked
pub record AreLinked (rows : List Row) (n : ℕ) (links : List CownLink) : Type 0 where
  pub sound : (l : CownLink) → Contains links l → (l.row < n) × IsNearOn rows l.cown l.before l.row
  pub complete : (c a b : ℕ) → b < n → IsNearOn rows c a b → Contains links (link_to b c a)

-- the links of all rows stand by the rows that are waited for
pub record AreCownLinks (rows : List Row) (links : List CownLink) : Type 0 where
  pub linked : AreLinked rows (length rows) links
  pub sorted : (i j : ℕ) (l m : CownLink) → i ≤ j → slice_get links i ≡ Some l → slice_get links j ≡ Some m → l.before ≤ m.before

-- the links to the rows before this one are those before a place
pub record IsAt (links : List CownLink) (row place : ℕ) : Type 0 where
  pub before : (k : ℕ) (l : CownLink) → k < place → slice_get links k ≡ Some l → l.before < row
  pub behind : (k : ℕ) (l : CownLink) → place ≤ k → slice_get links k ≡ Some l → row ≤ l.before
  pub sorted : (i j : ℕ) (l m : CownLink) → i ≤ j → slice_get links i ≡ Some l → slice_get links j ≡ Some m → l.before ≤ m.before

-- the rows were added that wait for this row for the sake of another cown
pub record AddsOthers (links : List CownLink) (row cown : ℕ) (old new : List ℕ) : Type 0 where
  pub added : List ℕ
  pub is : new ≡ old ++ added
  pub sound : (b : ℕ) → Contains added b → (c : ℕ) × (c ≢ cown) × Contains links (link_to b c row)
  pub complete : (b c : ℕ) → c ≢ cown → Contains links (link_to b c row) → Contains added b
