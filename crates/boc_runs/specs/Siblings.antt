-- The children of rows, one after another.
use Rattle.std.specs.Prelude.{◌≡◌, ℕ, ◌+◌, ◌<◌, ◌≤◌, List, length, slice_index}
use Rattle.boc_runs.specs.declared.rows.Row.{Row}
use Rattle.boc_runs.specs.declared.siblings.Siblings.{Siblings}
use Rattle.boc_runs.specs.Rows.{parent_of}
use Rattle.boc_runs.specs.Changes.{IsChildOf}

-- b is the least child of row p from number n on, or the number of rows where there is none
pub record IsNextChild (rows : List Row) (p n b : ℕ) : Type 0 where
  pub above : n ≤ b
  pub below : b ≤ length rows
  pub child : b < length rows → IsChildOf rows p b
  pub none_between : (c : ℕ) → n ≤ c → c < b → IsChildOf rows p c → ⊥

-- a is the greatest child of row p before number n, or 0 where there is none: row 0 is nobody's child
pub record IsLastChild (rows : List Row) (p n a : ℕ) : Type 0 where
  pub child : 0 < a → (a < n) × IsChildOf rows p a
  pub none_between : (c : ℕ) → a < c → c < n → IsChildOf rows p c → ⊥

-- for each row its last child, and its elder sibling
pub record AreElders (rows : List Row) (lasts elders : List ℕ) : Type 0 where
  pub lasts_whole : length lasts ≡ length rows
  pub elders_whole : length elders ≡ length rows
  pub last : (r : ℕ) → r < length rows → IsLastChild rows r (length rows) (slice_index lasts r)
  pub elder : (r : ℕ) → r < length rows → IsLastChild rows (parent_of rows r) r (slice_index elders r)

-- for each row its first child, and for each but main its younger sibling
pub record AreYoungers (rows : List Row) (firsts youngers : List ℕ) : Type 0 where
  pub firsts_whole : length firsts ≡ length rows
  pub youngers_whole : length youngers ≡ length rows
  pub first : (r : ℕ) → r < length rows → IsNextChild rows r 1 (slice_index firsts r)
  pub younger : (r : ℕ) → 0 < r → r < length rows → IsNextChild rows (parent_of rows r) (r + 1) (slice_index youngers r)

-- for each row its first and its last child, its elder and its younger sibling
pub record AreSiblings (rows : List Row) (siblings : Siblings) : Type 0 where
  pub up : AreElders rows siblings.lasts.items siblings.elders.items
  pub down : AreYoungers rows siblings.firsts.items siblings.youngers.items
