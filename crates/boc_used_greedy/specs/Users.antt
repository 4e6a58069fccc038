-- The rows that have a cown, one after another, and the children of a row.
use Rattle.std.specs.Prelude.{◌≡◌, ℕ, ◌+◌, ◌<◌, ◌≤◌, List, length, Some, slice_get, slice_index}
use Rattle.std.specs.List.{Contains}
use Rattle.boc_program.specs.declared.limits.TheConstants.{MOST_COWNS}
use Rattle.boc_runs.specs.declared.rows.Row.{Row}
use Rattle.boc_runs.specs.Rows.{parent_of, cowns_of}
use Rattle.boc_turns.specs.Turns.{cowns_before}
use Rattle.boc_greedy.specs.Families.{IsNextChild}
use Rattle.boc_used_greedy.specs.declared.users.Users.{Users}

-- q is the least row from a number on that has cown c, or the number of rows where there is none
pub record IsNextUser (rows : List Row) (c from q : ℕ) : Type 0 where
  pub above : from ≤ q
  pub below : q ≤ length rows
  pub user : q < length rows → Contains (cowns_of rows q) c
  pub none_between : (r : ℕ) → from ≤ r → r < q → Contains (cowns_of rows r) c → ⊥

-- the rows from a number on are noted with their cowns: the first of them that has each cown, and for each cown of each of them the next
pub record AreUsersFrom (rows : List Row) (from : ℕ) (first next : List ℕ) : Type 0 where
  pub first_whole : length first ≡ MOST_COWNS
  pub next_whole : length next ≡ cowns_before rows (length rows)
  pub first_is : (c : ℕ) → c < MOST_COWNS → IsNextUser rows c from (slice_index first c)
  pub next_is : (r k c : ℕ) → from ≤ r → r < length rows → slice_get (cowns_of rows r) k ≡ Some c
      → IsNextUser rows c (r + 1) (slice_index next (cowns_before rows r + k))

-- the rows from a number on are noted as children: of each row the first of them, and for each of them the next child of its parent
pub record AreChildrenFrom (rows : List Row) (from : ℕ) (first next : List ℕ) : Type 0 where
  pub first_whole : length first ≡ length rows
  pub next_whole : length next ≡ length rows
  pub first_is : (a : ℕ) → a < length rows → IsNextChild rows a from (slice_index first a)
  pub next_is : (b : ℕ) → from ≤ b → b < length rows → IsNextChild rows (parent_of rows b) (b + 1) (slice_index next b)

-- all rows that have each cown, and all children of each row
pub record AreUsers (rows : List Row) (users : Users) : Type 0 where
  pub cowns : AreUsersFrom rows 1 users.first.items users.next.items
  pub children : AreChildrenFrom rows 1 users.first_child.items users.next_child.items
