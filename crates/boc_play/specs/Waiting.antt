-- Rows over cowns, and which of them are tried again where a row has ended.
use Rattle.std.specs.Prelude.{◌≡◌, ℕ, ◌<◌, ◌≤◌, List, [], ◌∷◌, ◌++◌, length, map, Option, Some, None, slice_index_or, slice_set}
use Rattle.std.specs.List.{Contains, sum_by}
use Rattle.std.specs.declared.vec.Vec.{Vec}
use Rattle.std.specs.declared.alloc.Global.{Global}
use Rattle.boc_play.specs.declared.waiting.NextRows.{NextRows}

-- for each cown the latest row over it, and for each row those that come next after it over a cown
pub record Tables : Type 0 where
  pub latest : List (Option ℕ)
  pub next : List (List ℕ)

abbrev pub lists_of : List (Vec ℕ Global) → List (List ℕ)
lists_of lists = map (λ list. list.items) lists

abbrev pub tables : NextRows → Tables
tables rows = record { latest = rows.latest.items; next = lists_of rows.next.items }

-- the latest row over a cown, if there is one
abbrev pub latest_at : List (Option ℕ) → ℕ → Option ℕ
latest_at latest cown = slice_index_or latest cown None

-- the rows that come next after a row
abbrev pub next_after : List (List ℕ) → ℕ → List ℕ
next_after next row = slice_index_or next row []

-- a row comes next after another one, if there is one
abbrev pub put_behind : List (List ℕ) → Option ℕ → ℕ → List (List ℕ)
put_behind next None row = next
put_behind next (Some before) row = slice_set next before (next_after next before ++ row ∷ [])

-- a row is the latest over a cown, and comes next after the one that was
abbrev pub linked : Tables → ℕ → ℕ → Tables
linked t row cown = record { latest = slice_set t.latest cown (Some row); next = put_behind t.next (latest_at t.latest cown) row }

-- the same over each of these cowns
abbrev pub all_linked : Tables → ℕ → List ℕ → Tables
all_linked t row [] = t
all_linked t row (cown ∷ cowns) = all_linked (linked t row cown) row cowns

-- one row more, over these cowns
abbrev pub with_row : Tables → ℕ → List ℕ → Tables
with_row t row cowns = all_linked (record t { next = t.next ++ [] ∷ [] }) row cowns

-- no row comes next after this one any more
abbrev pub released : Tables → ℕ → Tables
released t row = record t { next = slice_set t.next row [] }

-- how many rows come next after others, in all
abbrev pub count_next : Tables → ℕ
count_next t = sum_by (λ rows. length rows) t.next

-- the latest rows are there
abbrev pub AreThere : Tables → Type 0
AreThere t = (cown row : ℕ) → latest_at t.latest cown ≡ Some row → row < length t.next

-- between two rows over a cown, or at the earlier one, is a row over it after which the later one comes next
pub record IsNextAfter (over : ℕ → ℕ → Type 0) (behind : List (List ℕ)) (earlier row cown : ℕ) : Type 0 where
  pub by : ℕ
  pub from : earlier ≤ by
  pub before : by < row
  pub has : over by cown
  pub next : Contains (next_after behind by) row

-- each row over a cown comes next after one that is no earlier than any earlier row over it, as long as that has not ended
pub record AreChained (over : ℕ → ℕ → Type 0) (unended : ℕ → Type 0) (t : Tables) : Type 0 where
  pub latest_has : (row cown : ℕ) → latest_at t.latest cown ≡ Some row → over row cown
  pub latest_is : (row cown : ℕ) → over row cown → (latest : ℕ) × (latest_at t.latest cown ≡ Some latest) × (row ≤ latest)
  pub chained : (earlier row cown : ℕ) → earlier < row → over earlier cown → over row cown → unended earlier
      → IsNextAfter over t.next earlier row cown
