-- When rows start in a timed run, and on which workers.
use Rattle.std.specs.Prelude.{◌≡◌, ◌≢◌, ℕ, ◌+◌, ◌<◌, ◌^◌, max, Bool, true, false, length, Option, Some, None, slice_get}
use Rattle.std.specs.List.{All}
use Rattle.boc_timed.specs.declared.timetable.Timetable.{Timetable}

-- each row that has a start has a worker, and no start is so late that ticks could not be added
pub record IsEven (t : Timetable) : Type 0 where
  pub even : length t.starts.items ≡ length t.workers.items
  pub low : All (λ start. start < 2 ^ 62) t.starts.items

-- a row starts at this time, on this worker; what is noted of the others stays
pub record IsNoted (old : Timetable) (row time worker : ℕ) (new : Timetable) : Type 0 where
  pub p_same : new.p ≡ old.p
  pub many : length new.starts.items ≡ max (length old.starts.items) (row + 1)
  pub start : slice_get new.starts.items row ≡ Some time
  pub on : slice_get new.workers.items row ≡ Some worker
  pub starts : (other : ℕ) → other ≢ row → other < length old.starts.items → slice_get new.starts.items other ≡ slice_get old.starts.items other
  pub workers : (other : ℕ) → other ≢ row → other < length old.starts.items → slice_get new.workers.items other ≡ slice_get old.workers.items other

-- where a worker was idle and serves a row now, that is noted; and else nothing is
abbrev pub NotesStart : Timetable → Bool → Option ℕ → ℕ → ℕ → Timetable → Type 0
NotesStart old true (Some row) time worker new = IsNoted old row time worker new
NotesStart old true None time worker new = new ≡ old
NotesStart old false row time worker new = new ≡ old
