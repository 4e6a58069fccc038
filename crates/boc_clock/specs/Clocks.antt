-- When workers are due.
use Rattle.std.specs.Prelude.{ℕ, ◌+◌, ◌*◌, ◌^◌, ◌<◌, ◌≤◌, Bool, true, false, List, length, replicate, Option, Some, None, slice_set, slice_index_or}
use Rattle.boc_program.specs.declared.limits.TheConstants.{MOST_RUNNERS}
use Rattle.boc_clock.specs.declared.clocks.Clocks.{Clocks}

-- the clocks before the first step: it is 0, and all are idle
abbrev pub first_clocks : Clocks
first_clocks = record { present = 0; since = replicate MOST_RUNNERS 0; due = replicate MOST_RUNNERS None }

-- when the call of a worker is due, if it is busy
abbrev pub due_of : Clocks → ℕ → Option ℕ
due_of c w = slice_index_or c.due w None

-- when a worker started the row that it serves
abbrev pub since_of : Clocks → ℕ → ℕ
since_of c w = slice_index_or c.since w 0

-- ---- who is due first

-- at this present time, when the next step of a worker is due: that of its call, if it is busy, and else now
abbrev pub time_if : ℕ → Option ℕ → ℕ
time_if now None = now
time_if now (Some due) = due

-- twice that, and one more where it is idle
abbrev pub rank_if : ℕ → Option ℕ → ℕ
rank_if now None = 2 * now + 1
rank_if now (Some due) = 2 * due

-- when the next step of a worker is due
abbrev pub time_of : Clocks → ℕ → ℕ
time_of c w = time_if c.present (due_of c w)

-- the rank of a worker: it orders workers by their times, and of those that are due at one time the busy ones before the idle ones
abbrev pub rank : Clocks → ℕ → ℕ
rank c w = rank_if c.present (due_of c w)

-- of some workers the one at this place is due first, and before those of its rank that stand behind it
pub record IsDueFirst (c : Clocks) (movers : List ℕ) (place : ℕ) : Type 0 where
  pub there : place < length movers
  pub least : (k : ℕ) → k < length movers → rank c (slice_index_or movers place 0) ≤ rank c (slice_index_or movers k 0)
  pub first : (k : ℕ) → k < place → rank c (slice_index_or movers place 0) < rank c (slice_index_or movers k 0)

-- ---- a step

-- since when a worker serves its row, behind a step: where it was idle, since this one
abbrev pub since_behind : ℕ → ℕ → Option ℕ → ℕ
since_behind now since None = now
since_behind now since (Some due) = since

-- when its call is due, behind a step: nothing where it serves no row; that of the call that begins there; else as before
abbrev pub due_behind : ℕ → Option ℕ → Bool → Option ℕ → Option ℕ
due_behind since due false call = None
due_behind since due true None = due
due_behind since due true (Some ticks) = Some (since + ticks)

-- The clocks behind the next step of a worker: it is the time of that step. Whether the worker serves a row then is told, and at how many ticks of that
-- row the next call is due, where one begins.
abbrev pub moved_on : Clocks → ℕ → Bool → Option ℕ → Clocks
moved_on c w serves call =
    let since : ℕ = since_behind c.present (since_of c w) (due_of c w) in
    record {
      present = time_of c w;
      since = slice_set c.since w since;
      due = slice_set c.due w (due_behind since (due_of c w) serves call);
    }

-- ---- how late it can be

-- as many ticks as no body has
abbrev pub MANY_TICKS : ℕ
MANY_TICKS = 2 ^ 32

-- what a time that is there is at most
abbrev pub IfDue : Option ℕ → ℕ → Type 0
IfDue None most = Unit {0}
IfDue (Some due) most = due ≤ most

-- where so many steps were made, it isn't later than as many times those ticks, and nobody is due later than once more
pub record AreWithin (c : Clocks) (steps : ℕ) : Type 0 where
  pub present : c.present ≤ MANY_TICKS * steps
  pub since : (w : ℕ) → w < MOST_RUNNERS → since_of c w ≤ MANY_TICKS * steps
  pub due : (w : ℕ) → w < MOST_RUNNERS → IfDue (due_of c w) (MANY_TICKS * steps + MANY_TICKS)
