-- Rows that are placed as early as they can be where one cown orders nobody.
use Rattle.std.specs.Prelude.{◌≡◌, ◌≢◌, ℕ, ◌+◌, ◌<◌, ◌≤◌, ◌⊎◌, ◌↔◌, Bool, false, IsTrue, List, length, take, slice_index, slice_index_or}
use Rattle.std.specs.Prelude.{map, vec_capacity}
use Rattle.std.specs.List.{Contains, sum_by}
use Rattle.boc_program.specs.declared.limits.TheConstants.{MOST_COWNS}
use Rattle.boc_runs.specs.declared.rows.Row.{Row}
use Rattle.boc_runs.specs.Rows.{offset_of, cowns_of, written_of}
use Rattle.boc_plans.specs.Plans.{start_of, end_of, IsChild, ConflictOn}
use Rattle.boc_sweep.specs.declared.freed.Placing.{Placing}
use Rattle.boc_sweep.specs.declared.lanes.TheConstants.{LANES}

-- row a comes before row b, and they conflict on some other cown than this one
pub record OrderedBut (cown : ℕ) (rows : List Row) (a b : ℕ) : Type 0 where
  pub before : a < b
  pub shared : (c : ℕ) × (c ≢ cown) × ConflictOn rows c a b

-- Row b can start at this tick if the cown orders nobody, and no sooner: it is the first tick of all, or that of the spawn, or one at which a row
-- ends that is ordered before it.
pub record IsStartBut (cown : ℕ) (rows : List Row) (starts : List ℕ) (b tick : ℕ) : Type 0 where
  pub spawned : (a : ℕ) → IsChild rows a b → start_of starts a + offset_of rows b ≤ tick
  pub in_order : (a : ℕ) → OrderedBut cown rows a b → end_of rows starts a ≤ tick
  pub tight : (tick ≡ 0) ⊎ ((a : ℕ) × IsChild rows a b × (start_of starts a + offset_of rows b ≡ tick))
      ⊎ ((a : ℕ) × OrderedBut cown rows a b × (end_of rows starts a ≡ tick))

-- the first n rows are placed so
pub record ArePlacedBut (cown : ℕ) (rows : List Row) (starts : List ℕ) (n : ℕ) : Type 0 where
  pub whole : length starts ≡ n
  pub at : (b : ℕ) → b < n → IsStartBut cown rows starts b (start_of starts b)

-- the latest end among those of the first n rows that have a property, and 0 where there are none
pub record IsLatestAmong (rows : List Row) (starts : List ℕ) (Has : ℕ → Type 0) (n latest : ℕ) : Type 0 where
  pub above : (a : ℕ) → a < n → Has a → end_of rows starts a ≤ latest
  pub reached : (latest ≡ 0) ⊎ ((a : ℕ) × (a < n) × Has a × (end_of rows starts a ≡ latest))

-- for each other cown the latest end among those of the first n rows that have it in a list of theirs, and 0 for the one that orders nobody
pub record AreHeldBut (cown : ℕ) (rows : List Row) (of : List Row → ℕ → List ℕ) (starts : List ℕ) (n : ℕ) (ends : List ℕ) : Type 0 where
  pub others : (c : ℕ) → c ≢ cown → IsLatestAmong rows starts (λ a. Contains (of rows a) c) n (slice_index ends c)
  pub freed : slice_index ends cown ≡ 0

-- how many cowns the first n rows have, each for itself
abbrev pub cowns_before : List Row → ℕ → ℕ
cowns_before rows n = sum_by (λ x. length x.cowns.items) (take n rows)

-- what stands in one of the lanes
abbrev pub in_lane : ℕ → List (List ℕ) → List ℕ
in_lane lane list = map (λ ticks. slice_index ticks lane) list

-- In this lane the first n rows are placed. It is known until when they need each cown, until when those of them that wrote it, and which of their
-- ends is the latest.
pub record IsPlacedIn (lane : ℕ) (rows : List Row) (n : ℕ) (placing : Placing) : Type 0 where
  pub placed : ArePlacedBut (slice_index placing.cowns lane) rows (in_lane lane placing.starts.items) n
  pub held_is : AreHeldBut (slice_index placing.cowns lane) rows cowns_of (in_lane lane placing.starts.items) n (in_lane lane placing.held.items)
  pub wrote_is : AreHeldBut (slice_index placing.cowns lane) rows written_of (in_lane lane placing.starts.items) n (in_lane lane placing.wrote.items)
  pub latest_is : IsLatestAmong rows (in_lane lane placing.starts.items) (λ a. a < length rows) n (slice_index placing.latest lane)

-- the first n rows are placed in every lane, there is room for all, and it is known how many cowns they have
pub record HasPlaced (rows : List Row) (n : ℕ) (placing : Placing) : Type 0 where
  pub in_lanes : (lane : ℕ) → lane < LANES → IsPlacedIn lane rows n placing
  pub enough : length rows ≤ vec_capacity placing.starts
  pub held_whole : length placing.held.items ≡ MOST_COWNS
  pub wrote_whole : length placing.wrote.items ≡ MOST_COWNS
  pub passed_is : placing.passed ≡ cowns_before rows n

-- a row that ends then was held up by each cown that it wrote until it was free
pub record HasWaited (rows : List Row) (row end : ℕ) (held wrote : List ℕ) : Type 0 where
  pub held_before : (c : ℕ) → Contains (written_of rows row) c → slice_index held c ≤ end
  pub wrote_before : (c : ℕ) → Contains (written_of rows row) c → slice_index wrote c ≤ end

-- a cown is free from the first tick on, and the ticks of the others stay
pub record IsFreed (cown : ℕ) (old new : List ℕ) : Type 0 where
  pub whole : length new ≡ length old
  pub freed : slice_index new cown ≡ 0
  pub others : (c : ℕ) → c ≢ cown → slice_index new c ≡ slice_index old c

-- the ticks of some cowns are raised to an end, where they are below it, and the others stay
pub record AreRaised (Own : ℕ → Type 0) (end : ℕ) (old new : List ℕ) : Type 0 where
  pub whole : length new ≡ length old
  pub above : (c : ℕ) → slice_index old c ≤ slice_index new c
  pub own : (c : ℕ) → Own c → end ≤ slice_index new c
  pub reached : (c : ℕ) → (slice_index new c ≡ slice_index old c) ⊎ (Own c × (slice_index new c ≡ end))

-- it is told for each cown of a row, in their order, whether the row wrote it
pub record TellsWritten (rows : List Row) (r : ℕ) (written : List Bool) : Type 0 where
  pub enough : length (cowns_of rows r) ≤ length written
  pub at : (p : ℕ) → p < length (cowns_of rows r)
      → IsTrue (slice_index_or written p false) ↔ Contains (written_of rows r) (slice_index (cowns_of rows r) p)

-- the same of the first n rows, one row behind the other
pub record TellWritten (rows : List Row) (n : ℕ) (written : List Bool) : Type 0 where
  pub whole : length written ≡ cowns_before rows n
  pub at : (r p : ℕ) → r < n → p < length (cowns_of rows r)
      → IsTrue (slice_index_or written (cowns_before rows r + p) false) ↔ Contains (written_of rows r) (slice_index (cowns_of rows r) p)
