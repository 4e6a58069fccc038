-- When rows can start, where these are the starts so far: rows that haven't started stand at a tick after every tick of a plan. All is by the numbers of rows,
-- so it can be computed: what a row waits for are rows with smaller numbers.
use Rattle.std.specs.Prelude.{◌≡◌, ℕ, zero, suc, ◌+◌, ◌-◌, ◌<◌, ◌≤◌, max, nat_lt, Bool, true, cond, List, length, map, Option, Some, None}
use Rattle.boc_runs.specs.declared.rows.Row.{Row}
use Rattle.boc_runs.specs.Rows.{parent_of, offset_of}
use Rattle.boc_plans.specs.Plans.{start_of, IsChild}
use Rattle.boc_plans.specs.Greedy.{worker_of, IsFree, IsTaken}
use Rattle.boc_greedy.specs.Simulating.{later}
use Rattle.boc_uses.specs.declared.uses.Use.{Use}
use Rattle.boc_turns.specs.Turns.{use_of}
use Rattle.boc_turns.specs.Course.{wrote_cown}

-- when the rows so far have left a cown, and when those of them that wrote it have
pub record Left : Type 0 where
  pub held : ℕ
  pub wrote : ℕ

-- the tick from which on a row may have a cown: after all that had it, if the row writes it, else after all that wrote it
abbrev pub came_by : Bool → Left → ℕ
came_by writes x = cond writes x.held x.wrote

-- When a turn is over of a row that starts then, where the cown comes at a tick: it begins then, or when the body begins the tick of its first use, whichever
-- is later, and takes as many ticks as there are from the first use to the last.
abbrev pub over_from : Use → ℕ → ℕ → ℕ
over_from u start came = max came (start + u.first - 1) + (u.last + 1 - u.first)

-- the same after one more row, which holds the cown so
abbrev pub left_after : Option Use → Bool → ℕ → Left → Left
left_after None writes start x = x
left_after (Some u) writes start x = record {
  held = max x.held (over_from u start (came_by writes x));
  wrote = cond writes (max x.wrote (over_from u start (came_by writes x))) x.wrote;
}

-- when the first n rows have left a cown
abbrev pub left : List Row → List (Option Use) → List ℕ → ℕ → ℕ → Left
left rows holds plan c zero = record { held = 0; wrote = 0 }
left rows holds plan c (suc n) = left_after (use_of rows holds n c) (wrote_cown rows n c) (start_of plan n) (left rows holds plan c n)

-- when a cown comes to a row
abbrev pub came : List Row → List (Option Use) → List ℕ → ℕ → ℕ → ℕ
came rows holds plan r c = came_by (wrote_cown rows r c) (left rows holds plan c r)

-- when a row's turn at a cown is over
abbrev pub left_at : List Row → List (Option Use) → List ℕ → ℕ → ℕ → Use → ℕ
left_at rows holds plan r c u = over_from u (start_of plan r) (came rows holds plan r c)

-- by tick t a row can start: it is spawned, and each cown that it needs comes when it begins the tick of its first use, or earlier
pub record IsReadyBy (rows : List Row) (holds : List (Option Use)) (plan : List ℕ) (t r : ℕ) : Type 0 where
  pub spawned : 0 < r → start_of plan (parent_of rows r) + offset_of rows r ≤ t
  pub in_turn : (c : ℕ) (u : Use) → use_of rows holds r c ≡ Some u → u.needed ≡ true → came rows holds plan r c + 1 ≤ t + u.first

-- this is the first tick by which it can
pub record IsReadyFrom (rows : List Row) (holds : List (Option Use)) (plan : List ℕ) (t r : ℕ) : Type 0 where
  pub ready : IsReadyBy rows holds plan t r
  pub least : (tick : ℕ) → IsReadyBy rows holds plan tick r → t ≤ tick

-- the starts by tick t, where the other rows haven't started
abbrev pub so_far : ℕ → List ℕ → List ℕ
so_far t plan = map (λ s. cond (nat_lt t s) later s) plan

-- row r has not started before tick t, and can start there, by the starts so far
pub record CanStartAt (rows : List Row) (holds : List (Option Use)) (plan : List ℕ) (t r : ℕ) : Type 0 where
  pub there : r < length rows
  pub waits : t ≤ start_of plan r
  pub ready : IsReadyBy rows holds (so_far t plan) t r

-- at tick t the least of the rows that can start do, as many as there are free workers, and in their order they are given the least of those
pub record IsGreedyBy (rows : List Row) (holds : List (Option Use)) (p : ℕ) (plan workers : List ℕ) (t : ℕ) : Type 0 where
  pub ready : (r : ℕ) → r < length rows → start_of plan r ≡ t → CanStartAt rows holds plan t r
  pub free : (r : ℕ) → r < length rows → start_of plan r ≡ t → IsFree rows p plan workers t (worker_of workers r)
  pub rising : (a b : ℕ) → a < b → b < length rows → start_of plan a ≡ t → start_of plan b ≡ t → worker_of workers a < worker_of workers b
  pub least_rows : (a b : ℕ) → CanStartAt rows holds plan t b → t < start_of plan b → a < length rows → start_of plan a ≡ t → a < b
  pub none_idle : (b w : ℕ) → CanStartAt rows holds plan t b → t < start_of plan b → IsFree rows p plan workers t w → IsTaken rows plan workers t w
  pub least_workers : (r w : ℕ) → r < length rows → start_of plan r ≡ t → IsFree rows p plan workers t w → w < worker_of workers r
      → IsTaken rows plan workers t w
