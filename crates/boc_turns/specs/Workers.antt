-- Greedy plans for p workers where some cowns are relaxed: greedy as ever, but for which rows are ready. boc_used_greedy finds their ends.
use Rattle.std.specs.Prelude.{◌≡◌, ℕ, ◌+◌, ◌<◌, ◌≤◌, Bool, true, false, List, length, Option, Some}
use Rattle.std.specs.List.{Contains}
use Rattle.boc_runs.specs.declared.rows.Row.{Row}
use Rattle.boc_runs.specs.Rows.{offset_of}
use Rattle.boc_plans.specs.Plans.{start_of, end_of, IsChild, ConflictOn}
use Rattle.boc_plans.specs.Greedy.{worker_of, IsFree, IsTaken}
use Rattle.boc_uses.specs.declared.uses.Use.{Use}
use Rattle.boc_turns.specs.Turns.{use_of, Times, over, IsTurn, KeepsTurn, AreOverBy}

-- the times of a plan in which no body waits: a row makes its ticks one after the other from its start on, and its turns begin then
abbrev pub times_of : List ℕ → (ℕ → ℕ → ℕ) → Times
times_of plan begun = record { made = λ r ticks. start_of plan r + ticks; begun = begun }

-- the rows that row b is ordered after over a cown, and that have a turn there, have it over by this tick
abbrev pub TurnsAreOver : List Row → List (Option Use) → List ℕ → (ℕ → ℕ → ℕ) → ℕ → ℕ → ℕ → Type 0
TurnsAreOver rows uses plan begun b c tick = (a : ℕ) (other : Use) → a < b → ConflictOn rows c a b → use_of rows uses a c ≡ Some other
    → over (times_of plan begun) a c other ≤ tick

-- a row's turn keeps its rule, and begins no later than it has to
pub record IsBegun (rows : List Row) (uses : List (Option Use)) (plan : List ℕ) (begun : ℕ → ℕ → ℕ) (b c : ℕ) (u : Use) : Type 0 where
  pub keeps : KeepsTurn rows uses (times_of plan begun) b c u
  pub least : (tick : ℕ) → start_of plan b + u.first ≤ tick + 1 → TurnsAreOver rows uses plan begun b c tick → begun b c ≤ tick

-- It is known at tick t when row a's turn at a cown is over: it is one of some rows that have all started by then, and that contain, for each one that
-- doesn't need the cown's value, the rows with a turn there that it is ordered after.
pub record IsFixed (rows : List Row) (uses : List (Option Use)) (plan : List ℕ) (t c a : ℕ) : Type 0 where
  pub known : List ℕ
  pub among_them : Contains known a
  pub begun : (r : ℕ) → Contains known r → start_of plan r ≤ t
  pub before : (r q : ℕ) (u v : Use) → Contains known r → use_of rows uses r c ≡ Some u → u.needed ≡ false → q < r → ConflictOn rows c q r
      → use_of rows uses q c ≡ Some v → Contains known q

-- Row r has not started before tick t, and can start there: its spawn has come, and the rows that are ordered before it over cowns that are not relaxed have
-- ended. At each relaxed cown that it needs, it is known when the turns of the rows before it are over, and they are when it begins the tick of its first use.
pub record IsReadyThen (rows : List Row) (uses : List (Option Use)) (relaxed : ℕ → Bool) (plan : List ℕ) (begun : ℕ → ℕ → ℕ) (t r : ℕ) : Type 0 where
  pub there : r < length rows
  pub waits : t ≤ start_of plan r
  pub spawned : (a : ℕ) → IsChild rows a r → start_of plan a + offset_of rows r ≤ t
  pub in_order : (a c : ℕ) → a < r → ConflictOn rows c a r → relaxed c ≡ false → end_of rows plan a ≤ t
  pub known : (a c : ℕ) (u other : Use) → IsTurn rows uses relaxed r c u → u.needed ≡ true → a < r → ConflictOn rows c a r
      → use_of rows uses a c ≡ Some other → IsFixed rows uses plan t c a
  pub in_turn : (c tick : ℕ) (u : Use) → IsTurn rows uses relaxed r c u → u.needed ≡ true → tick + 1 ≡ t + u.first → TurnsAreOver rows uses plan begun r c tick

-- at tick t the least ready rows start, as many as there are free workers, and in their order they are given the least of those
pub record IsGreedyThen (rows : List Row) (uses : List (Option Use)) (relaxed : ℕ → Bool) (p : ℕ) (plan workers : List ℕ) (begun : ℕ → ℕ → ℕ) (t : ℕ) : Type 0
  where
    pub ready : (r : ℕ) → r < length rows → start_of plan r ≡ t → IsReadyThen rows uses relaxed plan begun t r
    pub free : (r : ℕ) → r < length rows → start_of plan r ≡ t → IsFree rows p plan workers t (worker_of workers r)
    pub rising : (a b : ℕ) → a < b → b < length rows → start_of plan a ≡ t → start_of plan b ≡ t → worker_of workers a < worker_of workers b
    pub least_rows : (a b : ℕ) → IsReadyThen rows uses relaxed plan begun t b → t < start_of plan b → a < length rows → start_of plan a ≡ t → a < b
    pub none_idle : (b w : ℕ) → IsReadyThen rows uses relaxed plan begun t b → t < start_of plan b → IsFree rows p plan workers t w
        → IsTaken rows plan workers t w
    pub least_workers : (r w : ℕ) → r < length rows → start_of plan r ≡ t → IsFree rows p plan workers t w → w < worker_of workers r
        → IsTaken rows plan workers t w

-- the end of the greedy plan for p workers where these cowns are relaxed: the first tick by which all rows have ended and all turns are over
pub record IsUsedGreedyEnd (rows : List Row) (uses : List (Option Use)) (relaxed : ℕ → Bool) (p end : ℕ) : Type 0 where
  pub plan : List ℕ
  pub workers : List ℕ
  pub begun : ℕ → ℕ → ℕ
  pub whole : length plan ≡ length rows
  pub all_served : length workers ≡ length rows
  pub turns : (b c : ℕ) (u : Use) → b < length rows → IsTurn rows uses relaxed b c u → IsBegun rows uses plan begun b c u
  pub at : (t : ℕ) → IsGreedyThen rows uses relaxed p plan workers begun t
  pub all_over : AreOverBy rows uses relaxed (times_of plan begun) end
  pub none_sooner : (tick : ℕ) → AreOverBy rows uses relaxed (times_of plan begun) tick → end ≤ tick
