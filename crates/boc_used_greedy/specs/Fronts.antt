-- How far a cown has come among the rows, where these are the starts so far.
use Rattle.std.specs.Prelude.{◌≡◌, ◌≢◌, ℕ, ◌+◌, ◌^◌, ◌<◌, ◌≤◌, ◌⊎◌, true, List, length, Option, Some, None, slice_get}
use Rattle.std.specs.List.{Contains}
use Rattle.boc_program.specs.declared.limits.TheConstants.{MOST_COWNS}
use Rattle.boc_runs.specs.declared.rows.Row.{Row}
use Rattle.boc_runs.specs.Rows.{cowns_of}
use Rattle.boc_plans.specs.Plans.{start_of}
use Rattle.boc_greedy.specs.Simulating.{later}
use Rattle.boc_uses.specs.declared.uses.Use.{Use}
use Rattle.boc_turns.specs.Turns.{use_of}
use Rattle.boc_turns.specs.Course.{wrote_cown}
use Rattle.boc_used_greedy.specs.declared.fronts.Front.{Front}
use Rattle.boc_used_greedy.specs.Ready.{Left, left, came}

-- what is known at a front of when rows have left its cown
abbrev pub left_of : Front → Left
left_of front = record { held = front.held; wrote = front.wrote }

-- no row that has started did so too late for sums of ticks
abbrev pub IsLowPlan : List Row → List ℕ → Type 0
IsLowPlan rows plan = (r : ℕ) → r < length rows → start_of plan r < later → start_of plan r < 2 ^ 61

-- a row holds the cown
abbrev pub Holds : List (Option Use) → List Row → ℕ → ℕ → Type 0
Holds holds rows c r = (u : Use) × (use_of rows holds r c ≡ Some u)

-- a row holds the cown, and wrote it, so that rows after it wait for it
pub record Blocks (rows : List Row) (holds : List (Option Use)) (c r : ℕ) : Type 0 where
  pub held : Holds holds rows c r
  pub wrote : wrote_cown rows r c ≡ true

-- a cown has come to a row, or to the end of all rows: those before it that hold the cown have started, and it is known when they have left it
pub record HasCome (rows : List Row) (holds : List (Option Use)) (plan : List ℕ) (c : ℕ) (front : Front) : Type 0 where
  pub below : front.at ≤ length rows
  pub user : front.at < length rows → Contains (cowns_of rows front.at) c
  pub started : (r : ℕ) → r < front.at → Holds holds rows c r → start_of plan r < later
  pub left_is : left_of front ≡ left rows holds plan c front.at

-- a row that holds the cown has not started
pub record Stops (rows : List Row) (holds : List (Option Use)) (plan : List ℕ) (c r : ℕ) : Type 0 where
  pub held : Holds holds rows c r
  pub not_started : start_of plan r ≡ later

-- the rows from the front up to another one know when the cown comes, since none of them has to wait for one of the others; the later ones have to
pub record AreTold (rows : List Row) (holds : List (Option Use)) (c at told : ℕ) : Type 0 where
  pub above : at < length rows → at < told
  pub below : told ≤ length rows
  pub inside : (b : ℕ) → at < b → b < told → Holds holds rows c b → Blocks rows holds c at ⊎ Blocks rows holds c b → ⊥
  pub outside : (b : ℕ) → told ≤ b → b < length rows → Holds holds rows c b
      → Blocks rows holds c at ⊎ ((q : ℕ) × (at < q) × (q ≤ b) × Blocks rows holds c q)

-- the cown has come as far as it can
pub record IsFront (rows : List Row) (holds : List (Option Use)) (plan : List ℕ) (c : ℕ) (front : Front) : Type 0 where
  pub come : HasCome rows holds plan c front
  pub stops : front.at < length rows → Stops rows holds plan c front.at
  pub told : AreTold rows holds c front.at front.told

-- the fronts of all cowns
pub record AreFronts (rows : List Row) (holds : List (Option Use)) (plan : List ℕ) (fronts : List Front) : Type 0 where
  pub whole : length fronts ≡ MOST_COWNS
  pub each : (c : ℕ) (front : Front) → slice_get fronts c ≡ Some front → IsFront rows holds plan c front

-- the list has the rows that hold the cown and haven't started, from one row on and before another
abbrev pub Notes : List Row → List (Option Use) → List ℕ → ℕ → ℕ → ℕ → List ℕ → Type 0
Notes rows holds plan c from to list = (b : ℕ) → from ≤ b → b < to → Stops rows holds plan c b → Contains list b

-- all numbers in a list are numbers of rows
abbrev pub AreRowsOf : List Row → List ℕ → Type 0
AreRowsOf rows list = (b : ℕ) → Contains list b → b < length rows

-- the later list has what the earlier one has
abbrev pub Has : List ℕ → List ℕ → Type 0
Has more list = (b : ℕ) → Contains list b → Contains more b

-- a tick from which on a row may start for the sake of a cown, or none where that isn't known
pub record IsAllowed (rows : List Row) (holds : List (Option Use)) (plan : List ℕ) (r c : ℕ) (tick : Option ℕ) : Type 0 where
  pub above : (t : ℕ) (u : Use) → tick ≡ Some t → use_of rows holds r c ≡ Some u → u.needed ≡ true → came rows holds plan r c + 1 ≤ t + u.first
  pub least : (t other : ℕ) → tick ≡ Some t → ((u : Use) → use_of rows holds r c ≡ Some u → u.needed ≡ true → came rows holds plan r c + 1 ≤ other + u.first)
      → t ≤ other
  pub low : (t : ℕ) → tick ≡ Some t → t < 2 ^ 63
  pub none : tick ≡ None → (u : Use) × (use_of rows holds r c ≡ Some u) × (u.needed ≡ true) × (later ≤ came rows holds plan r c)

-- the list has the rows that hold a cown and haven't started, from the first that wasn't told on, and before the first that isn't
abbrev pub AreNewlyTold : List Row → List (Option Use) → List ℕ → List Front → List Front → List ℕ → Type 0
AreNewlyTold rows holds plan fronts fronts' list = (c : ℕ) (x x' : Front) → slice_get fronts c ≡ Some x → slice_get fronts' c ≡ Some x'
    → Notes rows holds plan c x.told x'.told list

-- the later starts are the same, but for a row that hadn't started before
pub record IsOneMore (plan : List ℕ) (r : ℕ) (more : List ℕ) : Type 0 where
  pub not_started : start_of plan r ≡ later
  pub same : (q : ℕ) → q ≢ r → start_of more q ≡ start_of plan q
