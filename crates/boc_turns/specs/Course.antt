-- The pass over the rows: when cowns come to a row, and what is known of the rows so far.
use Rattle.std.specs.Prelude.{◌≡◌, ℕ, ◌+◌, ◌-◌, ◌*◌, ◌<◌, ◌≤◌, nat_eq, Bool, false, cond, List, length, take, drop}
use Rattle.std.specs.Prelude.{Option, Some, None, slice_get, slice_index, slice_index_or, vec_capacity}
use Rattle.std.specs.List.{Contains, list_any}
use Rattle.std.specs.Option.{option_map_or}
use Rattle.boc_program.specs.declared.limits.TheConstants.{MOST_COWNS, MOST_TICKS}
use Rattle.boc_runs.specs.declared.rows.Row.{Row}
use Rattle.boc_runs.specs.Rows.{ticks_of, cowns_of, written_of}
use Rattle.boc_uses.specs.declared.uses.Use.{Use}
use Rattle.boc_turns.specs.declared.pace.Wait.{Wait}
use Rattle.boc_turns.specs.declared.pace.Pace.{Pace}
use Rattle.boc_turns.specs.declared.coming.Coming.{Coming}
use Rattle.boc_turns.specs.declared.coming.Hold.{Hold}
use Rattle.boc_turns.specs.declared.course.Course.{Course}
use Rattle.boc_turns.specs.Pace.{made_by, hold_of}
use Rattle.boc_turns.specs.Turns.{Times, IsTurn, over, KeepsTurns, KeepsRow, IsNoLater, IsOverBy, cowns_before}

-- ---- the cowns that come to a row

-- the cowns that are marked
abbrev pub marked : List Bool → ℕ → Bool
marked marks c = slice_index_or marks c false

-- whether a row wrote a cown
abbrev pub wrote_cown : List Row → ℕ → ℕ → Bool
wrote_cown rows r c = list_any (nat_eq c) (written_of rows r)

-- How a cown comes to a row that holds it so: if the row writes it, when all that had it have left it, else when all that wrote it have.
abbrev pub coming_by : List Row → List ℕ → List ℕ → ℕ → ℕ → Hold → Coming
coming_by rows held wrote r c hold = record {
  cown = c;
  writes = wrote_cown rows r c;
  hold = hold;
  came = cond (wrote_cown rows r c) (slice_index held c) (slice_index wrote c);
}

-- so the first i of the cowns of a row come, with these uses, in their order
pub record AreComing (rows : List Row) (marks : List Bool) (uses : List (Option Use)) (held wrote : List ℕ) (r i : ℕ) (coming : List Coming) : Type 0 where
  pub whole : length coming ≡ i
  pub each : (k : ℕ) (x : Coming) → slice_get coming k ≡ Some x
      → x ≡ coming_by rows held wrote r (slice_index (cowns_of rows r) k)
      (hold_of (marked marks (slice_index (cowns_of rows r) k)) (slice_index_or uses k None))

-- ---- the rows so far

-- by this tick row a has left a cown: it has ended, if the cown is not relaxed, and its turn there is over
pub record HasLeft (rows : List Row) (uses : List (Option Use)) (relaxed : ℕ → Bool) (times : Times) (c tick a : ℕ) : Type 0 where
  pub whole : relaxed c ≡ false → Contains (cowns_of rows a) c → times.made a (ticks_of rows a) ≤ tick
  pub turn : (u : Use) → IsTurn rows uses relaxed a c u → over times a c u ≤ tick

-- the first tick by which those of the first n rows that pass have left a cown
pub record IsLatest (rows : List Row) (uses : List (Option Use)) (relaxed : ℕ → Bool) (times : Times) (Passes : ℕ → Type 0) (n c latest : ℕ) : Type 0 where
  pub above : (a : ℕ) → a < n → Passes a → HasLeft rows uses relaxed times c latest a
  pub least : (tick : ℕ) → ((a : ℕ) → a < n → Passes a → HasLeft rows uses relaxed times c tick a) → latest ≤ tick

-- no time of row r is later than all rows up to it allow
pub record IsLowRow (rows : List Row) (uses : List (Option Use)) (relaxed : ℕ → Bool) (times : Times) (r : ℕ) : Type 0 where
  pub ticks : (k : ℕ) → times.made r k ≤ r * MOST_TICKS + k
  pub turns : (c : ℕ) (u : Use) → IsTurn rows uses relaxed r c u → over times r c u ≤ (r + 1) * MOST_TICKS

-- The first n rows keep the rules, as early as they can. It is known when they have left each cown, and when those of them that wrote it have.
pub record HavePassed (rows : List Row) (uses : List (Option Use)) (relaxed : ℕ → Bool) (times : Times) (n : ℕ) (held wrote : List ℕ) : Type 0 where
  pub keeps : (b : ℕ) → b < n → KeepsRow rows uses relaxed times b
  pub least : (others : Times) → KeepsTurns rows uses relaxed others → (b : ℕ) → b < n → IsNoLater rows uses relaxed times others b
  pub low : (b : ℕ) → b < n → IsLowRow rows uses relaxed times b
  pub held_is : (c : ℕ) → c < MOST_COWNS → IsLatest rows uses relaxed times (λ a. Unit {0}) n c (slice_index held c)
  pub wrote_is : (c : ℕ) → c < MOST_COWNS → IsLatest rows uses relaxed times (λ a. Contains (written_of rows a) c) n c (slice_index wrote c)

-- the first tick by which the first n rows have ended and their turns are over
pub record IsLast (rows : List Row) (uses : List (Option Use)) (relaxed : ℕ → Bool) (times : Times) (n last : ℕ) : Type 0 where
  pub above : (r : ℕ) → r < n → IsOverBy rows uses relaxed times last r
  pub least : (tick : ℕ) → ((r : ℕ) → r < n → IsOverBy rows uses relaxed times tick r) → last ≤ tick

-- the waits of a row, of all that are kept
abbrev pub waits_of : Pace → List Wait → List Wait
waits_of pace waits = take (pace.end - pace.first) (drop pace.first waits)

-- when a row that is placed has made this many of its ticks
abbrev pub made_in : Course → ℕ → ℕ → ℕ
made_in course r ticks = option_map_or (λ pace. made_by pace.start (waits_of pace course.waits.items) ticks) (slice_get course.paces.items r) 0

-- a row keeps this pace
pub record IsPace (waits : List Wait) (made : ℕ → ℕ) (pace : Pace) : Type 0 where
  pub rises : pace.first ≤ pace.end
  pub within : pace.end ≤ length waits
  pub made_is : (k : ℕ) → made k ≡ made_by pace.start (waits_of pace waits) k

-- the first n rows have their paces
pub record HavePaces (times : Times) (n : ℕ) (paces : List Pace) (waits : List Wait) : Type 0 where
  pub whole : length paces ≡ n
  pub each : (r : ℕ) (pace : Pace) → slice_get paces r ≡ Some pace → IsPace waits (times.made r) pace

-- the first n rows are placed
pub record HasCourse (rows : List Row) (uses : List (Option Use)) (relaxed : ℕ → Bool) (n : ℕ) (course : Course) : Type 0 where
  pub times : Times
  pub have_passed : HavePassed rows uses relaxed times n course.held.items course.wrote.items
  pub is_last : IsLast rows uses relaxed times n course.last
  pub have_paces : HavePaces times n course.paces.items course.waits.items
  pub enough : length rows ≤ vec_capacity course.paces
  pub held_whole : length course.held.items ≡ MOST_COWNS
  pub wrote_whole : length course.wrote.items ≡ MOST_COWNS
  pub passed_is : course.passed ≡ cowns_before rows n
