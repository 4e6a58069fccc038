-- An eager plan under way, from one row that is looked at to the next.
use Rattle.std.specs.Prelude.{◌≡◌, ◌≢◌, ◌⊎◌, ◌+◌, ◌*◌, ◌<◌, ◌≤◌, ℕ, cond, nat_lt, List, [], length, slice_get, slice_index, Some, None}
use Rattle.std.specs.List.{Contains, sum_by}
use Rattle.boc_program.specs.declared.limits.TheConstants.{MOST_COWNS, MOST_TICKS}
use Rattle.boc_runs.specs.declared.rows.Row.{Row}
use Rattle.boc_runs.specs.Rows.{cowns_of, offset_of, written_of}
use Rattle.boc_runs.specs.declared.siblings.Siblings.{Siblings}
use Rattle.boc_runs.specs.Siblings.{AreYoungers}
use Rattle.boc_plans.specs.Plans.{ConflictOn, IsChild, IsEnd, end_of, start_of}
use Rattle.boc_order.specs.Least.{wrote_cown}
use Rattle.boc_eager.specs.declared.course.Course.{Course}
use Rattle.boc_eager.specs.declared.line.Line.{Line}
use Rattle.boc_eager.specs.declared.place.Place.{Place}
use Rattle.boc_eager.specs.declared.place.Place.TheVariants.{Unspawned, New, First, FirstFor, BehindKin, BehindFor, Started}
use Rattle.boc_eager.specs.Eager.{IsEager, IsInTheWay, IsSpawnedBy}
use Rattle.boc_eager.specs.Kinds.{AreKinds}
use Rattle.boc_eager.specs.Lines.{behind_of, front_of}

-- a tick after every tick of a plan: 2 ^ 64 - 1
abbrev pub later : ℕ
later = 18446744073709551615

-- row r is at a place
abbrev pub IsAt : List Place → ℕ → Place → Type 0
IsAt places r place = slice_get places r ≡ Some place

-- tick t comes before tick u, or is the same, and row a has the lower number
abbrev pub IsBefore : ℕ → ℕ → ℕ → ℕ → Type 0
IsBefore t a u b = (t < u) ⊎ ((t ≡ u) × (a < b))

-- what a row waits for at a cown, as a number: twice the cown to read it, and one more to write it
abbrev pub wait_of : List Row → ℕ → ℕ → ℕ
wait_of rows r c = 2 * c + cond (wrote_cown rows c r) 1 0

-- the row may wait for this at one of its cowns
pub record WaitsAt (rows : List Row) (r wait : ℕ) : Type 0 where
  pub cown : ℕ
  pub own : Contains (cowns_of rows r) cown
  pub is : wait_of rows r cown ≡ wait

-- row r waits at one of its cowns for something that isn't free at tick t
pub record IsMissing (rows : List Row) (r : ℕ) (free : List ℕ) (t wait : ℕ) : Type 0 where
  pub waits : WaitsAt rows r wait
  pub held : t < slice_index free wait

-- all that row r may wait for is free at tick t
abbrev pub AreClear : List Row → ℕ → List ℕ → ℕ → Type 0
AreClear rows r free t = (c : ℕ) → Contains (cowns_of rows r) c → slice_index free (wait_of rows r c) ≤ t

-- whoever waits for this waits for row r, at one of the first j of its cowns: to write the cown, or to read what row r writes
pub record Touches (rows : List Row) (r j wait : ℕ) : Type 0 where
  pub i : ℕ
  pub below : i < j
  pub there : i < length (cowns_of rows r)
  pub at : (wait ≡ 2 * slice_index (cowns_of rows r) i + 1)
      ⊎ ((wait ≡ 2 * slice_index (cowns_of rows r) i) × Contains (written_of rows r) (slice_index (cowns_of rows r) i))

-- what is among these is free no sooner than this tick, and nothing else has changed
pub record IsRaised (Among : ℕ → Type 0) (end : ℕ) (old new : List ℕ) : Type 0 where
  pub whole : length new ≡ length old
  pub grows : (wait : ℕ) → slice_index old wait ≤ slice_index new wait
  pub raised : (wait : ℕ) → Among wait → end ≤ slice_index new wait
  pub was : (wait : ℕ) → (slice_index new wait ≡ slice_index old wait) ⊎ ((slice_index new wait ≡ end) × Among wait)

-- what waits for row r at the first j of its cowns is free no sooner than this tick, and nothing else has changed
abbrev pub AreRaised : List Row → ℕ → ℕ → ℕ → List ℕ → List ℕ → Type 0
AreRaised rows r end j old new = IsRaised (Touches rows r j) end old new

-- the children of row r below number n are looked at when they are spawned, where the row starts at tick t, and nothing else has changed
pub record AreSpawned (rows : List Row) (r t n : ℕ) (places places' : List Place) (next next' : List (ℕ × ℕ)) : Type 0 where
  pub whole : length places' ≡ length places
  pub child : (b : ℕ) → b < n → IsChild rows r b → IsAt places' b New × Contains next' (t + offset_of rows b, b)
  pub others : (b : ℕ) → (b < n → IsChild rows r b → ⊥) → slice_get places' b ≡ slice_get places b
  pub stays : (e : ℕ × ℕ) → Contains next e → Contains next' e
  pub was : (e : ℕ × ℕ) → Contains next' e → Contains next e ⊎ (IsChild rows r e.1 × (e.0 ≡ t + offset_of rows e.1))

-- so many lines, in which no row stands
pub record AreEmpty (count : ℕ) (lines : List Line) : Type 0 where
  pub whole : length lines ≡ count
  pub none_front : (k : ℕ) → front_of lines k ≡ None
  pub none_behind : (k : ℕ) → behind_of lines k ≡ []

-- ---- the plan so far

-- Up to row p at tick t the plan is eager: no row that has started had another one in its way, nor could it have started sooner. A row that hasn't had one in
-- its way, whenever it was spawned.
pub record IsEagerSoFar (rows : List Row) (starts : List ℕ) (t p : ℕ) : Type 0 where
  pub past : (b : ℕ) → b < length rows → start_of starts b < later → (start_of starts b < t) ⊎ ((start_of starts b ≡ t) × (b ≤ p))
  pub spawned : (b : ℕ) → b < length rows → start_of starts b < later → IsSpawnedBy rows starts (start_of starts b) b
  pub clear : (a b : ℕ) → b < length rows → start_of starts b < later → IsInTheWay rows starts (start_of starts b) a b → ⊥
  pub held : (b u : ℕ) → b < length rows → IsSpawnedBy rows starts u b → u < start_of starts b → IsBefore u b t p → (a : ℕ) × IsInTheWay rows starts u a b

-- from when on rows can read a cown, or write it: the last end of the rows that have started and that they conflict with over it
pub record AreFree (rows : List Row) (starts free : List ℕ) : Type 0 where
  pub whole : length free ≡ 2 * MOST_COWNS
  pub none_later : (a b c : ℕ) → a < length rows → b < length rows → start_of starts a < later → ConflictOn rows c a b
      → end_of rows starts a ≤ slice_index free (wait_of rows b c)
  pub reached : (b c : ℕ) → b < length rows → Contains (cowns_of rows b) c → (slice_index free (wait_of rows b c) ≡ 0)
      ⊎ ((a : ℕ) × (a < length rows) × (start_of starts a < later) × ConflictOn rows c a b × (end_of rows starts a ≡ slice_index free (wait_of rows b c)))

-- row r is spawned by tick u, and all that it may wait for is free
pub record CanStart (rows : List Row) (starts free : List ℕ) (u r : ℕ) : Type 0 where
  pub spawned : IsSpawnedBy rows starts u r
  pub clear : AreClear rows r free u

-- ---- where the rows are

-- row r is spawned, and has not started
pub record IsWaiting (rows : List Row) (starts : List ℕ) (t r : ℕ) : Type 0 where
  pub not_started : start_of starts r ≡ later
  pub spawned : IsSpawnedBy rows starts t r

-- row r is looked at, no later than at any tick of these from tick t on
pub record IsDue (next : List (ℕ × ℕ)) (t r : ℕ) (Ticks : ℕ → Type 0) : Type 0 where
  pub tick : ℕ
  pub queued : Contains next (tick, r)
  pub early : (u : ℕ) → t ≤ u → Ticks u → tick ≤ u

-- row r stands in this line behind a row with a lower number
pub record IsBehind (lines : List Line) (k r : ℕ) : Type 0 where
  pub stands : Contains (behind_of lines k) r
  pub front : ℕ
  pub is_front : front_of lines k ≡ Some front
  pub lower : front < r

-- what holds of a row at a place
abbrev pub Stands : List Row → Course → ℕ → Place → Type 0
Stands rows c r Unspawned = (start_of c.starts.items r ≡ later) × ((a : ℕ) → IsChild rows a r → start_of c.starts.items a ≡ later) × (0 < r)
Stands rows c r New = (start_of c.starts.items r ≡ later) × IsDue c.next.keys c.tick r (λ u. IsSpawnedBy rows c.starts.items u r)
Stands rows c r First = IsWaiting rows c.starts.items c.tick r × IsDue c.next.keys c.tick r (λ u. CanStart rows c.starts.items c.free.items u r)
Stands rows c r (FirstFor wait) = IsWaiting rows c.starts.items c.tick r × WaitsAt rows r wait
    × IsDue c.next.keys c.tick r (λ u. slice_index c.free.items wait ≤ u)
Stands rows c r BehindKin = IsWaiting rows c.starts.items c.tick r × IsBehind c.kin.items (slice_index c.kinds.items r) r
Stands rows c r (BehindFor wait) = IsWaiting rows c.starts.items c.tick r × WaitsAt rows r wait × IsBehind c.queues.items wait r
Stands rows c r Started = start_of c.starts.items r < later

-- row r is the first of its kind, or was before one with a lower number came
abbrev pub IsFirstOfKin : List Place → ℕ → Type 0
IsFirstOfKin places r = IsAt places r First ⊎ (((wait : ℕ) × IsAt places r (FirstFor wait)) ⊎ ((wait : ℕ) × IsAt places r (BehindFor wait)))

-- those that stand in the lines of the kinds are at their places
pub record AreKin (rows : List Row) (kinds : List ℕ) (places : List Place) (kin : List Line) : Type 0 where
  pub whole : length kin ≡ length rows
  pub behind : (k r : ℕ) → Contains (behind_of kin k) r → (r < length rows) × (slice_index kinds r ≡ k) × IsAt places r BehindKin
  pub front : (k r : ℕ) → front_of kin k ≡ Some r → (r < length rows) × (slice_index kinds r ≡ k) × IsFirstOfKin places r

-- those that stand in the lines at the cowns are at their places
pub record AreQueues (rows : List Row) (places : List Place) (queues : List Line) : Type 0 where
  pub whole : length queues ≡ 2 * MOST_COWNS
  pub behind : (wait r : ℕ) → Contains (behind_of queues wait) r → (r < length rows) × IsAt places r (BehindFor wait)
  pub front : (wait r : ℕ) → front_of queues wait ≡ Some r → (r < length rows) × IsAt places r (FirstFor wait)

-- row r is looked at after row p at tick t, when it is spawned, and no later than the end so far
pub record IsNext (rows : List Row) (starts : List ℕ) (t p end u r : ℕ) : Type 0 where
  pub there : r < length rows
  pub after : IsBefore t p u r
  pub spawned : IsSpawnedBy rows starts u r
  pub low : u ≤ end

-- how many rows have not started
abbrev pub count_left : List ℕ → ℕ
count_left starts = sum_by (λ start. cond (nat_lt start later) 0 1) starts

-- the last end of the rows that have started, which is low enough for those that are left
pub record IsEndSoFar (rows : List Row) (starts : List ℕ) (end : ℕ) : Type 0 where
  pub none_later : (r : ℕ) → r < length rows → start_of starts r < later → end_of rows starts r ≤ end
  pub reached : (end ≡ 0) ⊎ ((r : ℕ) × (r < length rows) × (start_of starts r < later) × (end_of rows starts r ≡ end))
  pub low : end + count_left starts * MOST_TICKS ≤ length rows * MOST_TICKS

-- ---- the whole

-- what doesn't change while a plan is made
pub record IsOfRows (rows : List Row) (starts : List ℕ) (places : List Place) (kinds : List ℕ) (siblings : Siblings) : Type 0 where
  pub starts_whole : length starts ≡ length rows
  pub places_whole : length places ≡ length rows
  pub kinds_are : AreKinds rows kinds
  pub youngers : AreYoungers rows siblings.firsts.items siblings.youngers.items

-- The plan is as far as it can be before the next row is looked at. Of one row, which is in hand, it isn't said where it stands.
pub record IsKeptBut (rows : List Row) (hand : ℕ) (c : Course) : Type 0 where
  pub of_rows : IsOfRows rows c.starts.items c.places.items c.kinds.items c.siblings
  pub so_far : IsEagerSoFar rows c.starts.items c.tick c.row
  pub free_are : AreFree rows c.starts.items c.free.items
  pub free_low : (wait : ℕ) → slice_index c.free.items wait ≤ c.end
  pub kin_are : AreKin rows c.kinds.items c.places.items c.kin.items
  pub queues_are : AreQueues rows c.places.items c.queues.items
  pub stands : (r : ℕ) (place : Place) → r < length rows → r ≢ hand → IsAt c.places.items r place → Stands rows c r place
  pub next_are : (u r : ℕ) → Contains c.next.keys (u, r) → IsNext rows c.starts.items c.tick c.row c.end u r
  pub ends : IsEndSoFar rows c.starts.items c.end
  pub tick_low : c.tick ≤ c.end
  pub row_there : c.row < length rows

-- the same, where no row is in hand
abbrev pub IsKept : List Row → Course → Type 0
IsKept rows c = IsKeptBut rows (length rows) c

-- what holds of the row that is looked at, by its place: if it is due, it is spawned, and has not started
abbrev pub InHand : List Row → Course → ℕ → Place → Type 0
InHand rows c r New = IsWaiting rows c.starts.items c.tick r
InHand rows c r First = IsWaiting rows c.starts.items c.tick r
InHand rows c r (FirstFor wait) = IsWaiting rows c.starts.items c.tick r × WaitsAt rows r wait
InHand rows c r Unspawned = Stands rows c r Unspawned
InHand rows c r BehindKin = Stands rows c r BehindKin
InHand rows c r (BehindFor wait) = Stands rows c r (BehindFor wait)
InHand rows c r Started = Stands rows c r Started

-- the plan is as far as it can be before row r is looked at, which is in hand
pub record IsInHand (rows : List Row) (r : ℕ) (c : Course) : Type 0 where
  pub kept : IsKeptBut rows r c
  pub is_row : c.row ≡ r
  pub there : r < length rows
  pub place : (place : Place) → IsAt c.places.items r place → InHand rows c r place

-- nothing has started, and main is in hand
pub record IsFirst (rows : List Row) (c : Course) : Type 0 where
  pub hand : IsInHand rows 0 c
  pub new : IsAt c.places.items 0 New

-- the row in hand is the first of its kind no more
pub record IsLetGo (rows : List Row) (r : ℕ) (old new : Course) : Type 0 where
  pub hand : IsInHand rows r new
  pub first : IsAt new.places.items r First
  pub not_front : (k : ℕ) → front_of new.kin.items k ≢ Some r
  pub free : new.free.items ≡ old.free.items
  pub tick : new.tick ≡ old.tick

-- the row in hand waits for nothing so far
pub record IsPassedOn (rows : List Row) (r : ℕ) (old new : Course) : Type 0 where
  pub hand : IsInHand rows r new
  pub first : IsAt new.places.items r First
  pub tick : new.tick ≡ old.tick
  pub row : new.row ≡ old.row

-- the row was looked at, and nothing is in hand; it is the last one that was looked at still
pub record IsLookedAt (rows : List Row) (old new : Course) : Type 0 where
  pub kept : IsKept rows new
  pub tick : new.tick ≡ old.tick
  pub row : new.row ≡ old.row

-- the next row is in hand
pub record GoesOn (rows : List Row) (old new : Course) (r : ℕ) : Type 0 where
  pub hand : IsInHand rows r new
  pub after : IsBefore old.tick old.row new.tick new.row

-- all have started, in the eager plan
pub record IsDone (rows : List Row) (starts : List ℕ) (end : ℕ) : Type 0 where
  pub eager : IsEager rows starts
  pub ends : IsEnd rows starts end
