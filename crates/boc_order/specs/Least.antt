-- A lower bound for the end of the behaviours of some rows, in whatever order they get their cowns.
use Rattle.std.specs.Prelude.{◌≡◌, ◌≢◌, ℕ, ◌+◌, ◌<◌, ◌≤◌, ◌⊎◌, max, min, Bool, true, false, List, [], length, map, filter, nat_eq, Option, Some, None}
use Rattle.std.specs.Prelude.{slice_index, slice_index_or}
use Rattle.std.specs.List.{list_any, sum_by}
use Rattle.std.specs.Option.{option_map_or}
use Rattle.boc_program.specs.declared.limits.TheConstants.{MOST_COWNS}
use Rattle.boc_runs.specs.declared.rows.Row.{Row}
use Rattle.boc_runs.specs.Rows.{offset_of, written_of}
use Rattle.boc_plans.specs.Plans.{start_of, end_of, IsChild, ConflictOn, IsEarliest, IsEnd}
use Rattle.boc_order.specs.declared.least.Busiest.{Busiest}
use Rattle.boc_order.specs.declared.least.Least.{Least}

-- a row that neither has nor wrote a cown
abbrev pub bare_row : Row → Row
bare_row x = record x { cowns = record { items = [] }; written = record { items = [] } }

-- the rows as if none had a cown: only the spawns order them
abbrev pub without_cowns : List Row → List Row
without_cowns rows = map bare_row rows

-- whether a row wrote a cown
abbrev pub wrote : ℕ → Row → Bool
wrote cown x = list_any (nat_eq cown) x.written.items

-- the earliest plan that the rows would have if none had a cown, and its end
pub record IsSpawnPlan (rows : List Row) (plan : List ℕ) (span : ℕ) : Type 0 where
  pub earliest : IsEarliest (without_cowns rows) plan
  pub ends : IsEnd (without_cowns rows) plan span

-- the ticks of the rows that wrote this cown, of which no two can be under way at once. (These are rows as plans see them: where cowns are exclusive,
-- each row wrote all it has.)
abbrev pub load_of : List Row → ℕ → ℕ
load_of rows cown = sum_by (λ x. x.ticks) (filter (wrote cown) rows)

-- ---- from when on a cown is held

-- whether this one of the rows wrote it
abbrev pub wrote_cown : List Row → ℕ → ℕ → Bool
wrote_cown rows cown r = list_any (nat_eq cown) (written_of rows r)

-- of those of the first n rows that pass a test one starts then, and none sooner
pub record IsLeastStart (passes : ℕ → Bool) (plan : List ℕ) (n first : ℕ) : Type 0 where
  pub row : ℕ
  pub below : row < n
  pub is_one : passes row ≡ true
  pub starts : start_of plan row ≡ first
  pub none_sooner : (r : ℕ) → r < n → passes r ≡ true → first ≤ start_of plan r

-- the least start of those of the first n rows that pass a test, or none where no row does
abbrev pub IsFirstStart : (ℕ → Bool) → List ℕ → ℕ → Option ℕ → Type 0
IsFirstStart passes plan n None = (r : ℕ) → r < n → passes r ≡ false
IsFirstStart passes plan n (Some first) = IsLeastStart passes plan n first

-- A tick before which no row that wrote the cown starts, in whatever order: the least start of one in this plan of the rows, in which only the spawns
-- order them; none where no row wrote it.
abbrev pub IsHeldFrom : List Row → List ℕ → ℕ → Option ℕ → Type 0
IsHeldFrom rows spawned cown first = IsFirstStart (wrote_cown rows cown) spawned (length rows) first

-- that tick; 0 where no row wrote the cown
abbrev pub start_or_0 : Option ℕ → ℕ
start_or_0 first = option_map_or (λ start. start) first 0

-- ---- the cown that is busy until the latest tick

-- For how long a cown is held by one row alone, from when on, and until when at the least: the rows that wrote it start no sooner than the first of them
-- can, and hold it one at a time.
pub record IsBusy (rows : List Row) (spawned : List ℕ) (busy : Busiest) : Type 0 where
  pub load : busy.load ≡ load_of rows busy.cown
  pub from : IsHeldFrom rows spawned busy.cown busy.from
  pub until : busy.until ≡ start_or_0 busy.from + busy.load

-- of the cowns below count this one is busy until the latest tick, and of several it has the least number
pub record IsBusiest (rows : List Row) (spawned : List ℕ) (count : ℕ) (busiest : Busiest) : Type 0 where
  pub below : busiest.cown < count
  pub is : IsBusy rows spawned busiest
  pub none_later : (other : Busiest) → other.cown < count → IsBusy rows spawned other → other.until ≤ busiest.until
  pub first : (other : Busiest) → other.cown < busiest.cown → IsBusy rows spawned other → other.until < busiest.until

-- that cown, where there is one
abbrev pub IsBusiestOf : List Row → List ℕ → ℕ → Option Busiest → Type 0
IsBusiestOf rows spawned count None = count ≡ 0
IsBusiestOf rows spawned count (Some busiest) = IsBusiest rows spawned count busiest

-- A lower bound for the end of the rows, in whatever order they get their cowns, of which so many are looked at: by the spawns alone, and by the cown that is
-- busy until the latest tick.
pub record IsLeast (rows : List Row) (count : ℕ) (least : Least) : Type 0 where
  pub spawned : List ℕ
  pub by_spawns : IsSpawnPlan rows spawned least.spawns
  pub busiest : IsBusiestOf rows spawned count least.busiest

-- the tick before which no order of the cowns ends: that of the spawns, or that until which the busiest cown is busy, whichever is later
abbrev pub tick_of : Least → ℕ
tick_of least = max least.spawns (option_map_or (λ busiest. busiest.until) least.busiest 0)

-- the plan keeps the spawns of the rows
pub record KeepsSpawns (rows : List Row) (plan : List ℕ) : Type 0 where
  pub whole : length plan ≡ length rows
  pub spawned : (a b : ℕ) → IsChild rows a b → start_of plan a + offset_of rows b ≤ start_of plan b

-- no two rows that conflict over a cown are under way at once, whichever comes first
abbrev pub KeepsApart : List Row → List ℕ → Type 0
KeepsApart rows plan = (a b c : ℕ) → a ≢ b → a < length rows → b < length rows → ConflictOn rows c a b →
    (end_of rows plan a ≤ start_of plan b) ⊎ (end_of rows plan b ≤ start_of plan a)

-- for each cown its load
pub record AreLoads (rows : List Row) (loads : List ℕ) : Type 0 where
  pub whole : length loads ≡ MOST_COWNS
  pub at : (cown : ℕ) → cown < MOST_COWNS → slice_index loads cown ≡ load_of rows cown

-- the sooner of a start and the one before it, if there was one
abbrev pub sooner : Option ℕ → ℕ → ℕ
sooner None start = start
sooner (Some first) start = min first start

-- for each cown the least start of those of the first n rows that wrote it, or none where no row did
pub record AreFirstStarts (rows : List Row) (starts : List ℕ) (n : ℕ) (firsts : List (Option ℕ)) : Type 0 where
  pub whole : length firsts ≡ MOST_COWNS
  pub at : (cown : ℕ) → cown < MOST_COWNS → IsFirstStart (wrote_cown rows cown) starts n (slice_index_or firsts cown None)

-- until when a cown is busy at the least, where these are the loads, and these the least starts
abbrev pub until_of : List ℕ → List (Option ℕ) → ℕ → ℕ
until_of loads firsts cown = start_or_0 (slice_index_or firsts cown None) + slice_index loads cown

-- what the loads and the least starts have of a cown
pub record AreOf (loads : List ℕ) (firsts : List (Option ℕ)) (busy : Busiest) : Type 0 where
  pub load : busy.load ≡ slice_index loads busy.cown
  pub from : busy.from ≡ slice_index_or firsts busy.cown None
  pub until : busy.until ≡ until_of loads firsts busy.cown

-- of the first count cowns this one is busy until the latest tick, and of several the first
pub record IsLatest (loads : List ℕ) (firsts : List (Option ℕ)) (count : ℕ) (busiest : Busiest) : Type 0 where
  pub below : busiest.cown < count
  pub is : AreOf loads firsts busiest
  pub none_later : (c : ℕ) → c < count → until_of loads firsts c ≤ busiest.until
  pub first : (c : ℕ) → c < busiest.cown → until_of loads firsts c < busiest.until

-- that cown, where there is one
abbrev pub IsLatestOf : List ℕ → List (Option ℕ) → ℕ → Option Busiest → Type 0
IsLatestOf loads firsts count None = count ≡ 0
IsLatestOf loads firsts count (Some busiest) = IsLatest loads firsts count busiest
