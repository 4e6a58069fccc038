-- The rules that the events of a run keep, and the rows that they make.
use Rattle.std.specs.Prelude.{◌≡◌, ℕ, ◌^◌, ◌<◌, ◌≤◌, List, [], ◌∷◌, ◌++◌, length, All, Option, Some, slice_get, option_map}
use Rattle.boc_program.specs.declared.limits.TheConstants.{MOST_HELD, MOST_ROWS, MOST_TICKS}
use Rattle.std.specs.Option.{option_map_or}
use Rattle.boc_program.specs.declared.body.EndStatus.{EndStatus}
use Rattle.boc_program.specs.declared.body.EndStatus.TheVariants as statuses
use Rattle.boc_runs.specs.declared.event.Event.{Event}
use Rattle.boc_runs.specs.declared.event.Event.TheVariants.{Spawn, Start, End}
use Rattle.boc_runs.specs.declared.event.BrokenRule.{BrokenRule}
use Rattle.boc_runs.specs.declared.event.BrokenRule.TheVariants as rules
use Rattle.boc_program.specs.Cowns.{AreCowns, AreAmong}
use Rattle.boc_program.specs.Changed.{changed}
use Rattle.boc_runs.specs.Lives.{Life, Pending, Running, Ended, MayStart, AreOver}

-- the numbers of an event have 32 bits, and it names no more cowns than a behaviour may have
abbrev pub HasBounds : Event → Type 0
HasBounds (Spawn row parent offset cowns) =
    (row < 2 ^ 32) × (parent < 2 ^ 32) × (offset < 2 ^ 32) × All (λ c. c < 2 ^ 32) cowns.items × (length cowns.items ≤ MOST_HELD)
HasBounds (Start row) = row < 2 ^ 32
HasBounds (End row ticks status written) =
    (row < 2 ^ 32) × (ticks < 2 ^ 32) × All (λ c. c < 2 ^ 32) written.items × (length written.items ≤ MOST_HELD)

-- a row of a run under way: who spawned it, the offset of its last child (0 where it has none), and from its end on its ticks, its status and the cowns that it
-- wrote
pub record Entry : Type 0 where
  pub parent : ℕ
  pub offset : ℕ
  pub cowns : List ℕ
  pub life : Life
  pub last : ℕ
  pub ticks : ℕ
  pub status : EndStatus
  pub written : List ℕ

-- a row that was just spawned
abbrev pub pending : ℕ → ℕ → List ℕ → Entry
pending parent offset cowns = record {
  parent = parent;
  offset = offset;
  cowns = cowns;
  life = Pending;
  last = 0;
  ticks = 0;
  status = statuses.Done;
  written = [];
}

-- the rows after an event
abbrev pub after : List Entry → Event → List Entry
after rows (Spawn row parent offset cowns) =
    changed rows parent (λ e. record e { last = offset }) (slice_get rows parent) ++ pending parent offset cowns.items ∷ []
after rows (Start row) = changed rows row (λ e. record e { life = Running }) (slice_get rows row)
after rows (End row ticks status written) =
    changed rows row (λ e. record e { life = Ended; ticks = ticks; status = status; written = written.items }) (slice_get rows row)

-- the rows after further events
abbrev pub after_all : List Entry → List Event → List Entry
after_all rows [] = rows
after_all rows (event ∷ events) = after_all (after rows event) events

-- the rows that a log makes
abbrev pub entries : List Event → List Entry
entries log = after_all [] log

-- what has become of row r, if it is there
abbrev pub life_of : List Entry → ℕ → Option Life
life_of rows r = option_map (λ e. e.life) (slice_get rows r)

-- the cowns of row r
abbrev pub entry_cowns : List Entry → ℕ → List ℕ
entry_cowns rows r = option_map_or (λ e. e.cowns) (slice_get rows r) []

-- the offset of row r's last child
abbrev pub last_of : List Entry → ℕ → ℕ
last_of rows r = option_map_or (λ e. e.last) (slice_get rows r) 0

-- a parent of the next row: a running one; main's is 0
abbrev pub IsParent : List Entry → ℕ → Type 0
IsParent [] parent = parent ≡ 0
IsParent (main ∷ others) parent = life_of (main ∷ others) parent ≡ Some Running

-- an offset of the next row: above that of the parent's last child and at most 1,000,000; main's is 0
abbrev pub IsOffset : List Entry → ℕ → ℕ → Type 0
IsOffset [] parent offset = offset ≡ 0
IsOffset (main ∷ others) parent offset = (last_of (main ∷ others) parent < offset) × (offset ≤ MOST_TICKS)

-- the cowns of the next row: they rise strictly and are there; main has none
abbrev pub MayNeed : ℕ → List Entry → List ℕ → Type 0
MayNeed count [] cowns = cowns ≡ []
MayNeed count (main ∷ others) cowns = AreCowns count cowns

-- a row that can end so: it is running, the ticks are 1 to 1,000,000 and reach its last child's spawn, and what was written rises and is among its cowns
pub record MayEnd (rows : List Entry) (row ticks : ℕ) (written : List ℕ) : Type 0 where
  pub runs : life_of rows row ≡ Some Running
  pub low : 0 < ticks
  pub high : ticks ≤ MOST_TICKS
  pub covers : last_of rows row ≤ ticks
  pub own : AreAmong (entry_cowns rows row) written

-- an event keeps a rule
abbrev pub KeepsRule : ℕ → List Entry → Event → BrokenRule → Type 0
KeepsRule count rows (Spawn row parent offset cowns) rules.NumberNotNext = row ≡ length rows
KeepsRule count rows (Spawn row parent offset cowns) rules.TooMany = row < MOST_ROWS
KeepsRule count rows (Spawn row parent offset cowns) rules.ParentNotRunning = IsParent rows parent
KeepsRule count rows (Spawn row parent offset cowns) rules.Offset = IsOffset rows parent offset
KeepsRule count rows (Spawn row parent offset cowns) rules.Cowns = MayNeed count rows cowns.items
KeepsRule count rows (Spawn row parent offset cowns) rules.StartNotAllowed = Unit {0}
KeepsRule count rows (Spawn row parent offset cowns) rules.EndNotAllowed = Unit {0}
KeepsRule count rows (Start row) rules.StartNotAllowed = MayStart (life_of rows) (entry_cowns rows) row
KeepsRule count rows (Start row) _ = Unit {0}
KeepsRule count rows (End row ticks status written) rules.EndNotAllowed = MayEnd rows row ticks written.items
KeepsRule count rows (End row ticks status written) _ = Unit {0}

-- an event that keeps every rule
pub record IsAllowed (count : ℕ) (rows : List Entry) (event : Event) : Type 0 where
  pub bounds : HasBounds event
  pub keeps : (rule : BrokenRule) → KeepsRule count rows event rule

-- the place of a rule in the order in which they are judged
abbrev pub place_of_rule : BrokenRule → ℕ
place_of_rule rules.NumberNotNext = 0
place_of_rule rules.TooMany = 1
place_of_rule rules.ParentNotRunning = 2
place_of_rule rules.Offset = 3
place_of_rule rules.Cowns = 4
place_of_rule rules.StartNotAllowed = 5
place_of_rule rules.EndNotAllowed = 6

-- the first rule that an event breaks
pub record IsFirstBroken (count : ℕ) (rows : List Entry) (event : Event) (rule : BrokenRule) : Type 0 where
  pub bounds : HasBounds event
  pub broken : KeepsRule count rows event rule → ⊥
  pub earlier : (other : BrokenRule) → place_of_rule other < place_of_rule rule → KeepsRule count rows event other

-- each event is allowed after those before it, from rows on
abbrev pub IsLegalFrom : ℕ → List Entry → List Event → Type 0
IsLegalFrom count rows [] = Unit {0}
IsLegalFrom count rows (event ∷ events) = IsAllowed count rows event × IsLegalFrom count (after rows event) events

-- a log of events over so many cowns that keeps the rules
abbrev pub IsLegal : ℕ → List Event → Type 0
IsLegal count log = IsLegalFrom count [] log

-- a log whose run is over
abbrev pub IsComplete : List Event → Type 0
IsComplete log = AreOver (length (entries log)) (life_of (entries log))
