-- A stream that is the text of a record, so far or to its end.
use Rattle.std.specs.Prelude.{◌≡◌, ◌≢◌, ℕ, ◌<◌, ◌≤◌, List, [], ◌∷◌, ◌++◌, length, codes, Bool, true, false, Option, Some, None, IfSome, Result, Ok, Err}
use Rattle.std.specs.Prelude.{slice_get}
use Rattle.std.specs.Io.KnownBytes.{Consumes, Keeps, IsAtEnd}
use Rattle.boc_record.specs.RecordTexts.{Version, First, Second, IsTextOf, IsSpelt, AreSpelt, line, header, event_line, event_lines}
use Rattle.boc_program.specs.declared.limits.TheConstants.{MOST_HELD}
use Rattle.boc_record.specs.Fields.{AreSmall}
use Rattle.boc_rules.specs.Log.{Log}
use Rattle.boc_runs.specs.declared.event.Event.{Event}
use Rattle.boc_runs.specs.declared.event.Event.TheVariants as events
use Rattle.boc_runs.specs.declared.rows.Row.{Row as Kept}
use Rattle.boc_runs.specs.Legal.{Entry, entries, HasBounds, IsAllowed, IsComplete}
use Rattle.boc_runs.specs.Records.{Recorded, IsRecord}
use Rattle.boc_stream.specs.LongLines.{GivesLine}
use Rattle.boc_stream.specs.StreamTexts.{spelling, numbers_of}
use Rattle.boc_stream.specs.declared.fault.StreamFaultKind.{StreamFaultKind}
use Rattle.boc_stream.specs.declared.fault.StreamFaultKind.TheVariants as kinds
use Rattle.boc_stream.specs.declared.told.Header.{Header}
use Rattle.boc_stream.specs.declared.told.Told.{Told}
use Rattle.boc_stream.specs.declared.told.Told.TheVariants as tolds
use Rattle.boc_cut.specs.declared.table.Row.{Row}
use Rattle.boc_cut.specs.declared.table.CownUse.{CownUse}
use Rattle.boc_cut.specs.declared.whole.Next.{Next}
use Rattle.boc_cut.specs.declared.whole.Next.TheVariants as nexts
use Rattle.boc_cut.specs.declared.whole.Tried.{Tried}
use Rattle.boc_cut.specs.declared.whole.Tried.TheVariants as tries
use Rattle.boc_cut.specs.Reading.{HasNoLine, GoesOn}
use Rattle.boc_cut.specs.Windows.{EndsLine, Spawns, AreSpawned}

-- ---- the event of a line

-- what a row wrote, as its end tells it: in the first version that is not told
abbrev pub SaysWritten : Version → List ℕ → List ℕ → Type 0
SaysWritten First numbers written = Unit {0}
SaysWritten Second numbers written = numbers ≡ written

-- an event is what is told, with these numbers at its end
abbrev pub SaysEvent : Version → Told → List ℕ → Event → Type 0
SaysEvent v (tolds.Spawn row parent offset) numbers (events.Spawn r p o cowns) = (row ≡ r) × (parent ≡ p) × (offset ≡ o) × (numbers ≡ cowns.items)
SaysEvent v (tolds.Start row) numbers (events.Start r) = row ≡ r
SaysEvent v (tolds.End row ticks status) numbers (events.End r t s written) =
    (row ≡ r) × (ticks ≡ t) × (status ≡ s) × SaysWritten v numbers written.items
SaysEvent v told numbers event = ⊥

-- the numbers are small, the last of them are few, and it is not the last line
pub record IsSmall (told : Told) (ns : List ℕ) : Type 0 where
  pub small : AreSmall (numbers_of told ++ ns)
  pub few : length ns ≤ MOST_HELD
  pub open_line : told ≢ tolds.Last

-- a line is that of an event, behind these rows
pub record IsLineOf (version : Version) (rows : List Entry) (l : List ℕ) (event : Event) : Type 0 where
  pub bounds : HasBounds event
  pub is : l ≡ event_line version event
  pub spelt : IsSpelt version rows event

-- no event that is allowed has this line
abbrev pub NoneNext : Version → Log → List ℕ → Type 0
NoneNext v log l = (event : Event) → IsLineOf v (entries log.events) l event → IsAllowed log.cowns (entries log.events) event → ⊥

-- an event stands behind a log, and its line was taken
pub record IsTaken (v : Version) (l : List ℕ) (old new : Log) : Type 0 where
  pub event : Event
  pub line_is : IsLineOf v (entries old.events) l event
  pub allowed : IsAllowed old.cowns (entries old.events) event
  pub events_are : new.events ≡ old.events ++ event ∷ []
  pub cowns_are : new.cowns ≡ old.cowns

-- the event of a line was put behind a log, if it has one that is allowed
abbrev pub TakesLine : Version → List ℕ → Log → Result Bool StreamFaultKind → Log → Type 0
TakesLine v l old (Ok true) new = IsTaken v l old new
TakesLine v l old (Ok false) new = NoneNext v old l × (new ≡ old)
TakesLine v l old (Err kind) new = kind ≡ kinds.Memory

-- ---- rows of a table by the events of a log

-- a text spawns the row of an event, if it is a spawn
abbrev pub SpawnsEvent : List ℕ → Event → Type 0
SpawnsEvent text (events.Spawn row parent offset cowns) = Spawns text row cowns.items
SpawnsEvent text event = Unit {0}

-- each text that spawns the old rows, and the row of the event, spawns the new ones
abbrev pub TakesEvent : Event → List Row → List CownUse → List Row → List CownUse → Type 0
TakesEvent event rows uses others more = (text : List ℕ) → SpawnsEvent text event → AreSpawned text rows uses → AreSpawned text others more

-- a text spawns the rows of all events
abbrev pub SpawnsAll : List ℕ → List Event → Type 0
SpawnsAll text log = (place : ℕ) (event : Event) → slice_get log place ≡ Some event → SpawnsEvent text event

-- each text that spawns the old rows, and those of the events, spawns the new ones
abbrev pub AreSpawnedBy : List Event → List Row → List CownUse → List Row → List CownUse → Type 0
AreSpawnedBy log rows uses others more = (text : List ℕ) → SpawnsAll text log → AreSpawned text rows uses → AreSpawned text others more

-- and so with one line more
abbrev pub GivesUp : List Event → List ℕ → List Row → List CownUse → List Row → List CownUse → Type 0
GivesUp log l rows uses others more = (text : List ℕ) → EndsLine text → SpawnsAll text log → AreSpawned text rows uses → AreSpawned (text ++ line l) others more

-- ---- a stream so far

-- the bytes are not the text of a record
abbrev pub IsNoRecord : Option (List ℕ) → Type 0
IsNoRecord known = (r : Recorded) → IfSome known (λ text. IsTextOf text r → ⊥)

-- a fault other than want of memory or of a device says that
abbrev pub RefusesAs : StreamFaultKind → Option (List ℕ) → Type 0
RefusesAs kinds.Memory before = Unit {0}
RefusesAs kinds.Device before = Unit {0}
RefusesAs _ before = IsNoRecord before

-- a stream was no record
abbrev pub IsNoWhole : Tried → Type 0
IsNoWhole (tries.Record r) = ⊥
IsNoWhole _ = Unit {0}

-- the first line says a number of cowns that a record can have, or the bytes are no record's and a table has the line
abbrev pub BeginsAs : Result (Option Header) StreamFaultKind → Option (List ℕ) → Option (List ℕ) → List Row → List CownUse → List Row → List CownUse → Type 0
BeginsAs (Ok (Some h)) before after rows uses others more =
    Consumes before after (line (header (spelling h.version) h.cowns)) × (others ≡ rows) × (more ≡ uses)
BeginsAs (Ok None) before after rows uses others more = IsNoRecord before × GoesOn before after rows uses others more
BeginsAs (Err kind) before after rows uses others more = RefusesAs kind before

-- memory was refused, or there is no line
abbrev pub StopsAs : StreamFaultKind → Option (List ℕ) → Type 0
StopsAs kinds.Memory before = Unit {0}
StopsAs kind before = HasNoLine kind before

-- what came next
abbrev pub StepsOn : Version → Log → Result Next StreamFaultKind → Log → List ℕ → Option (List ℕ) → Option (List ℕ) → Type 0
StepsOn v old (Ok nexts.Event) new l before after = IsTaken v l old new × GivesLine l before after
StepsOn v old (Ok nexts.Last) new l before after = IsComplete old.events × (l ≡ codes ".") × GivesLine l before after × (new ≡ old)
StepsOn v old (Ok nexts.Other) new l before after =
    NoneNext v old l × (l ≡ codes "." → IsComplete old.events → ⊥) × GivesLine l before after × (new ≡ old)
StepsOn v old (Ok nexts.End) new l before after = IsAtEnd before × Keeps before after × (new ≡ old)
StepsOn v old (Err kind) new l before after = StopsAs kind before

-- a complete log is a record where no bytes follow it
abbrev pub EndsAs : Log → Result Tried StreamFaultKind → Option (List ℕ) → Option (List ℕ) → Type 0
EndsAs log (Ok (tries.Record r)) before after = IsRecord r × (r.cowns ≡ log.cowns) × (r.events ≡ log.events) × IsAtEnd before × Keeps before after
EndsAs log (Ok _) before after = ⊥
EndsAs log (Err kinds.After) before after = IfSome before (λ rest. 0 < length rest)
EndsAs log (Err kinds.Device) before after = Unit {0}
EndsAs log (Err _) before after = ⊥

-- what stands behind this first line makes no record with it
abbrev pub NoRest : Version → ℕ → Option (List ℕ) → Type 0
NoRest v cowns before = (start : Option (List ℕ)) → Consumes start before (line (header v cowns)) → IsNoRecord start

-- a fault other than want of memory or of a device says that
abbrev pub RefusesRest : Version → ℕ → StreamFaultKind → Option (List ℕ) → Type 0
RefusesRest v cowns kinds.Memory before = Unit {0}
RefusesRest v cowns kinds.Device before = Unit {0}
RefusesRest v cowns _ before = NoRest v cowns before

-- behind its first line the rest of a record's text was taken, and no bytes follow
pub record TakesRest (v : Version) (cowns : ℕ) (r : Recorded) (before after : Option (List ℕ)) : Type 0 where
  pub record_is : IsRecord r
  pub cowns_are : r.cowns ≡ cowns
  pub spelt : AreSpelt v [] r.events
  pub taken : Consumes before after (event_lines v r.events ++ line (codes "."))
  pub whole : IfSome before (λ rest. rest ≡ event_lines v r.events ++ line (codes "."))

-- what a stream is behind a first line
abbrev pub FollowsOn : Version → ℕ → Result Tried StreamFaultKind → Option (List ℕ) → Option (List ℕ) → List Row → List CownUse → List Row → List CownUse
    → Type 0
FollowsOn v cowns (Ok (tries.Record r)) before after rows uses others more = TakesRest v cowns r before after
FollowsOn v cowns (Ok _) before after rows uses others more = NoRest v cowns before × GoesOn before after rows uses others more
FollowsOn v cowns (Err kind) before after rows uses others more = RefusesRest v cowns kind before

-- the text of a record was taken, and no bytes follow
pub record TakesRecord (r : Recorded) (before after : Option (List ℕ)) : Type 0 where
  pub text : List ℕ
  pub text_of : IsTextOf text r
  pub taken : Consumes before after text
  pub whole : IfSome before (λ bytes. bytes ≡ text)

-- what a stream is
abbrev pub FollowsAs : Result Tried StreamFaultKind → Option (List ℕ) → Option (List ℕ) → List Row → List CownUse → List Row → List CownUse → Type 0
FollowsAs (Ok (tries.Record r)) before after rows uses others more = TakesRecord r before after
FollowsAs (Ok _) before after rows uses others more = IsNoRecord before × GoesOn before after rows uses others more
FollowsAs (Err kind) before after rows uses others more = RefusesAs kind before

-- each row of a whole record is the row of the stream that has its number
pub record AreWholeOrigins (rows : List Kept) (origins : List (Option ℕ)) : Type 0 where
  pub all : length origins ≡ length rows
  pub each : (row : ℕ) → row < length rows → slice_get origins row ≡ Some (Some row)
