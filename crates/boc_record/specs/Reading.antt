-- What was found of the text of a record.
use Rattle.std.specs.Prelude.{◌≡◌, ◌==◌, ℕ, ◌+◌, ◌≤◌, ◌<◌, ◌⊎◌, List, [], ◌∷◌, ◌++◌, length, count_by, codes, Option, Some, None, IfSome, Result, Ok, Err}
use Rattle.std.specs.Io.KnownBytes.{Consumes, IsAtEnd}
use Rattle.boc_program.specs.declared.limits.TheConstants.{MOST_COWNS}
use Rattle.boc_text.specs.declared.lines.TheConstants.{MOST_LINE}
use Rattle.boc_runs.specs.declared.event.Event.{Event}
use Rattle.boc_record.specs.declared.verdict.RecordFaultKind.{RecordFaultKind}
use Rattle.boc_record.specs.declared.verdict.RecordFaultKind.TheVariants as kinds
use Rattle.boc_runs.specs.Legal.{Entry, HasBounds, IsComplete, entries}
use Rattle.boc_runs.specs.declared.rows.Row.{Row}
use Rattle.boc_runs.specs.Records.{Recorded}
use Rattle.boc_record.specs.RecordTexts.{Version, IsOneLine, IsCut, IsSpelt, IsTextOf, HasBegun, HasNoForm, FirstLineIs, begun, line, header, event_line}
use Rattle.boc_record.specs.RecordTexts.{record_text, kind_of_rule, IsFirstFault}
use Rattle.boc_text.specs.declared.lines.TheConstants.{CAPACITY}
use Rattle.boc_rules.specs.Course.{Course, IsOver}
use Rattle.boc_rules.specs.declared.fault.RuleFault.{RuleFault}
use Rattle.boc_rules.specs.declared.fault.RuleFault.TheVariants.{Broken, Memory}
use Rattle.boc_record.specs.declared.fault.RecordFault.{RecordFault}
use Rattle.boc_record.specs.declared.version.Version.{Version as Named}
use Rattle.boc_record.specs.Versions.{spelling}
use Rattle.boc_record.specs.Sinks.{IsSpawn}

-- ---- what reading answers

-- the text of a record was taken, and nothing follows it
pub record TakesRecord (r : Recorded) (before after : Option (List ℕ)) : Type 0 where
  pub text : List ℕ
  pub text_of : IsTextOf text r
  pub taken : Consumes before after text
  pub over : IsAtEnd after

-- how many line feeds there are
abbrev pub line_feeds : List ℕ → ℕ
line_feeds bytes = count_by (λ b. b == 10) bytes

-- lines that are as they must be, so far: none, the first line and those of events that keep the rules, or all lines of a record
abbrev pub AreGoodLines : List ℕ → Type 0
AreGoodLines done =
    (done ≡ [])
    ⊎ ((version : Version) × (cowns : ℕ) × (events : List Event) × HasBegun version cowns events × (done ≡ begun version cowns events))
    ⊎ ((version : Version) × (cowns : ℕ) × (events : List Event) × HasBegun version cowns events × IsComplete events
    × (done ≡ record_text version cowns events))

-- The source failed at a line: it gave good lines before, and a beginning of this one at most, which is not too long so far.
pub record FailsAt (number : ℕ) (before after : Option (List ℕ)) : Type 0 where
  pub given : List ℕ
  pub taken : Consumes before after given
  pub number_is : number ≡ line_feeds given + 1
  pub done : List ℕ
  pub good : AreGoodLines done
  pub left : List ℕ
  pub unended : IsOneLine left
  pub short : length left ≤ MOST_LINE
  pub split : given ≡ done ++ left

-- memory is wanted before the first event, and for a spawn as the last
abbrev pub WantsRoom : List Event → Type 0
WantsRoom events = (events ≡ []) ⊎ ((before : List Event) × (spawn : Event) × IsSpawn spawn × (events ≡ before ++ spawn ∷ []))

-- Memory was refused at a line: up to and with this one, the source gave a first line and the lines of events that keep the rules, the last of them a spawn's
-- where there are any. Behind it the source gave no more than is taken in ahead.
pub record WantsMemoryAt (number : ℕ) (before after : Option (List ℕ)) : Type 0 where
  pub given : List ℕ
  pub taken : Consumes before after given
  pub version : Version
  pub cowns : ℕ
  pub events : List Event
  pub begins : HasBegun version cowns events
  pub wanted : WantsRoom events
  pub number_is : number ≡ length events + 1
  pub ahead : List ℕ
  pub few : length ahead ≤ CAPACITY
  pub split : given ≡ begun version cowns events ++ ahead

-- what a fault says of the bytes that were to come: the text has it at this line first, memory was refused there, or the source failed there
abbrev pub IsFault : RecordFaultKind → ℕ → Option (List ℕ) → Option (List ℕ) → Type 0
IsFault kinds.Device number before after = FailsAt number before after
IsFault kinds.Memory number before after = WantsMemoryAt number before after
IsFault kind number before after = IfSome before (λ text. IsFirstFault text number kind)

-- the text of the record was taken, or its fault told
abbrev pub Reads : Result Recorded RecordFault → Option (List ℕ) → Option (List ℕ) → Type 0
Reads (Ok r) before after = TakesRecord r before after
Reads (Err fault) before after = IsFault fault.kind fault.line before after

-- the text of a record was taken which has these rows, or its fault told
abbrev pub ReadsRows : Result (List Row) RecordFault → Option (List ℕ) → Option (List ℕ) → Type 0
ReadsRows (Ok rows) before after = (r : Recorded) × TakesRecord r before after × (rows ≡ r.rows)
ReadsRows (Err fault) before after = IsFault fault.kind fault.line before after

-- the text of a record was taken which has these rows and so many cowns, or its fault told
abbrev pub ReadsCounted : Result (List Row × ℕ) RecordFault → Option (List ℕ) → Option (List ℕ) → Type 0
ReadsCounted (Ok read) before after = (r : Recorded) × TakesRecord r before after × (read.0 ≡ r.rows) × (read.1 ≡ r.cowns)
ReadsCounted (Err fault) before after = IsFault fault.kind fault.line before after

-- The first line of a text and the lines of so many events were taken, over so many cowns, which make these rows; or of all events, where the last line
-- comes before that.
pub record TakesFirst (count cowns : ℕ) (rows : List Entry) (before : Option (List ℕ)) : Type 0 where
  pub version : Version
  pub events : List Event
  pub rows_are : rows ≡ entries events
  pub begins : HasBegun version cowns events
  pub next : Option (List ℕ)
  pub given : Consumes before next (begun version cowns events)
  pub counted : (count ≡ length events) ⊎ ((behind : Option (List ℕ)) × Consumes next behind (line (codes ".")))

-- the first events of a text were taken, or its fault told
abbrev pub ReadsFirst : ℕ → Result Course RecordFault → Option (List ℕ) → Option (List ℕ) → Type 0
ReadsFirst count (Ok run) before after = TakesFirst count run.cowns run.rows before
ReadsFirst count (Err fault) before after = IsFault fault.kind fault.line before after

-- the source failed where that is the answer, and there alone
abbrev pub CountsKind : RecordFaultKind → ℕ → ℕ → Type 0
CountsKind kinds.Device old new = new ≡ old + 1
CountsKind _ old new = new ≡ old

-- a call that reads failed with a kind of fault, or none
abbrev pub CountsRead : {A : Type 0} → Result A RecordFault → ℕ → ℕ → Type 0
CountsRead (Ok r) old new = new ≡ old
CountsRead (Err fault) old new = CountsKind fault.kind old new

-- ---- its parts

-- A sink has so many cowns and has taken the events of a text, which are a complete run. The text was taken whole, and nothing follows it.
pub record TakesRun (cowns : ℕ) (taken : List Event → Type 0) (before after : Option (List ℕ)) : Type 0 where
  pub version : Version
  pub events : List Event
  pub has : taken events
  pub begins : HasBegun version cowns events
  pub complete : IsComplete events
  pub given : Consumes before after (record_text version cowns events)
  pub over : IsAtEnd after

-- a sink has taken the events of a text, or the fault of the text is told
abbrev pub ReadsRun : {E : Type 0} → (E → ℕ) → (E → List Event → Type 0) → Result E RecordFault → Option (List ℕ) → Option (List ℕ) → Type 0
ReadsRun cowns taken (Ok sink) before after = TakesRun (cowns sink) (taken sink) before after
ReadsRun cowns taken (Err fault) before after = IsFault fault.kind fault.line before after

-- the same of a part that leaves the line to its caller
abbrev pub CountsPart : {A : Type 0} → Result A RecordFaultKind → ℕ → ℕ → Type 0
CountsPart (Ok r) old new = new ≡ old
CountsPart (Err kind) old new = CountsKind kind old new

-- the fault of a line whose event is refused
abbrev pub kind_of_fault : RuleFault → RecordFaultKind
kind_of_fault (Broken rule) = kind_of_rule rule
kind_of_fault Memory = kinds.Memory

-- the source gave the beginning of a line at most, which is not too long so far
pub record GivesPart (before after : Option (List ℕ)) : Type 0 where
  pub left : List ℕ
  pub unended : IsOneLine left
  pub short : length left ≤ MOST_LINE
  pub taken : Consumes before after left

-- what the source gave where it failed
abbrev pub StopsFor : RecordFaultKind → Option (List ℕ) → Option (List ℕ) → Type 0
StopsFor kinds.Device before after = GivesPart before after
StopsFor _ before after = Unit {0}

-- the same of a part
abbrev pub StopsWithin : {A : Type 0} → Result A RecordFaultKind → Option (List ℕ) → Option (List ℕ) → Type 0
StopsWithin (Ok r) before after = Unit {0}
StopsWithin (Err kind) before after = StopsFor kind before after

-- an event's line was taken, behind these rows
pub record TakesEvent (version : Version) (rows : List Entry) (event : Event) (before after : Option (List ℕ)) : Type 0 where
  pub small : HasBounds event
  pub one : IsOneLine (event_line version event)
  pub short : length (event_line version event) ≤ MOST_LINE
  pub taken : Consumes before after (line (event_line version event))
  pub spelt : IsSpelt version rows event

-- the line of an event was taken, or the last line
abbrev pub TakesItem : Version → List Entry → Option Event → Option (List ℕ) → Option (List ℕ) → Type 0
TakesItem version rows (Some event) before after = TakesEvent version rows event before after
TakesItem version rows None before after = Consumes before after (line (codes "."))

-- what is wrong with a line that is neither
abbrev pub ItemIs : Version → RecordFaultKind → Option (List ℕ) → Type 0
ItemIs version kinds.Form known = IfSome known (HasNoForm version)
ItemIs version kinds.Truncated known = IfSome known IsCut
ItemIs version kinds.Device known = Unit {0}
ItemIs version _ known = ⊥

-- the next line was read
abbrev pub ReadsItem : Version → List Entry → Result (Option Event) RecordFaultKind → Option (List ℕ) → Option (List ℕ) → Type 0
ReadsItem version rows (Ok item) before after = TakesItem version rows item before after
ReadsItem version rows (Err kind) before after = ItemIs version kind before

-- the first line was taken
pub record TakesHeader (version : Version) (cowns : ℕ) (before after : Option (List ℕ)) : Type 0 where
  pub few : cowns ≤ MOST_COWNS
  pub taken : Consumes before after (line (header version cowns))

-- what is wrong with the first line where it was not taken
abbrev pub HeaderIs : RecordFaultKind → Option (List ℕ) → Type 0
HeaderIs kinds.Header known = IfSome known (λ text. FirstLineIs text kinds.Header)
HeaderIs kinds.Truncated known = IfSome known (λ text. FirstLineIs text kinds.Truncated)
HeaderIs kinds.Device known = Unit {0}
HeaderIs _ known = ⊥

-- the first line was read
abbrev pub ReadsHeader : Result (Named × ℕ) RecordFaultKind → Option (List ℕ) → Option (List ℕ) → Type 0
ReadsHeader (Ok begun) before after = TakesHeader (spelling begun.0) begun.1 before after
ReadsHeader (Err kind) before after = HeaderIs kind before

-- what is found at the last line, which has this number, or behind it
abbrev pub EndIs : List Entry → ℕ → ℕ → RecordFaultKind → Option (List ℕ) → Option (List ℕ) → Type 0
EndIs rows last number kinds.Unended rest after = (IsOver rows → ⊥) × (number ≡ last)
EndIs rows last number kinds.After rest after = IsOver rows × (number ≡ last + 1) × IfSome rest (λ text. 0 < length text)
EndIs rows last number kinds.Device rest after = IsOver rows × (number ≡ last + 1) × GivesPart rest after
EndIs rows last number _ rest after = ⊥

-- the run is complete and nothing follows the last line, or one of these is not so
abbrev pub Finishes : {A : Type 0} → List Entry → ℕ → Result A RecordFault → Option (List ℕ) → Option (List ℕ) → Type 0
Finishes rows last (Ok done) before after = IsOver rows × Consumes before after [] × IsAtEnd after
Finishes rows last (Err fault) before after = EndIs rows last fault.line fault.kind before after

-- nothing follows
abbrev pub ReadsEnd : {A : Type 0} → Result A RecordFaultKind → Option (List ℕ) → Option (List ℕ) → Type 0
ReadsEnd (Ok done) before after = Consumes before after [] × IsAtEnd after
ReadsEnd (Err kinds.After) before after = IfSome before (λ text. 0 < length text)
ReadsEnd (Err kinds.Device) before after = GivesPart before after
ReadsEnd (Err _) before after = ⊥
