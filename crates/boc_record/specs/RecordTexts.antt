-- The text of a record, and what a text that is none has first wrong.
use Rattle.std.specs.Prelude.{◌≡◌, ◌≢◌, ℕ, ◌+◌, ◌<◌, ◌≤◌, ◌⊎◌, List, [], ◌∷◌, ◌++◌, length, take, All, codes, decimal}
use Rattle.boc_program.specs.declared.limits.TheConstants.{MOST_COWNS}
use Rattle.boc_text.specs.declared.lines.TheConstants.{MOST_LINE}
use Rattle.boc_program.specs.declared.body.EndStatus.{EndStatus}
use Rattle.boc_program.specs.declared.body.EndStatus.TheVariants as statuses
use Rattle.boc_runs.specs.declared.event.Event.{Event}
use Rattle.boc_runs.specs.declared.event.Event.TheVariants.{Spawn, Start, End}
use Rattle.boc_runs.specs.declared.event.BrokenRule.{BrokenRule}
use Rattle.boc_runs.specs.declared.event.BrokenRule.TheVariants as rules
use Rattle.boc_record.specs.declared.verdict.RecordFaultKind.{RecordFaultKind}
use Rattle.boc_record.specs.declared.verdict.RecordFaultKind.TheVariants as kinds
use Rattle.boc_runs.specs.Legal.{Entry, entries, after, entry_cowns, HasBounds, IsLegal, IsComplete, IsFirstBroken}
use Rattle.boc_runs.specs.Records.{Recorded, IsRecord}

-- ---- the texts of records

-- the two versions in which the text of a record is spelt; the first does not say which cowns a row wrote
pub data Version : Type 0 where
  First : Version
  Second : Version

-- the number of a version
abbrev pub version_number : Version → ℕ
version_number First = 1
version_number Second = 2

-- a field of a line, behind the one before it
abbrev pub field : ℕ → List ℕ
field n = codes " " ++ decimal n

-- several fields
abbrev pub fields : List ℕ → List ℕ
fields [] = []
fields (n ∷ ns) = field n ++ fields ns

-- the number of a status
abbrev pub status_number : EndStatus → ℕ
status_number statuses.Done = 0
status_number statuses.Overflow = 1
status_number statuses.ZeroDivisor = 2
status_number statuses.OutOfRange = 3
status_number statuses.SameCown = 4
status_number statuses.Negative = 5
status_number statuses.TickCap = 6

-- the first line of a record, without its line feed
abbrev pub header : Version → ℕ → List ℕ
header version cowns = codes "boc" ++ fields (version_number version ∷ cowns ∷ [])

-- what the line of an end says of the cowns that were written
abbrev pub written_fields : Version → List ℕ → List ℕ
written_fields First written = []
written_fields Second written = written

-- the line of an event, without its line feed
abbrev pub event_line : Version → Event → List ℕ
event_line version (Spawn row parent offset cowns) = codes "+" ++ fields (row ∷ parent ∷ offset ∷ cowns.items)
event_line version (Start row) = codes ">" ++ fields (row ∷ [])
event_line version (End row ticks status written) =
    codes "<" ++ fields (row ∷ ticks ∷ status_number status ∷ written_fields version written.items)

-- an event that a version can spell behind these rows: in the first version an end stands for one that wrote all cowns of its row
abbrev pub IsSpelt : Version → List Entry → Event → Type 0
IsSpelt First rows (End row ticks status written) = written.items ≡ entry_cowns rows row
IsSpelt version rows event = Unit {0}

-- all events are such, one after the other, from rows on
abbrev pub AreSpelt : Version → List Entry → List Event → Type 0
AreSpelt version rows [] = Unit {0}
AreSpelt version rows (event ∷ events) = IsSpelt version rows event × AreSpelt version (after rows event) events

-- a line with its line feed
abbrev pub line : List ℕ → List ℕ
line l = l ++ codes "\n"

-- the lines of events
abbrev pub event_lines : Version → List Event → List ℕ
event_lines version [] = []
event_lines version (event ∷ events) = line (event_line version event) ++ event_lines version events

-- the first line, and a line for each event
abbrev pub begun : Version → ℕ → List Event → List ℕ
begun version cowns events = line (header version cowns) ++ event_lines version events

-- the text of a record in a version
abbrev pub record_text : Version → ℕ → List Event → List ℕ
record_text version cowns events = begun version cowns events ++ line (codes ".")

-- a text is that of a record, in one of the versions
pub record IsTextOf (text : List ℕ) (r : Recorded) : Type 0 where
  pub record_is : IsRecord r
  pub version : Version
  pub spelt : AreSpelt version [] r.events
  pub is : text ≡ record_text version r.cowns r.events

-- ---- lines

-- none of the bytes is a line feed
abbrev pub IsOneLine : List ℕ → Type 0
IsOneLine l = All (λ b. b ≢ 10) l

-- a text begins with this line, which is not too long
pub record BeginsWith (text l : List ℕ) : Type 0 where
  pub rest : List ℕ
  pub is : text ≡ line l ++ rest
  pub one : IsOneLine l
  pub short : length l ≤ MOST_LINE

-- a text begins with a line that is too long, whether or not that line ends
pub record BeginsLong (text : List ℕ) : Type 0 where
  pub more : MOST_LINE < length text
  pub one : IsOneLine (take (MOST_LINE + 1) text)

-- a text ends before its first line does, which is not too long so far
pub record IsCut (text : List ℕ) : Type 0 where
  pub one : IsOneLine text
  pub short : length text ≤ MOST_LINE

-- a line has the form of a first line
abbrev pub IsHeader : List ℕ → Type 0
IsHeader l = (version : Version) × (cowns : ℕ) × (cowns ≤ MOST_COWNS) × (l ≡ header version cowns)

-- a line has the form of an event's
abbrev pub IsEventLine : Version → List ℕ → Type 0
IsEventLine version l = (event : Event) × HasBounds event × (l ≡ event_line version event)

-- ---- faults

-- the fault of a line that breaks a rule
abbrev pub kind_of_rule : BrokenRule → RecordFaultKind
kind_of_rule rules.NumberNotNext = kinds.NumberNotNext
kind_of_rule rules.ParentNotRunning = kinds.ParentNotRunning
kind_of_rule rules.Offset = kinds.Offset
kind_of_rule rules.Cowns = kinds.Cowns
kind_of_rule rules.StartNotAllowed = kinds.StartNotAllowed
kind_of_rule rules.EndNotAllowed = kinds.EndNotAllowed
kind_of_rule rules.TooMany = kinds.TooMany

-- a text in some version has begun with these events over so many cowns, which keep the rules
pub record HasBegun (version : Version) (cowns : ℕ) (events : List Event) : Type 0 where
  pub few : cowns ≤ MOST_COWNS
  pub legal : IsLegal cowns events
  pub spelt : AreSpelt version [] events

-- what is wrong with the first line of a text, if that is not a header
abbrev pub FirstLineIs : List ℕ → RecordFaultKind → Type 0
FirstLineIs text kinds.Header = BeginsLong text ⊎ ((l : List ℕ) × BeginsWith text l × (IsHeader l → ⊥))
FirstLineIs text kinds.Truncated = IsCut text
FirstLineIs text _ = ⊥

-- a line breaks a rule, and none that is judged earlier
pub record BreaksRule (version : Version) (cowns : ℕ) (events : List Event) (text : List ℕ) (rule : BrokenRule) : Type 0 where
  pub event : Event
  pub stands : BeginsWith text (event_line version event)
  pub spelt : IsSpelt version (entries events) event
  pub first : IsFirstBroken cowns (entries events) event rule

-- a line is neither that of an event nor the last one, or it is too long
abbrev pub HasNoForm : Version → List ℕ → Type 0
HasNoForm version text =
    BeginsLong text ⊎ ((l : List ℕ) × BeginsWith text l × (IsEventLine version l → ⊥) × (l ≢ codes "."))

-- what is wrong with the first line of what follows these events
abbrev pub NextLineIs : Version → ℕ → List Event → List ℕ → RecordFaultKind → Type 0
NextLineIs version cowns events text kinds.Form = HasNoForm version text
NextLineIs version cowns events text kinds.NumberNotNext = BreaksRule version cowns events text rules.NumberNotNext
NextLineIs version cowns events text kinds.ParentNotRunning = BreaksRule version cowns events text rules.ParentNotRunning
NextLineIs version cowns events text kinds.Offset = BreaksRule version cowns events text rules.Offset
NextLineIs version cowns events text kinds.Cowns = BreaksRule version cowns events text rules.Cowns
NextLineIs version cowns events text kinds.StartNotAllowed = BreaksRule version cowns events text rules.StartNotAllowed
NextLineIs version cowns events text kinds.EndNotAllowed = BreaksRule version cowns events text rules.EndNotAllowed
NextLineIs version cowns events text kinds.TooMany = BreaksRule version cowns events text rules.TooMany
NextLineIs version cowns events text kinds.Unended = BeginsWith text (codes ".") × (IsComplete events → ⊥)
NextLineIs version cowns events text kinds.Truncated = IsCut text
NextLineIs version cowns events text _ = ⊥

-- The text begins with a header and the lines of events that keep the rules. What stands on the line after these has this wrong.
pub record IsWrongAfter (text : List ℕ) (number : ℕ) (kind : RecordFaultKind) : Type 0 where
  pub version : Version
  pub cowns : ℕ
  pub events : List Event
  pub begins : HasBegun version cowns events
  pub rest : List ℕ
  pub split : text ≡ begun version cowns events ++ rest
  pub number_is : number ≡ length events + 2
  pub wrong : NextLineIs version cowns events rest kind

-- the text of a record, and something behind it
pub record HasMore (text : List ℕ) (number : ℕ) : Type 0 where
  pub version : Version
  pub cowns : ℕ
  pub events : List Event
  pub begins : HasBegun version cowns events
  pub complete : IsComplete events
  pub first : ℕ
  pub rest : List ℕ
  pub split : text ≡ record_text version cowns events ++ (first ∷ rest)
  pub number_is : number ≡ length events + 3

-- the first line of a text that is faulty, and what is wrong with it
abbrev pub IsFirstFault : List ℕ → ℕ → RecordFaultKind → Type 0
IsFirstFault text number kinds.After = HasMore text number
IsFirstFault text number kind = ((number ≡ 1) × FirstLineIs text kind) ⊎ IsWrongAfter text number kind
