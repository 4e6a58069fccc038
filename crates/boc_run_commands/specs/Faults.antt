-- What faults say.
use Rattle.std.specs.Prelude.{◌≡◌, ℕ, Bool, true, false, List, [], ◌++◌, Option, Some, None, codes, decimal}
use Rattle.boc_run_commands.specs.declared.fault.Fault.{Fault}
use Rattle.boc_run_commands.specs.declared.fault.Fault.TheVariants as faults
use Rattle.boc_run_commands.specs.declared.fault.InputFault.{InputFault}
use Rattle.boc_run_commands.specs.declared.fault.InputFault.TheVariants as inputs
use Rattle.boc_run_commands.specs.declared.fault.FileFault.{FileFault}
use Rattle.boc_run_commands.specs.declared.fault.FileFault.TheVariants as files
use Rattle.boc_run_commands.specs.declared.fault.EndFault.{EndFault}
use Rattle.boc_run_commands.specs.declared.fault.Want.{Want}
use Rattle.boc_run_commands.specs.declared.fault.Want.TheVariants as wants
use Rattle.boc_plans.specs.declared.edit.EditFault.{EditFault}
use Rattle.boc_plans.specs.declared.edit.EditFault.TheVariants as edits
use Rattle.boc_text.specs.declared.whole.TextFault.{TextFault}
use Rattle.boc_text.specs.declared.whole.TextFault.TheVariants as texts
use Rattle.boc_draws.specs.declared.fault.DrawFault.{DrawFault}
use Rattle.boc_draws.specs.declared.fault.DrawFault.TheVariants as draws
use Rattle.boc_timed.specs.declared.fault.TimedFault.{TimedFault}
use Rattle.boc_timed.specs.declared.fault.TimedFault.TheVariants as timed
use Rattle.boc_eval.specs.declared.serial.SerialFault.{SerialFault}
use Rattle.boc_eval.specs.declared.serial.SerialFault.TheVariants as serial
use Rattle.boc_record.specs.declared.fault.RecordFault.{RecordFault}
use Rattle.boc_follow.specs.declared.stray.StrayFault.{StrayFault}
use Rattle.boc_follow.specs.declared.stray.StrayFaultKind.{StrayFaultKind}
use Rattle.boc_follow.specs.declared.stray.StrayFaultKind.TheVariants as strays
use Rattle.boc_run_commands.specs.declared.fault.WindowFault.{WindowFault}
use Rattle.boc_run_commands.specs.declared.fault.WindowFault.TheVariants as windows
use Rattle.boc_stream.specs.declared.fault.LabelFault.{LabelFault}
use Rattle.boc_stream.specs.declared.fault.LabelFaultKind.{LabelFaultKind}
use Rattle.boc_stream.specs.declared.fault.LabelFaultKind.TheVariants as labels
use Rattle.boc_stream.specs.declared.fault.StreamFault.{StreamFault}
use Rattle.boc_stream.specs.declared.fault.StreamFaultKind.{StreamFaultKind}
use Rattle.boc_stream.specs.declared.fault.StreamFaultKind.TheVariants as streams
use Rattle.boc_text.specs.declared.fault.WriteFault.{WriteFault}
use Rattle.boc_text.specs.declared.fault.WriteFault.TheVariants as writes
use Rattle.boc_words.specs.declared.fault.WordsFault.{WordsFault}
use Rattle.boc_words.specs.declared.fault.WordsFault.TheVariants as asked
use Rattle.boc_workers.specs.declared.fault.RunFault.{RunFault}
use Rattle.boc_workers.specs.declared.fault.RunFault.TheVariants as runs
use Rattle.boc_record.specs.declared.verdict.RecordFaultKind.{RecordFaultKind}
use Rattle.boc_record.specs.declared.verdict.RecordFaultKind.TheVariants as records
use Rattle.boc_reader.specs.declared.fault.ReadFault.{ReadFault}
use Rattle.boc_reader.specs.declared.fault.ReadFaultKind.{ReadFaultKind}
use Rattle.boc_reader.specs.declared.fault.ReadFaultKind.TheVariants as kinds
use Rattle.boc_reader.specs.FaultTexts.{kind_text}
use Rattle.boc_record.specs.Faults.{kind_line}
use Rattle.boc_follow.specs.Strays.{kind_line as stray_line}
use Rattle.boc_names.specs.Said.{kind_line as names_line}
use Rattle.boc_stream.specs.Faults.{label_kind_line, stream_kind_line}

-- the same where no window was cut: the stream or its names were refused, or the program itself is at fault
abbrev pub window_status : WindowFault → ℕ
window_status (windows.Stream s) = 3
window_status (windows.Names l) = 3
window_status windows.Unmade = 4

-- the status of the program: the words were refused, the input, or the run; or memory or a device that works was wanting
abbrev pub status_of : Fault → ℕ
status_of (faults.Words w) = 2
status_of (faults.Input i) = 3
status_of (faults.Run r) = 4
status_of faults.Unscheduled = 4
status_of (faults.Window w) = window_status w
status_of (faults.End e) = 4
status_of (faults.Means w) = 5

-- the fault is want of memory or of a device
abbrev pub IsWant : Fault → Type 0
IsWant (faults.Means w) = Unit {0}
IsWant _ = ⊥

-- the source failed
abbrev pub is_source : Fault → Bool
is_source (faults.Means wants.Source) = true
is_source _ = false

-- how much went out before the sink failed
abbrev pub gone_of : Fault → Option ℕ
gone_of (faults.Means (wants.Sink gone)) = Some gone
gone_of _ = None

-- want of memory is no refusal of the words
abbrev pub of_words : WordsFault → Fault
of_words asked.Memory = faults.Means wants.Memory
of_words w = faults.Words w

-- the fault of an input that could not be taken in
abbrev pub of_text : TextFault → Fault
of_text texts.Memory = faults.Means wants.Memory
of_text texts.Device = faults.Means wants.Source

-- want of memory is no refusal of the text
abbrev pub of_read : ReadFault → ReadFaultKind → Fault
of_read r kinds.Memory = faults.Means wants.Memory
of_read r _ = faults.Input (inputs.Program r)

-- want of memory and a failing source are no refusal of a record
abbrev pub of_record : RecordFault → RecordFaultKind → Fault
of_record r records.Memory = faults.Means wants.Memory
of_record r records.Device = faults.Means wants.Source
of_record r _ = faults.Input (inputs.Record r)

-- want of memory is no refusal of a record either where it strays from its program
abbrev pub of_stray : StrayFault → StrayFaultKind → Fault
of_stray r strays.Memory = faults.Means wants.Memory
of_stray r _ = faults.Input (inputs.Stray r)

-- want of memory and a failing source are no refusal of a stream
abbrev pub of_stream : StreamFault → StreamFaultKind → Fault
of_stream s streams.Memory = faults.Means wants.Memory
of_stream s streams.Device = faults.Means wants.Source
of_stream s _ = faults.Window (windows.Stream s)

-- a fault of the names of a stream, which are read from memory: what no device gives is want of memory
abbrev pub of_labels : LabelFault → LabelFaultKind → Fault
of_labels l labels.Memory = faults.Means wants.Memory
of_labels l labels.Device = faults.Means wants.Memory
of_labels l _ = faults.Window (windows.Names l)

-- a fault of a program text that stands in a file
abbrev pub of_read_beside : ReadFault → ReadFaultKind → Fault
of_read_beside r kinds.Memory = faults.Means wants.Memory
of_read_beside r _ = faults.Input (inputs.Beside (files.Program r))

-- a fault of the text of a record that stands in a file, which is read from memory: what no device gives is want of memory
abbrev pub of_record_beside : RecordFault → RecordFaultKind → Fault
of_record_beside r records.Memory = faults.Means wants.Memory
of_record_beside r records.Device = faults.Means wants.Memory
of_record_beside r _ = faults.Input (inputs.Beside (files.Record r))

-- a fault of a record that stands in a file, and strays from its program
abbrev pub of_stray_beside : StrayFault → StrayFaultKind → Fault
of_stray_beside r strays.Memory = faults.Means wants.Memory
of_stray_beside r _ = faults.Input (inputs.Beside (files.Stray r))

-- the fault of a serial run
abbrev pub of_serial : SerialFault → Fault
of_serial serial.Memory = faults.Means wants.Memory
of_serial serial.Behaviours = faults.Run runs.Behaviours

-- the fault of a draw
abbrev pub of_draw : DrawFault → Fault
of_draw draws.Memory = faults.Means wants.Memory
of_draw draws.Behaviours = faults.Run runs.Behaviours

-- the fault of a timed run
abbrev pub of_timed : TimedFault → Fault
of_timed timed.Memory = faults.Means wants.Memory
of_timed timed.Behaviours = faults.Run runs.Behaviours

-- want of memory is no fault of a run by threads
abbrev pub of_run : RunFault → Fault
of_run runs.Memory = faults.Means wants.Memory
of_run r = faults.Run r

-- the fault of a text that could not be written
abbrev pub of_write : WriteFault → Fault
of_write writes.Memory = faults.Means wants.Memory
of_write (writes.Device gone) = faults.Means (wants.Sink gone)

-- the number and the name of what is wrong with an edit
abbrev pub edit_line : EditFault → List ℕ
edit_line edits.NoRow = codes "1 NoRow"
edit_line edits.BelowSpawn = codes "2 BelowSpawn"
edit_line edits.TooManyTicks = codes "3 TooManyTicks"
edit_line edits.NoParent = codes "4 NoParent"
edit_line edits.NotBetween = codes "5 NotBetween"

-- the number and the name of what became of a run
abbrev pub run_line : RunFault → List ℕ
run_line runs.Memory = codes "1 Memory"
run_line runs.Behaviours = codes "2 Behaviours"
run_line runs.Held = codes "3 Held"
run_line runs.NoThread = codes "4 NoThread"
run_line runs.Stranger = codes "5 Stranger"
run_line runs.Unfinished = codes "6 Unfinished"

-- ---- the lines of standard error

-- a line that tells a number, and what is said of it
abbrev pub numbered : List ℕ → ℕ → List ℕ → List ℕ
numbered front number said = front ++ decimal number ++ codes ": " ++ said

-- the line of refused words, where it is the program's own: the parser has a text of its own
abbrev pub words_line : WordsFault → Option (List ℕ)
words_line (asked.Parser error) = None
words_line (asked.EditWord number) =
    Some (numbered (codes "boc: edit ") number (codes "not ROW=TICKS\n     an edit is ROW=TICKS, ROW@OFFSET, ROW=K/D or DEF=K/D"))
words_line asked.Memory = Some (codes "boc: memory")

-- the line of a refused file beside an input
abbrev pub file_line : FileFault → List ℕ
file_line (files.Program r) = numbered (codes "boc: program: line ") r.line (kind_text r.kind)
file_line (files.Record r) = numbered (codes "boc: record: line ") r.line (kind_line r.kind)
file_line (files.Stray r) = numbered (codes "boc: record: line ") r.line (stray_line r.kind)
file_line (files.Names r) = numbered (codes "boc: names: line ") r.line (names_line r.kind)

-- what is told where no row is of a def
abbrev pub no_def : List ℕ
no_def = codes "7 NoDef\n     no row is of this def; names are those of --program FILE or --names FILE"

-- the line of a refused input
abbrev pub input_line : InputFault → List ℕ
input_line (inputs.Program r) = numbered (codes "boc: line ") r.line (kind_text r.kind)
input_line (inputs.Record r) = numbered (codes "boc: line ") r.line (kind_line r.kind)
input_line (inputs.Cown number) = numbered (codes "boc: without ") number (codes "6 NoCown")
input_line (inputs.Early number) = numbered (codes "boc: early ") number no_def
input_line (inputs.Edit number fault) = numbered (codes "boc: edit ") number (edit_line fault)
input_line (inputs.Def number) = numbered (codes "boc: edit ") number no_def
input_line (inputs.Stray r) = numbered (codes "boc: line ") r.line (stray_line r.kind)
input_line (inputs.Beside f) = file_line f

-- the line of a stream that no window was cut out of
abbrev pub window_line : WindowFault → List ℕ
window_line (windows.Stream s) = numbered (codes "boc: line ") s.line (stream_kind_line s.kind)
window_line (windows.Names l) = numbered (codes "boc: names: line ") l.line (label_kind_line l.kind)
window_line windows.Unmade = codes "boc: window: 1 Unmade"

-- the line that says what a search did not look at: whether it was whole, and whether some run needs more rows than there may be
abbrev pub missed_line : Bool → Bool → List ℕ
missed_line false endless = codes "\n     the search stopped: a greater --most looks farther"
missed_line true true = codes "\n     runs that need more than 65,535 rows have no end"
missed_line true false = []

-- the lines of an end that there is not: its number, how many were found, and what the search did not look at
abbrev pub end_line : EndFault → List ℕ
end_line e = codes "boc: end " ++ decimal e.number ++ codes ": 1 NoEnd\n     ends found: " ++ decimal e.found ++ missed_line e.whole e.endless

-- the line of what was wanting
abbrev pub want_line : Want → List ℕ
want_line wants.Memory = codes "boc: memory"
want_line wants.Source = codes "boc: device"
want_line (wants.Sink gone) = codes "boc: device"

-- the line of a fault without its line feed, where it is the program's own
abbrev pub fault_line : Fault → Option (List ℕ)
fault_line (faults.Words w) = words_line w
fault_line (faults.Input i) = Some (input_line i)
fault_line (faults.Run r) = Some (codes "boc: run: " ++ run_line r)
fault_line faults.Unscheduled = Some (codes "boc: run: 7 Unscheduled")
fault_line (faults.Window w) = Some (window_line w)
fault_line (faults.End e) = Some (end_line e)
fault_line (faults.Means w) = Some (want_line w)

-- a text is the line, where there is one
abbrev pub IsLine : Option (List ℕ) → List ℕ → Type 0
IsLine None text = Unit {0}
IsLine (Some line) text = text ≡ line

-- a text is that of a fault; of the parser's nothing is said
abbrev pub IsLineOf : Fault → List ℕ → Type 0
IsLineOf fault text = IsLine (fault_line fault) text
