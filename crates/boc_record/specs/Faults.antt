-- The numbers and the names of the faults of a record's text.
use Rattle.std.specs.Prelude.{ℕ, List, codes}
use Rattle.boc_record.specs.declared.verdict.RecordFaultKind.{RecordFaultKind}
use Rattle.boc_record.specs.declared.verdict.RecordFaultKind.TheVariants as kinds

-- the number and the name of a kind of fault
abbrev pub kind_line : RecordFaultKind → List ℕ
kind_line kinds.Header = codes "1 Header"
kind_line kinds.Form = codes "2 Form"
kind_line kinds.NumberNotNext = codes "3 NumberNotNext"
kind_line kinds.ParentNotRunning = codes "4 ParentNotRunning"
kind_line kinds.Offset = codes "5 Offset"
kind_line kinds.Cowns = codes "6 Cowns"
kind_line kinds.StartNotAllowed = codes "7 StartNotAllowed"
kind_line kinds.EndNotAllowed = codes "8 EndNotAllowed"
kind_line kinds.TooMany = codes "9 TooMany"
kind_line kinds.Unended = codes "10 Unended"
kind_line kinds.Truncated = codes "11 Truncated"
kind_line kinds.After = codes "12 After"
kind_line kinds.Memory = codes "13 Memory"
kind_line kinds.Device = codes "14 Device"
