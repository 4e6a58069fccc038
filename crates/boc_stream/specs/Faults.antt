-- The numbers and the names of the faults of a stream, and of a file of names for it.
use Rattle.std.specs.Prelude.{ℕ, List, codes}
use Rattle.boc_stream.specs.declared.fault.StreamFaultKind.{StreamFaultKind}
use Rattle.boc_stream.specs.declared.fault.StreamFaultKind.TheVariants as kinds
use Rattle.boc_stream.specs.declared.fault.LabelFaultKind.{LabelFaultKind}
use Rattle.boc_stream.specs.declared.fault.LabelFaultKind.TheVariants as labels

-- the number and the name of a kind of fault of a stream
abbrev pub stream_kind_line : StreamFaultKind → List ℕ
stream_kind_line kinds.Form = codes "2 Form"
stream_kind_line kinds.NumberNotNext = codes "3 NumberNotNext"
stream_kind_line kinds.ParentNotRunning = codes "4 ParentNotRunning"
stream_kind_line kinds.Offset = codes "5 Offset"
stream_kind_line kinds.Cowns = codes "6 Cowns"
stream_kind_line kinds.StartNotAllowed = codes "7 StartNotAllowed"
stream_kind_line kinds.EndNotAllowed = codes "8 EndNotAllowed"
stream_kind_line kinds.Unended = codes "10 Unended"
stream_kind_line kinds.Truncated = codes "11 Truncated"
stream_kind_line kinds.After = codes "12 After"
stream_kind_line kinds.Memory = codes "13 Memory"
stream_kind_line kinds.Device = codes "14 Device"
stream_kind_line kinds.LongLine = codes "18 LongLine"
stream_kind_line kinds.ManyAlive = codes "19 ManyAlive"
stream_kind_line kinds.ManyCowns = codes "20 ManyCowns"
stream_kind_line kinds.BeyondEnd = codes "21 BeyondEnd"

-- the number and the name of a kind of fault of a file of names
abbrev pub label_kind_line : LabelFaultKind → List ℕ
label_kind_line labels.Cut = codes "1 Cut"
label_kind_line labels.TooLong = codes "2 TooLong"
label_kind_line labels.Form = codes "3 Form"
label_kind_line labels.Twice = codes "6 Twice"
label_kind_line labels.Memory = codes "7 Memory"
label_kind_line labels.Device = codes "8 Device"
label_kind_line labels.TooMany = codes "9 TooMany"
