-- The numbers and the names of the faults of a program text.
use Rattle.std.specs.Prelude.{ℕ, List, codes}
use Rattle.boc_reader.specs.declared.fault.ReadFaultKind.{ReadFaultKind}
use Rattle.boc_reader.specs.declared.fault.ReadFaultKind.TheVariants as kinds

-- the number and the name of a kind of fault
abbrev pub kind_text : ReadFaultKind → List ℕ
kind_text kinds.NotAscii = codes "1 NotAscii"
kind_text kinds.BadToken = codes "2 BadToken"
kind_text kinds.Unexpected = codes "3 Unexpected"
kind_text kinds.NumberTooLarge = codes "4 NumberTooLarge"
kind_text kinds.UnknownName = codes "5 UnknownName"
kind_text kinds.NameTaken = codes "6 NameTaken"
kind_text kinds.WrongCount = codes "7 WrongCount"
kind_text kinds.TooMany = codes "8 TooMany"
kind_text kinds.TooLong = codes "9 TooLong"
kind_text kinds.Memory = codes "10 Memory"
