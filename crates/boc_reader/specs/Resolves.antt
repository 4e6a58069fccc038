-- What the pass over the names of a text answers.
use Rattle.std.specs.Prelude.{◌≡◌, Option, Some, None, Result, Ok, Err}
use Rattle.boc_program.specs.declared.program.Program.{Program}
use Rattle.boc_reader.specs.Names.{PlainProgram}
use Rattle.boc_reader.specs.Spells.{plain_program}
use Rattle.boc_reader.specs.declared.fault.Unresolved.{Unresolved}
use Rattle.boc_reader.specs.declared.fault.Unresolved.TheVariants.{Memory, WrongName}

-- a program is the one that the names give, and one of them is wrong where they give none, unless memory was refused
abbrev pub Resolves : Result Program Unresolved → Option PlainProgram → Type 0
Resolves (Ok p) found = found ≡ Some (plain_program p)
Resolves (Err Memory) found = Unit {0}
Resolves (Err WrongName) found = found ≡ None
