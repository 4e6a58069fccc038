-- What a text that was to be written has done to a sink.
use Rattle.std.specs.Prelude.{◌≡◌, ℕ, ◌+◌, List, Option, Result, Ok, Err}
use Rattle.std.specs.Io.KnownBytes.{Appends, Keeps}
use Rattle.boc_text.specs.Streams.{StopsAt}
use Rattle.boc_text.specs.declared.fault.WriteFault.{WriteFault}
use Rattle.boc_text.specs.declared.fault.WriteFault.TheVariants.{Memory, Device}

-- the text went out and nothing else; or its first `gone` bytes; or nothing
abbrev pub Writes : {A : Type 0} → List ℕ → Result A WriteFault → Option (List ℕ) → Option (List ℕ) → Type 0
Writes text (Ok done) old new = Appends old new text
Writes text (Err (Device gone)) old new = StopsAt gone text old new
Writes text (Err Memory) old new = Keeps old new

-- the sink failed where that is the answer, and there alone
abbrev pub CountsWrite : {A : Type 0} → Result A WriteFault → ℕ → ℕ → Type 0
CountsWrite (Ok done) old new = new ≡ old
CountsWrite (Err (Device gone)) old new = new ≡ old + 1
CountsWrite (Err Memory) old new = new ≡ old
