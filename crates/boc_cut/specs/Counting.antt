-- How many calls of a source failed.
use Rattle.std.specs.Prelude.{◌≡◌, ℕ, ◌+◌, Result, Ok, Err}
use Rattle.boc_stream.specs.declared.fault.StreamFault.{StreamFault}
use Rattle.boc_stream.specs.declared.fault.StreamFaultKind.{StreamFaultKind}
use Rattle.boc_stream.specs.declared.fault.StreamFaultKind.TheVariants as kinds
use Rattle.boc_cut.specs.declared.cutting.CutFault.{CutFault}
use Rattle.boc_cut.specs.declared.cutting.CutFault.TheVariants as cuts

-- the source failed where that is the answer, and there alone
abbrev pub CountsKind : StreamFaultKind → ℕ → ℕ → Type 0
CountsKind kinds.Device old new = new ≡ old + 1
CountsKind _ old new = new ≡ old

-- this kind of fault doesn't say that the source failed
abbrev pub SparesSource : StreamFaultKind → Type 0
SparesSource kind = (n : ℕ) → CountsKind kind n n

-- a call that reads failed with a kind of fault, or did not
abbrev pub CountsPart : {A : Type 0} → Result A StreamFaultKind → ℕ → ℕ → Type 0
CountsPart (Ok r) old new = new ≡ old
CountsPart (Err kind) old new = CountsKind kind old new

-- the same with the line of the fault
abbrev pub CountsFault : {A : Type 0} → Result A StreamFault → ℕ → ℕ → Type 0
CountsFault (Ok r) old new = new ≡ old
CountsFault (Err fault) old new = CountsKind fault.kind old new

-- the same of a stream that is cut: what was made of it says nothing of the source
abbrev pub CountsCut : {A : Type 0} → Result A CutFault → ℕ → ℕ → Type 0
CountsCut (Ok r) old new = new ≡ old
CountsCut (Err (cuts.Stream fault)) old new = CountsKind fault.kind old new
CountsCut (Err (cuts.Broken rule)) old new = new ≡ old
