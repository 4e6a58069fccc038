-- Lines of a source: what a call gives of the bytes that are still to come.
use Rattle.std.specs.Prelude.{◌≡◌, ◌≢◌, ℕ, ◌+◌, ◌≤◌, ◌<◌, Bool, true, false, List, [], ◌++◌, length, take, slice_index, codes, All, Option, IfSome}
use Rattle.std.specs.Io.KnownBytes.{prepend_known, Keeps, Consumes, IsAtEnd}
use Rattle.boc_stream.specs.declared.lines.Found.{Found}
use Rattle.boc_stream.specs.declared.lines.Found.TheVariants as founds
use Rattle.boc_stream.specs.declared.lines.Front.{Front}
use Rattle.boc_stream.specs.declared.lines.Front.TheVariants as fronts
use Rattle.boc_stream.specs.declared.lines.TheConstants.{MOST_LINE}

-- the line that was found last, the bytes that are taken in and not given yet, and whether no more lines are given
pub record LinesState : Type 0 where
  pub line : List ℕ
  pub buffered : List ℕ
  pub is_over : Bool

-- the bytes that are still to come: those that are taken in, and then those that the source has, where it tells them
abbrev pub to_come : LinesState → Option (List ℕ) → Option (List ℕ)
to_come lines remaining = prepend_known lines.buffered remaining

-- no byte is a line feed
abbrev pub HasNoLineFeed : List ℕ → Type 0
HasNoLineFeed bytes = All (λ b. b ≢ 10) bytes

-- a line and its line feed were taken from the front
pub record GivesLine (line : List ℕ) (before after : Option (List ℕ)) : Type 0 where
  pub unbroken : HasNoLineFeed line
  pub few : length line ≤ MOST_LINE
  pub taken : Consumes before after (line ++ codes "\n")

-- the bytes to come are the beginning of a line, some bytes of it
pub record EndsInLine (known : Option (List ℕ)) : Type 0 where
  pub beginning : List ℕ
  pub some : 0 < length beginning
  pub unbroken : HasNoLineFeed beginning
  pub few : length beginning ≤ MOST_LINE
  pub whole : IfSome known (λ bytes. bytes ≡ beginning)

-- the bytes to come begin with more bytes than a line may have, none of them a line feed
pub record IsTooLong (known : Option (List ℕ)) : Type 0 where
  pub beginning : List ℕ
  pub many : length beginning ≡ MOST_LINE + 1
  pub unbroken : HasNoLineFeed beginning
  pub front : IfSome known (λ bytes. take (MOST_LINE + 1) bytes ≡ beginning)

-- what was found of the bytes that were to come, and of those that still are: only a line takes some of them
abbrev pub Finds : Found → List ℕ → Option (List ℕ) → Option (List ℕ) → Type 0
Finds founds.Line line before after = GivesLine line before after
Finds founds.End line before after = IsAtEnd before × Keeps before after
Finds founds.Cut line before after = EndsInLine before × Keeps before after
Finds founds.TooLong line before after = IsTooLong before × Keeps before after
Finds founds.Device line before after = Keeps before after

-- at the end and at a cut line the source has no more bytes
abbrev pub Exhausts : Found → Option (List ℕ) → Type 0
Exhausts founds.Line rest = Unit {0}
Exhausts founds.End rest = IsAtEnd rest
Exhausts founds.Cut rest = IsAtEnd rest
Exhausts founds.TooLong rest = Unit {0}
Exhausts founds.Device rest = Unit {0}

-- where the source failed, what is taken in and not given is the beginning of a line, which is not too long so far
abbrev pub LeavesOpen : Found → List ℕ → Type 0
LeavesOpen founds.Device ahead = HasNoLineFeed ahead × (length ahead ≤ MOST_LINE)
LeavesOpen _ ahead = Unit {0}

-- the lines are over after each answer but a line
abbrev pub ends_lines : Found → Bool
ends_lines founds.Line = false
ends_lines founds.End = true
ends_lines founds.Cut = true
ends_lines founds.TooLong = true
ends_lines founds.Device = true

-- a failure was counted where the source failed, and there alone
abbrev pub CountsFound : Found → ℕ → ℕ → Type 0
CountsFound founds.Device old new = new ≡ old + 1
CountsFound founds.Line old new = new ≡ old
CountsFound founds.End old new = new ≡ old
CountsFound founds.Cut old new = new ≡ old
CountsFound founds.TooLong old new = new ≡ old

-- what stands at the front of bytes
abbrev pub TellsFront : Front → List ℕ → Type 0
TellsFront (fronts.Line len) bytes = (len ≤ MOST_LINE) × (len < length bytes) × (slice_index bytes len ≡ 10) × HasNoLineFeed (take len bytes)
TellsFront fronts.Open bytes = (length bytes ≤ MOST_LINE) × HasNoLineFeed bytes
TellsFront fronts.TooLong bytes = (MOST_LINE < length bytes) × HasNoLineFeed (take (MOST_LINE + 1) bytes)
