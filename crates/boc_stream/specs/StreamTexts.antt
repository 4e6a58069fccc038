-- The lines of a stream. They are those of a record but for its limits: numbers have up to 18 digits, a line up to 4,096 bytes, and a row any cowns.
use Rattle.std.specs.Prelude.{◌≡◌, ℕ, List, [], ◌∷◌, ◌++◌, codes}
use Rattle.boc_program.specs.declared.body.EndStatus.{EndStatus}
use Rattle.boc_record.specs.Fields.{IsApart}
use Rattle.boc_record.specs.RecordTexts.{Version, First, Second, version_number, fields, status_number}
use Rattle.boc_stream.specs.StreamFields.{IsShort, AreShort}
use Rattle.boc_stream.specs.declared.told.Told.{Told}
use Rattle.boc_stream.specs.declared.told.Told.TheVariants as tolds
use Rattle.boc_stream.specs.declared.told.Version.{Version as Named}
use Rattle.boc_stream.specs.declared.told.Version.TheVariants as names

-- the version that is named
abbrev pub spelling : Named → Version
spelling names.First = First
spelling names.Second = Second

-- the first line of a stream
abbrev pub stream_header : Version → ℕ → List ℕ
stream_header version cowns = codes "boc" ++ fields (version_number version ∷ cowns ∷ [])

-- what a line says without its last cowns: its sign, and numbers
abbrev pub sign_of : Told → ℕ
sign_of (tolds.Spawn row parent offset) = 43
sign_of (tolds.Start row) = 62
sign_of (tolds.End row ticks status) = 60
sign_of tolds.Last = 46

abbrev pub numbers_of : Told → List ℕ
numbers_of (tolds.Spawn row parent offset) = row ∷ parent ∷ offset ∷ []
numbers_of (tolds.Start row) = row ∷ []
numbers_of (tolds.End row ticks status) = row ∷ ticks ∷ status_number status ∷ []
numbers_of tolds.Last = []

-- what a line has that says so much, and has these cowns at its end
abbrev pub told_line : Told → List ℕ → List ℕ
told_line told cowns = sign_of told ∷ fields (numbers_of told ++ cowns)

-- A line may have cowns at its end: those of a row that is spawned, and in the second version those that a row wrote.
abbrev pub MayHave : Version → Told → List ℕ → Type 0
MayHave version (tolds.Spawn row parent offset) cowns = Unit {0}
MayHave version (tolds.Start row) cowns = cowns ≡ []
MayHave First (tolds.End row ticks status) cowns = cowns ≡ []
MayHave Second (tolds.End row ticks status) cowns = Unit {0}
MayHave version tolds.Last cowns = cowns ≡ []

-- a line says so much, with these cowns
pub record Says (version : Version) (line : List ℕ) (told : Told) (cowns : List ℕ) : Type 0 where
  pub numbers : AreShort (numbers_of told)
  pub cowns_small : AreShort cowns
  pub may : MayHave version told cowns
  pub is : line ≡ told_line told cowns

-- behind a sign a text says so much, and this stands behind it
pub record FollowsSign (sign : ℕ) (text : List ℕ) (told : Told) (rest : List ℕ) : Type 0 where
  pub sign_is : sign_of told ≡ sign
  pub numbers : AreShort (numbers_of told)
  pub is : text ≡ fields (numbers_of told) ++ rest
  pub apart : IsApart rest

-- a line says so much, and this stands behind it
pub record SaysFront (line : List ℕ) (told : Told) (rest : List ℕ) : Type 0 where
  pub numbers : AreShort (numbers_of told)
  pub is : line ≡ sign_of told ∷ fields (numbers_of told) ++ rest
  pub apart : IsApart rest
