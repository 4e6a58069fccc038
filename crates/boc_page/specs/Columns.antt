-- The columns of a data block.
use Rattle.std.specs.Prelude.{◌≡◌, ◌≢◌, ℕ, suc, Bool, true, false, ◌+◌, ◌*◌, ◌==◌, List, [], ◌∷◌, ◌++◌, length, cond, Some, slice_get}
use Rattle.std.specs.List.{list_any}
use Rattle.std.specs.Option.{option_map_or}
use Rattle.boc_program.specs.declared.body.EndStatus.{EndStatus}
use Rattle.boc_program.specs.declared.body.EndStatus.TheVariants.{Done, Overflow, ZeroDivisor, OutOfRange, SameCown, Negative, TickCap}
use Rattle.boc_runs.specs.declared.rows.Row.{Row}
use Rattle.boc_names.specs.declared.names.Names.{Names}
use Rattle.boc_names.specs.Names.{Text, text_at, texts_of}
use Rattle.boc_greedy.specs.declared.points.CurvePoint.{CurvePoint}
use Rattle.boc_page.specs.declared.defs.Defs.{Defs}

-- ---- rows

-- the cowns of a row, rising
abbrev pub cowns_of : Row → List ℕ
cowns_of row = row.cowns.items

-- whether a number is among these
abbrev pub is_among : List ℕ → ℕ → Bool
is_among numbers n = list_any (λ m. m == n) numbers

-- the sum of 2^k for each place k of a cown that was written, where the first place is worth so much
abbrev pub wrote_from : ℕ → List ℕ → List ℕ → ℕ
wrote_from bit written [] = 0
wrote_from bit written (cown ∷ cowns) = cond (is_among written cown) bit 0 + wrote_from (bit * 2) written cowns

-- the same of a row
abbrev pub wrote_of : Row → ℕ
wrote_of row = wrote_from 1 row.written.items row.cowns.items

-- the number of a status
abbrev pub status_number : EndStatus → ℕ
status_number Done = 0
status_number Overflow = 1
status_number ZeroDivisor = 2
status_number OutOfRange = 3
status_number SameCown = 4
status_number Negative = 5
status_number TickCap = 6

-- the rows from number r on that did not end with status 0, each with its status
abbrev pub faults_from : ℕ → List Row → List (List ℕ)
faults_from r [] = []
faults_from r (row ∷ rows) = cond (status_number row.status == 0) (faults_from (suc r) rows) ((r ∷ status_number row.status ∷ []) ∷ faults_from (suc r) rows)

-- ---- names

-- whether a blank is in a name, so that it is none, but words such as `row 7`
abbrev pub has_blank : Text → Bool
has_blank name = is_among name 32

-- the name of a def as a page lists it
abbrev pub shown_name : Text → Text
shown_name name = cond (has_blank name) [] name

-- The defs that a page lists: each row's place among them is that of its def's name, and rows without a name are of one def.
pub record AreDefs (names : Names) (defs : Defs) : Type 0 where
  pub whole : length defs.of_rows.items ≡ length names.defs.items
  pub at : (r d place : ℕ) → slice_get names.defs.items r ≡ Some d → slice_get defs.of_rows.items r ≡ Some place
      → text_at (texts_of defs.names.items) place ≡ shown_name (text_at (texts_of names.def_names.items) d)
  pub nameless : (a b : ℕ) → slice_get (texts_of defs.names.items) a ≡ Some [] → slice_get (texts_of defs.names.items) b ≡ Some [] → a ≡ b

-- the name of a row's def, and none where there is no such row or def
abbrev pub def_name : Names → ℕ → Text
def_name names r = option_map_or (λ d. text_at (texts_of names.def_names.items) d) (slice_get names.defs.items r) []

-- What follows the name of its def in the name of a row. Of a row without a name it is empty, and so it is where the row's name does not begin with the def's.
pub record IsArgs (def row rest : Text) : Type 0 where
  pub named : (after : Text) → has_blank def ≡ false → row ≡ def ++ after → rest ≡ after
  pub apart : ((after : Text) → row ≢ def ++ after) → rest ≡ []
  pub nameless : has_blank def ≡ true → rest ≡ []

-- What follows the names of their defs in the names of rows, for each row.
pub record AreArgs (names : Names) (args : List Text) : Type 0 where
  pub whole : length args ≡ length names.rows.items
  pub at : (r : ℕ) (row rest : Text) → slice_get (texts_of names.rows.items) r ≡ Some row → slice_get args r ≡ Some rest
      → IsArgs (def_name names r) row rest

-- ---- plans

-- of a point of a curve the end of the greedy plan, the tick before which no plan ends, and the bound
abbrev pub point_numbers : CurvePoint → List ℕ
point_numbers point = point.end ∷ point.low ∷ point.bound ∷ []
