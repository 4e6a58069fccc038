-- Kinds of rows: those of one kind have the same cowns, and write the same of them.
use Rattle.std.specs.Prelude.{◌≡◌, ◌+◌, ◌*◌, ◌<◌, ◌↔◌, ℕ, cond, nat_eq, List, [], ◌∷◌, length, slice_index}
use Rattle.std.specs.List.{list_any}
use Rattle.boc_program.specs.declared.limits.TheConstants.{MOST_COWNS}
use Rattle.boc_runs.specs.declared.rows.Row.{Row}
use Rattle.boc_runs.specs.Rows.{cowns_of, written_of}

-- a number, a place for each cown behind it: twice the cown, and one more where it is written
abbrev pub code_from : ℕ → List ℕ → List ℕ → ℕ
code_from code [] written = code
code_from code (cown ∷ cowns) written = code_from (code * (2 * MOST_COWNS) + 2 * cown + cond (list_any (nat_eq cown) written) 1 0) cowns written

-- the cowns of a row, and which it writes, as one number
abbrev pub kind_code : List Row → ℕ → ℕ
kind_code rows r = code_from 1 (cowns_of rows r) (written_of rows r)

-- for each row the number of its kind, below the number of rows: rows with the same code have the same, and no others
pub record AreKinds (rows : List Row) (kinds : List ℕ) : Type 0 where
  pub whole : length kinds ≡ length rows
  pub below : (r : ℕ) → r < length rows → slice_index kinds r < length rows
  pub each : (a b : ℕ) → a < length rows → b < length rows → (slice_index kinds a ≡ slice_index kinds b) ↔ (kind_code rows a ≡ kind_code rows b)
