-- What the rows of a serial run wished for, as it is kept.
use Rattle.std.specs.Prelude.{◌≡◌, ℕ, Bool, true, false, List, [], ◌∷◌, ◌++◌, ℤ, Option, Some, length, map, get_or, slice_get, slice_index}
use Rattle.boc_program.specs.declared.program.Program.{Program}
use Rattle.boc_runs.specs.declared.rows.Row.{Row}
use Rattle.boc_runs.specs.Serial.{Behaviour, SerialRow, Serial, behaviour_of, main_behaviour, children, next_behaviour, after_turn}
use Rattle.boc_eval.specs.Instances.{behaviour_in}
use Rattle.boc_eval.specs.declared.instance.Instance.{Instance}
use Rattle.boc_lines.specs.Books.{add_at}
use Rattle.boc_lines.specs.declared.along.Along.{Along}
use Rattle.boc_lines.specs.SerialRuns.{IsRowOf}

-- what a row wished for
abbrev pub wishes_of_row : SerialRow → List Behaviour
wishes_of_row r = map behaviour_of r.means.wishes

-- how many rows of a serial run have this parent; main has none
abbrev pub children_in : List SerialRow → ℕ → ℕ
children_in [] parent = 0
children_in (main ∷ others) parent = children parent others

-- the behaviour of the next row, where each row wished for these, and so many of its wishes are rows
abbrev pub next_of : List (List Behaviour) → List ℕ → ℕ → Option Behaviour
next_of [] taken parent = Some main_behaviour
next_of (own ∷ wished) taken parent = slice_get (get_or (own ∷ wished) parent []) (slice_index taken parent)

-- this is kept of a serial run so far, and these are the values of the cowns
pub record Stands (s : Serial) (values : List ℤ) (along : Along) : Type 0 where
  pub values_are : values ≡ s.values
  pub behaviours : map behaviour_in along.behaviours.items ≡ map (λ r. r.behaviour) s.rows
  pub wished : map (λ own. map behaviour_in own.items) along.wished.items ≡ map wishes_of_row s.rows
  pub many : length along.taken.items ≡ length s.rows
  pub taken : (parent : ℕ) → slice_index along.taken.items parent ≡ children_in s.rows parent

-- a row was put behind the others, a wish of this parent
pub record HasPut (before : Along) (parent : ℕ) (instance : Instance) (wished : List Behaviour) (after : Along) : Type 0 where
  pub behaviours : after.behaviours.items ≡ before.behaviours.items ++ instance ∷ []
  pub wished_are : map (λ own. map behaviour_in own.items) after.wished.items ≡ map (λ own. map behaviour_in own.items) before.wished.items ++ wished ∷ []
  pub taken : after.taken.items ≡ add_at before.taken.items parent 1 ++ 0 ∷ []

-- the next row was taken, or it is none of a run
abbrev pub Took : Program → Serial → Row → Bool → List ℤ → Along → Type 0
Took p s row true values after = IsRowOf p s row (next_behaviour s.rows row.parent) × Stands (after_turn p s row.parent) values after
Took p s row false values after = IsRowOf p s row (next_behaviour s.rows row.parent) → ⊥
