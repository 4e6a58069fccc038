-- The rows of a serial run along rows, each of which was wished for.
use Rattle.std.specs.Prelude.{◌≡◌, ℕ, List, [], ◌∷◌, Option, Some, None, map}
use Rattle.boc_program.specs.declared.program.Program.{Program}
use Rattle.boc_runs.specs.declared.rows.Row.{Row}
use Rattle.boc_runs.specs.Serial.{Behaviour, SerialRow, Serial, next_behaviour, after_turn, serial_along}
use Rattle.boc_lines.specs.Charges.{Charge}
use Rattle.boc_lines.specs.Replays.{Fits, charges_of, meaning_of}

-- there is a behaviour
abbrev pub IsWished : Option Behaviour → Type 0
IsWished None = ⊥
IsWished (Some b) = Unit {0}

-- each row that comes next is main, or a wish of its parent
abbrev pub AreWished : Program → Serial → List ℕ → Type 0
AreWished p s [] = Unit {0}
AreWished p s (parent ∷ parents) = IsWished (next_behaviour s.rows parent) × AreWished p (after_turn p s parent) parents

-- what a row of a serial run was charged
abbrev pub charges_of_row : Program → SerialRow → List Charge
charges_of_row p r = charges_of p r.behaviour r.inputs

-- a row is that of the behaviour that comes next, if this one does: it is one of the program, and takes as many ticks at once
abbrev pub IsRowOf : Program → Serial → Row → Option Behaviour → Type 0
IsRowOf p s row None = ⊥
IsRowOf p s row (Some b) = Fits p b × ((meaning_of p b s.values).ticks ≡ row.ticks)

-- The rows that come next are those of a run of the program: each is main, or the next wish of its parent, and took the ticks that its body takes on what the
-- rows before it left.
abbrev pub AreRun : Program → Serial → List Row → Type 0
AreRun p s [] = Unit {0}
AreRun p s (row ∷ rows) = IsRowOf p s row (next_behaviour s.rows row.parent) × AreRun p (after_turn p s row.parent) rows

-- the parents of rows
abbrev pub parents : List Row → List ℕ
parents rows = map (λ r. r.parent) rows

-- the behaviours of the rows of a serial run along these
abbrev pub behaviours_of : Program → List Row → List Behaviour
behaviours_of p rows = map (λ r. r.behaviour) (serial_along p (parents rows)).rows

-- the rows are those of a run of the program, and these are their behaviours
pub record AreBehavioursOf (p : Program) (rows : List Row) (behaviours : List Behaviour) : Type 0 where
  pub run : AreRun p (serial_along p []) rows
  pub are : behaviours ≡ behaviours_of p rows
