-- A program run serially along rows: the bodies of the rows run one at a time, each at once, in the order of the rows' numbers.
use Rattle.std.specs.Prelude.{ℕ, nat_eq, List, [], ◌∷◌, ◌++◌, Option, Some, None, map, option_map, count_by, ℤ, pos, slice_get, slice_set, slice_index_or}
use Rattle.boc_program.specs.declared.body.Body.{Body}
use Rattle.boc_program.specs.declared.body.EndStatus.TheVariants.{Done}
use Rattle.boc_program.specs.declared.program.Program.{Program}
use Rattle.boc_program.specs.declared.short.Input.{Input}
use Rattle.boc_program.specs.Meaning.{Wish, Meaning, meaning}
use Rattle.boc_program.specs.Programs.{initial_values}

-- a behaviour: the kind of its body, its arguments, and its cowns in parameter order
pub record Behaviour : Type 0 where
  pub kind : ℕ
  pub args : List ℤ
  pub cowns : List ℕ

-- main, which takes nothing
abbrev pub main_behaviour : Behaviour
main_behaviour = record { kind = 0; args = []; cowns = [] }

-- the behaviour that a wish asks for
abbrev pub behaviour_of : Wish → Behaviour
behaviour_of w = record { kind = w.kind; args = w.args; cowns = w.cowns }

-- cowns with their current values
abbrev pub inputs_of : List ℕ → List ℤ → List Input
inputs_of cowns values = map (λ c. let i : Input = record { cown = c; value = slice_index_or values c (pos 0) } in i) cowns

-- the values after outputs are written to cowns, each to its own
abbrev pub after_outputs : List ℤ → List ℕ → List ℤ → List ℤ
after_outputs values (c ∷ cs) (v ∷ vs) = after_outputs (slice_set values c v) cs vs
after_outputs values [] vs = values
after_outputs values (c ∷ cs) [] = values

-- a row that had its turn: the number of its parent, its behaviour, the inputs that its body ran on, and what its body meant
pub record SerialRow : Type 0 where
  pub parent : ℕ
  pub behaviour : Behaviour
  pub inputs : List Input
  pub means : Meaning

-- the rows that had their turns, in the order of their numbers, and the cowns' values
pub record Serial : Type 0 where
  pub rows : List SerialRow
  pub values : List ℤ

-- what is meant where no body is there: nothing
abbrev pub no_meaning : Meaning
no_meaning = record { wishes = []; outputs = []; ticks = 0; status = Done; written = [] }

-- what a body means, if it is there
abbrev pub meaning_if : Option Body → List ℤ → List Input → Meaning
meaning_if None args inputs = no_meaning
meaning_if (Some body) args inputs = meaning body args inputs

-- the wish of a row at this place, if both are there
abbrev pub wish_of_row : Option SerialRow → ℕ → Option Wish
wish_of_row None place = None
wish_of_row (Some row) place = slice_get row.means.wishes place

-- how many of these rows have this parent
abbrev pub children : ℕ → List SerialRow → ℕ
children parent rows = count_by (λ row. nat_eq row.parent parent) rows

-- the behaviour of the row that comes next: main where no row is there yet, else the first wish of its parent that is no row yet
abbrev pub next_behaviour : List SerialRow → ℕ → Option Behaviour
next_behaviour [] parent = Some main_behaviour
next_behaviour (main ∷ others) parent =
    option_map behaviour_of (wish_of_row (slice_get (main ∷ others) parent) (children parent others))

-- the row of a behaviour, whose body runs at once on these values; where there is no behaviour, a row that does nothing
abbrev pub run_at_once : Program → List ℤ → ℕ → Option Behaviour → SerialRow
run_at_once p values parent None = record { parent = parent; behaviour = main_behaviour; inputs = []; means = no_meaning }
run_at_once p values parent (Some b) = record {
  parent = parent;
  behaviour = b;
  inputs = inputs_of b.cowns values;
  means = meaning_if (slice_get p.bodies b.kind) b.args (inputs_of b.cowns values);
}

-- with one row more, whose outputs are written to its cowns
abbrev pub with_row : Serial → SerialRow → Serial
with_row s row = record { rows = s.rows ++ row ∷ []; values = after_outputs s.values row.behaviour.cowns row.means.outputs }

-- the row that comes next has its turn
abbrev pub after_turn : Program → Serial → ℕ → Serial
after_turn p s parent = with_row s (run_at_once p s.values parent (next_behaviour s.rows parent))

-- the rows that come next have their turns, each given by the number of its parent
abbrev pub after_turns : Program → Serial → List ℕ → Serial
after_turns p s [] = s
after_turns p s (parent ∷ parents) = after_turns p (after_turn p s parent) parents

-- a program run serially along rows, each given by the number of its parent; main's is 0
abbrev pub serial_along : Program → List ℕ → Serial
serial_along p parents = after_turns p (record { rows = []; values = initial_values p.cowns }) parents
