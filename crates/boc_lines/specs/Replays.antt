-- Rows of a program that run again, one after another in the order of their numbers, each at once.
use Rattle.std.specs.Prelude.{◌≡◌, ℕ, zero, suc, ◌+◌, ◌<◌, min, List, [], ◌∷◌, ◌++◌, ℤ, Option, Some, None, length, map, slice_get, slice_index, sum}
use Rattle.boc_program.specs.declared.body.Body.{Body}
use Rattle.boc_program.specs.declared.program.Program.{Program}
use Rattle.boc_program.specs.declared.short.Input.{Input}
use Rattle.boc_program.specs.Syntax.{code_size}
use Rattle.boc_program.specs.Meaning.{Meaning}
use Rattle.boc_program.specs.Signatures.{AllBelow}
use Rattle.boc_program.specs.Programs.{cown_count, initial_values}
use Rattle.boc_runs.specs.Serial.{Behaviour, inputs_of, after_outputs, meaning_if}
use Rattle.boc_lines.specs.Charges.{Charge, bill, total, ticks_of, first_ticks}

-- The number of a body's start, where those of the bodies before it come first: each body has a number for its start, and then one for each of its statements.
abbrev pub start_of : List Body → ℕ → ℕ
start_of [] kind = 0
start_of (b ∷ bodies) zero = 0
start_of (b ∷ bodies) (suc kind) = 1 + code_size b.block + start_of bodies kind

-- how many numbers bodies have
abbrev pub numbers : List Body → ℕ
numbers [] = 0
numbers (b ∷ bodies) = 1 + code_size b.block + numbers bodies

-- what a body is charged, if it is there
abbrev pub bill_if : ℕ → Option Body → List ℤ → List Input → List Charge
bill_if first None args inputs = []
bill_if first (Some body) args inputs = (bill first body args inputs).charges

-- what a behaviour of a program is charged
abbrev pub charges_of : Program → Behaviour → List Input → List Charge
charges_of p b inputs = bill_if (start_of p.bodies b.kind) (slice_get p.bodies b.kind) b.args inputs

-- what a behaviour of a program means that runs at once on these values
abbrev pub meaning_of : Program → Behaviour → List ℤ → Meaning
meaning_of p b values = meaning_if (slice_get p.bodies b.kind) b.args (inputs_of b.cowns values)

-- the values of the cowns after a behaviour has run at once on these
abbrev pub values_after : Program → Behaviour → List ℤ → List ℤ
values_after p b values = after_outputs values b.cowns (meaning_of p b values).outputs

-- what each of some behaviours is charged, which run one after another from these values on
abbrev pub charges_along : Program → List ℤ → List Behaviour → List (List Charge)
charges_along p values [] = []
charges_along p values (b ∷ behaviours) = charges_of p b (inputs_of b.cowns values) ∷ charges_along p (values_after p b values) behaviours

-- all charges of rows
abbrev pub all_charges : List (List Charge) → List Charge
all_charges [] = []
all_charges (row ∷ rows) = row ++ all_charges rows

-- of each row the charges of its first ticks, as many as this list says
abbrev pub charges_through : List ℕ → List (List Charge) → List Charge
charges_through [] rows = []
charges_through (n ∷ through) [] = []
charges_through (n ∷ through) (row ∷ rows) = first_ticks n row ++ charges_through through rows

-- of each number below `count`, the ticks that it was charged
pub record AreTicksOf (count : ℕ) (charges : List Charge) (counts : List ℕ) : Type 0 where
  pub all : length counts ≡ count
  pub each : (k : ℕ) → k < count → slice_index counts k ≡ ticks_of k charges

-- a behaviour is one of the program: its body is there, takes as many arguments and cowns, and the cowns are there
pub record Fits (p : Program) (b : Behaviour) : Type 0 where
  pub body : Body
  pub is : slice_get p.bodies b.kind ≡ Some body
  pub args : length b.args ≡ body.params
  pub cowns : length b.cowns ≡ body.cown_params
  pub below : AllBelow (cown_count p.cowns) b.cowns

-- each of some behaviours is
abbrev pub AllFit : Program → List Behaviour → Type 0
AllFit p behaviours = (row : ℕ) (b : Behaviour) → slice_get behaviours row ≡ Some b → Fits p b

-- the smaller one of two numbers at each place
abbrev pub least_of_each : List ℕ → List ℕ → List ℕ
least_of_each [] ns = []
least_of_each (m ∷ ms) [] = []
least_of_each (m ∷ ms) (n ∷ ns) = min m n ∷ least_of_each ms ns

-- The ticks of each number in the rows of a program, all of them and those of each row's first ticks. Together they are those of the rows.
pub record AreRowTicks (p : Program) (behaviours : List Behaviour) (through ticks chain : List ℕ) : Type 0 where
  pub all : AreTicksOf (numbers p.bodies) (all_charges (charges_along p (initial_values p.cowns) behaviours)) ticks
  pub chained : AreTicksOf (numbers p.bodies) (charges_through through (charges_along p (initial_values p.cowns) behaviours)) chain
  pub all_sum : sum ticks ≡ sum (map total (charges_along p (initial_values p.cowns) behaviours))
  pub chain_sum : sum chain ≡ sum (least_of_each through (map total (charges_along p (initial_values p.cowns) behaviours)))
