-- The uses of rows tried on a program: one row's test depends on the row before it, and one row has its cowns in another order than that of their numbers.
use Rattle.std.proofs.Common.{◌≡◌, ℕ, Bool, true, false, List, [], ◌∷◌, Option, Some, None, refl, codes, ℤ, pos}
use Rattle.boc_program.specs.declared.body.Operator.TheVariants.{Add}
use Rattle.boc_program.specs.declared.body.Body.{Body}
use Rattle.boc_program.specs.declared.program.Program.{Program}
use Rattle.boc_program.specs.declared.short.Input.{Input}
use Rattle.boc_program.specs.Syntax.{Number, Slot, Binary, Single, Done, Assign, If, When}
use Rattle.boc_program.proofs.examples.Samples.{body_of, program_of}
use Rattle.boc_runs.specs.Lives.{Ended}
use Rattle.boc_runs.specs.Run.{Member}
use Rattle.boc_runs.specs.Serial.{Behaviour, main_behaviour}
use Rattle.boc_uses.specs.declared.uses.Use.{Use}
use Rattle.boc_row_uses.specs.RowUses.{behaviour_uses, row_uses}
use Rattle.boc_row_uses.specs.InTurn.{uses_in_turn, values_after}

-- cown a = 0; cown b = 1; def inc(; x) { x = x + 1; } def test(; x) { if x { x = x; } } def move(; x, y) { x = y; y = 7; }
-- main { when inc(; a); when test(; a); when move(; b, a); }
abbrev main_body : Body
main_body = body_of 0 0 0
    (When 1 [] (Single 0 ∷ []) (When 2 [] (Single 0 ∷ []) (When 3 [] (Single 1 ∷ Single 0 ∷ []) Done)))
    (tt, tt, tt, tt, tt, refl)

abbrev inc_body : Body
inc_body = body_of 0 1 1 (Assign 0 (Binary Add (Slot 0) (Number (pos 1))) Done) (tt, tt, tt, tt, tt, refl)

abbrev test_body : Body
test_body = body_of 0 1 1 (If (Slot 0) (Assign 0 (Slot 0) Done) Done Done) (tt, tt, tt, tt, tt, refl)

abbrev move_body : Body
move_body = body_of 0 2 2 (Assign 0 (Slot 1) (Assign 1 (Number (pos 7)) Done)) (tt, tt, tt, tt, tt, refl)

abbrev program : Program
program = program_of
    ((record { name = codes "a"; size = None; initial = pos 0 }) ∷ (record { name = codes "b"; size = None; initial = pos 1 }) ∷ [])
    (main_body ∷ inc_body ∷ test_body ∷ move_body ∷ []) (refl, tt, tt, refl, refl)

abbrev inc : Behaviour
inc = record { kind = 1; args = []; cowns = 0 ∷ [] }

abbrev test : Behaviour
test = record { kind = 2; args = []; cowns = 0 ∷ [] }

abbrev move : Behaviour
move = record { kind = 3; args = []; cowns = 1 ∷ 0 ∷ [] }

abbrev at_start : List ℤ
at_start = pos 0 ∷ pos 1 ∷ []

abbrev use_at_ticks : ℕ → ℕ → Bool → Option Use
use_at_ticks first last needed = Some (record { first = first; last = last; needed = needed })

-- the test finds what was added, and the uses of the last row stand in the order of its cowns' numbers
pub in_turn :
    uses_in_turn program at_start (main_behaviour ∷ inc ∷ test ∷ move ∷ []) ≡ use_at_ticks 2 2 false ∷ use_at_ticks 2 3 true ∷ use_at_ticks 2 3 true
    ∷ use_at_ticks 2 2 false ∷ []
in_turn = refl

-- in another order the test finds nothing
pub in_another_turn : uses_in_turn program at_start (main_behaviour ∷ test ∷ inc ∷ []) ≡ use_at_ticks 2 2 true ∷ use_at_ticks 2 2 false ∷ []
in_another_turn = refl

-- what a row leaves
pub left : values_after program move (pos 3 ∷ pos 4 ∷ []) ≡ pos 7 ∷ pos 3 ∷ []
left = refl

-- a row of a run that started on these inputs
abbrev ended : Behaviour → List Input → Member
ended b inputs = record { behaviour = b; inputs = inputs; spawned = 0; life = Ended }

-- uses are those on the inputs that a row started on
pub by_inputs :
    row_uses program (ended main_behaviour [] ∷ ended test ((record { cown = 0; value = pos 0 }) ∷ []) ∷ ended test ((record {
      cown = 0;
      value = pos 5;
    }) ∷ []) ∷ []) ≡ use_at_ticks 2 2 true ∷ use_at_ticks 2 3 true ∷ []
by_inputs = refl

-- no body is of this kind, so there are no uses
pub of_no_body : behaviour_uses program (record { kind = 9; args = []; cowns = 0 ∷ [] }) [] ≡ None ∷ []
of_no_body = refl
