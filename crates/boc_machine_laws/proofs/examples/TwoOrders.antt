-- The machine tried on a program whose rows may come in two orders: the program, and the states that one list of choices leads to.
use Rattle.std.proofs.Common.{ℕ, ◌≤◌, List, [], ◌∷◌, Some, None, true, false, refl, codes, pos, lit≤, take, arith, IsTrue}
use Rattle.std.specs.Prelude.{Option}
use Rattle.boc_program.specs.declared.limits.TheConstants.{MOST_HELD, MOST_NODES, MOST_SLOTS}
use Rattle.boc_program.specs.declared.body.Operator.TheVariants.{Add, Multiply}
use Rattle.boc_program.specs.declared.body.Body.{Body}
use Rattle.boc_program.specs.declared.body.EndStatus.TheVariants as statuses
use Rattle.boc_program.specs.declared.cown.Cown.{Cown}
use Rattle.boc_program.specs.declared.program.Program.{Program}
use Rattle.boc_runs.specs.declared.event.Event.{Event}
use Rattle.boc_runs.specs.declared.event.Event.TheVariants.{Spawn, Start, End}
use Rattle.boc_runs.specs.declared.stage.Phase.TheVariants.{Flagging, Owning, Waiting, Ready, Running, Leaving}
use Rattle.boc_runs.specs.declared.stage.Stage.{Stage}
use Rattle.boc_runs.specs.declared.stage.Stage.TheVariants.{Asking, Recorded}
use Rattle.boc_program.specs.Resolved.{nodes, fits}
use Rattle.boc_program.specs.Syntax.{Code, Number, Slot, Binary, Single, Done, Assign, When}
use Rattle.boc_runs.specs.machine.Stages.{OpenBehaviour}
use Rattle.boc_runs.specs.machine.Steps.{State}

-- cown a = 0; cown b = 0; cown p = 0; cown q = 0;
-- def one(; x, y) { x = x + 1; y = y + 1; }
-- def two(; x) { x = x * 10; }
-- def left(; g) { when one(; a, b); }
-- def right(; g) { when two(; a); }
-- main { when left(; p); when right(; q); }

-- a body of a definition over so many cowns, with no parameters and no variables
abbrev over_cowns : (cowns : ℕ) (block : Code) → cowns ≤ MOST_HELD → cowns ≤ MOST_SLOTS → nodes block ≤ MOST_NODES
    → IsTrue (fits (record { slots = cowns; cowns = cowns }) block) → Body
over_cowns cowns block few_cowns few_slots few_nodes resolved = record {
  params = 0;
  cown_params = cowns;
  slots = cowns;
  block = block;
  few_params = omega arith;
  few_cowns = few_cowns;
  few_slots = few_slots;
  parameters_are_slots = omega arith;
  few_nodes = few_nodes;
  resolved = resolved;
}

abbrev pub main_body : Body
main_body = over_cowns 0 (When 3 [] (Single 2 ∷ []) (When 4 [] (Single 3 ∷ []) Done)) (lit≤ tt) (lit≤ tt) (lit≤ tt) refl

abbrev pub one_body : Body
one_body = over_cowns 2 (Assign 0 (Binary Add (Slot 0) (Number (pos 1))) (Assign 1 (Binary Add (Slot 1) (Number (pos 1))) Done))
    (lit≤ tt) (lit≤ tt) (lit≤ tt) refl

abbrev pub two_body : Body
two_body = over_cowns 1 (Assign 0 (Binary Multiply (Slot 0) (Number (pos 10))) Done) (lit≤ tt) (lit≤ tt) (lit≤ tt) refl

abbrev pub left_body : Body
left_body = over_cowns 1 (When 1 [] (Single 0 ∷ Single 1 ∷ []) Done) (lit≤ tt) (lit≤ tt) (lit≤ tt) refl

abbrev pub right_body : Body
right_body = over_cowns 1 (When 2 [] (Single 0 ∷ []) Done) (lit≤ tt) (lit≤ tt) (lit≤ tt) refl

abbrev cown : List ℕ → Cown
cown name = record { name = name; size = None; initial = pos 0 }

abbrev pub program : Program
program = record {
  cowns = cown (codes "a") ∷ cown (codes "b") ∷ cown (codes "p") ∷ cown (codes "q") ∷ [];
  bodies = main_body ∷ one_body ∷ two_body ∷ left_body ∷ right_body ∷ [];
  few_cowns = lit≤ tt;
  few_defs = lit≤ tt;
  members = refl;
  main = refl;
  calls = refl;
}

-- a spawn of a row, and the end of one, which wrote these cowns
abbrev spawned : ℕ → ℕ → ℕ → List ℕ → Event
spawned row parent offset cowns = Spawn row parent offset (record { items = cowns })

abbrev over : ℕ → ℕ → List ℕ → Event
over row ticks written = End row ticks statuses.Done (record { items = written })

-- the whole log
abbrev pub log : List Event
log = spawned 0 0 0 [] ∷ Start 0 ∷ spawned 1 0 2 (2 ∷ []) ∷ spawned 2 0 3 (3 ∷ []) ∷ over 0 3 [] ∷ Start 1 ∷ Start 2
    ∷ spawned 3 1 2 (0 ∷ 1 ∷ []) ∷ spawned 4 2 2 (0 ∷ []) ∷ over 1 2 [] ∷ Start 3 ∷ over 3 3
    (0 ∷ 1 ∷ []) ∷ over 2 2 [] ∷ Start 4 ∷ over 4 2 (0 ∷ []) ∷ []

-- the behaviours at a stage
abbrev pub main_at : Stage → OpenBehaviour
main_at stage = record { parent = 0; offset = 0; cowns = []; stage = stage }

abbrev pub left_at : Stage → OpenBehaviour
left_at stage = record { parent = 0; offset = 2; cowns = 2 ∷ []; stage = stage }

abbrev pub right_at : Stage → OpenBehaviour
right_at stage = record { parent = 0; offset = 3; cowns = 3 ∷ []; stage = stage }

abbrev pub one_at : Stage → OpenBehaviour
one_at stage = record { parent = 1; offset = 2; cowns = 0 ∷ 1 ∷ []; stage = stage }

abbrev pub two_at : Stage → OpenBehaviour
two_at stage = record { parent = 2; offset = 2; cowns = 0 ∷ []; stage = stage }

-- the same as open ones
abbrev main : Stage → Option OpenBehaviour
main stage = Some (main_at stage)

abbrev left : Stage → Option OpenBehaviour
left stage = Some (left_at stage)

abbrev right : Stage → Option OpenBehaviour
right stage = Some (right_at stage)

abbrev one : Stage → Option OpenBehaviour
one stage = Some (one_at stage)

abbrev two : Stage → Option OpenBehaviour
two stage = Some (two_at stage)

-- a state after so many events of the log
abbrev here : ℕ → List (Option OpenBehaviour) → List (List ℕ) → List ℕ → ℕ → State
here events behaviours queues ready steps = record {
  log = take events log;
  behaviours = behaviours;
  queues =
      queues;
  ready = ready;
  steps = steps;
}

-- where left and right run and have asked for cown a: the stages of what they enqueue, and the list of cown b
abbrev both_run : ℕ → Stage → Stage → List ℕ → List ℕ → ℕ → State
both_run events first second on_b ready steps = here events
    (None ∷ left (Recorded 1 Running) ∷ right (Recorded 2 Running) ∷ one first ∷ two second ∷ [])
    ((3 ∷ 4 ∷ []) ∷ on_b ∷ (1 ∷ []) ∷ (2 ∷ []) ∷ []) ready steps

-- ---- the states, after so many choices

-- main is ready
abbrev pub state_0 : State
state_0 = here 1
    (main (Recorded 0 Ready) ∷ [])
    ([] ∷ [] ∷ [] ∷ [] ∷ []) (0 ∷ []) 0

-- 1 by worker 0: Start of row 0
abbrev pub state_1 : State
state_1 = here 2
    (main (Recorded 0 Running) ∷ [])
    ([] ∷ [] ∷ [] ∷ [] ∷ []) [] 1

-- 2 by worker 0: Open of left
abbrev pub state_2 : State
state_2 = here 2
    (main (Recorded 0 Running) ∷ left (Asking 0 false) ∷ [])
    ([] ∷ [] ∷ [] ∷ [] ∷ []) [] 2

-- 3 by worker 0: Swap 0 of left
abbrev pub state_3 : State
state_3 = here 2
    (main (Recorded 0 Running) ∷ left (Asking 0 true) ∷ [])
    ([] ∷ [] ∷ (1 ∷ []) ∷ [] ∷ []) [] 3

-- 4 by worker 0: Settle 0 of left
abbrev pub state_4 : State
state_4 = here 3
    (main (Recorded 0 Running) ∷ left (Recorded 1 (Flagging 0)) ∷ [])
    ([] ∷ [] ∷ (1 ∷ []) ∷ [] ∷ []) [] 4

-- 5 by worker 0: Flag 0 of left
abbrev pub state_5 : State
state_5 = here 3
    (main (Recorded 0 Running) ∷ left (Recorded 1 Owning) ∷ [])
    ([] ∷ [] ∷ (1 ∷ []) ∷ [] ∷ []) [] 5

-- 6 by worker 0: Own of left, which is ready
abbrev pub state_6 : State
state_6 = here 3
    (main (Recorded 0 Running) ∷ left (Recorded 1 Ready) ∷ [])
    ([] ∷ [] ∷ (1 ∷ []) ∷ [] ∷ []) (1 ∷ []) 6

-- 7 by worker 0: Open of right
abbrev pub state_7 : State
state_7 = here 3
    (main (Recorded 0 Running) ∷ left (Recorded 1 Ready) ∷ right (Asking 0 false) ∷ [])
    ([] ∷ [] ∷ (1 ∷ []) ∷ [] ∷ []) (1 ∷ []) 7

-- 8 by worker 0: Swap 0 of right
abbrev pub state_8 : State
state_8 = here 3
    (main (Recorded 0 Running) ∷ left (Recorded 1 Ready) ∷ right (Asking 0 true) ∷ [])
    ([] ∷ [] ∷ (1 ∷ []) ∷ (2 ∷ []) ∷ []) (1 ∷ []) 8

-- 9 by worker 0: Settle 0 of right
abbrev pub state_9 : State
state_9 = here 4
    (main (Recorded 0 Running) ∷ left (Recorded 1 Ready) ∷ right (Recorded 2 (Flagging 0)) ∷ [])
    ([] ∷ [] ∷ (1 ∷ []) ∷ (2 ∷ []) ∷ []) (1 ∷ []) 9

-- 10 by worker 0: Flag 0 of right
abbrev pub state_10 : State
state_10 = here 4
    (main (Recorded 0 Running) ∷ left (Recorded 1 Ready) ∷ right (Recorded 2 Owning) ∷ [])
    ([] ∷ [] ∷ (1 ∷ []) ∷ (2 ∷ []) ∷ []) (1 ∷ []) 10

-- 11 by worker 0: Own of right, which is ready
abbrev pub state_11 : State
state_11 = here 4
    (main (Recorded 0 Running) ∷ left (Recorded 1 Ready) ∷ right (Recorded 2 Ready) ∷ [])
    ([] ∷ [] ∷ (1 ∷ []) ∷ (2 ∷ []) ∷ []) (1 ∷ 2 ∷ []) 11

-- 12 by worker 0: Finish of main
abbrev pub state_12 : State
state_12 = here 5
    (None ∷ left (Recorded 1 Ready) ∷ right (Recorded 2 Ready) ∷ [])
    ([] ∷ [] ∷ (1 ∷ []) ∷ (2 ∷ []) ∷ []) (1 ∷ 2 ∷ []) 12

-- 13 by worker 0: Start of row 1
abbrev pub state_13 : State
state_13 = here 6
    (None ∷ left (Recorded 1 Running) ∷ right (Recorded 2 Ready) ∷ [])
    ([] ∷ [] ∷ (1 ∷ []) ∷ (2 ∷ []) ∷ []) (2 ∷ []) 13

-- 14 by worker 1: Start of row 2
abbrev pub state_14 : State
state_14 = here 7
    (None ∷ left (Recorded 1 Running) ∷ right (Recorded 2 Running) ∷ [])
    ([] ∷ [] ∷ (1 ∷ []) ∷ (2 ∷ []) ∷ []) [] 14

-- 15 by worker 0: Open of one
abbrev pub state_15 : State
state_15 = here 7
    (None ∷ left (Recorded 1 Running) ∷ right (Recorded 2 Running) ∷ one (Asking 0 false) ∷ [])
    ([] ∷ [] ∷ (1 ∷ []) ∷ (2 ∷ []) ∷ []) [] 15

-- 16 by worker 0: Swap 0 of one
abbrev pub state_16 : State
state_16 = here 7
    (None ∷ left (Recorded 1 Running) ∷ right (Recorded 2 Running) ∷ one (Asking 0 true) ∷ [])
    ((3 ∷ []) ∷ [] ∷ (1 ∷ []) ∷ (2 ∷ []) ∷ []) [] 16

-- 17 by worker 1: Open of two
abbrev pub state_17 : State
state_17 = here 7
    (None ∷ left (Recorded 1 Running) ∷ right (Recorded 2 Running) ∷ one (Asking 0 true) ∷ two (Asking 0 false) ∷ [])
    ((3 ∷ []) ∷ [] ∷ (1 ∷ []) ∷ (2 ∷ []) ∷ []) [] 17

-- 18 by worker 1: Swap 0 of two
abbrev pub state_18 : State
state_18 = both_run 7 (Asking 0 true) (Asking 0 true) [] [] 18

-- 19 by worker 1: blocked at Settle 0 of two, which changes nothing

-- 20 by worker 0: Settle 0 of one
abbrev pub state_20 : State
state_20 = both_run 7 (Asking 1 false) (Asking 0 true) [] [] 19

-- 21 by worker 0: Swap 1 of one
abbrev pub state_21 : State
state_21 = both_run 7 (Asking 1 true) (Asking 0 true) (3 ∷ []) [] 20

-- 22 by worker 0: Settle 1 of one
abbrev pub state_22 : State
state_22 = both_run 8 (Recorded 3 (Flagging 0)) (Asking 0 true) (3 ∷ []) [] 21

-- 23 by worker 1: blocked at Settle 0 of two, which changes nothing

-- 24 by worker 0: Flag 0 of one
abbrev pub state_24 : State
state_24 = both_run 8 (Recorded 3 (Flagging 1)) (Asking 0 true) (3 ∷ []) [] 22

-- 25 by worker 1: Settle 0 of two
abbrev pub state_25 : State
state_25 = both_run 9 (Recorded 3 (Flagging 1)) (Recorded 4 (Flagging 0)) (3 ∷ []) [] 23

-- 26 by worker 1: Flag 0 of two
abbrev pub state_26 : State
state_26 = both_run 9 (Recorded 3 (Flagging 1)) (Recorded 4 Owning) (3 ∷ []) [] 24

-- 27 by worker 1: Own of two, which is waiting
abbrev pub state_27 : State
state_27 = both_run 9 (Recorded 3 (Flagging 1)) (Recorded 4 Waiting) (3 ∷ []) [] 25

-- 28 by worker 0: Flag 1 of one
abbrev pub state_28 : State
state_28 = both_run 9 (Recorded 3 Owning) (Recorded 4 Waiting) (3 ∷ []) [] 26

-- 29 by worker 0: Own of one, which is ready
abbrev pub state_29 : State
state_29 = both_run 9 (Recorded 3 Ready) (Recorded 4 Waiting) (3 ∷ []) (3 ∷ []) 27

-- 30 by worker 0: Finish of left
abbrev pub state_30 : State
state_30 = here 10
    (None ∷ left (Recorded 1 (Leaving 0)) ∷ right (Recorded 2 Running) ∷ one (Recorded 3 Ready) ∷ two (Recorded 4 Waiting) ∷ [])
    ((3 ∷ 4 ∷ []) ∷ (3 ∷ []) ∷ (1 ∷ []) ∷ (2 ∷ []) ∷ []) (3 ∷ []) 28

-- 31 by worker 0: Unhook 0 of left
abbrev pub state_31 : State
state_31 = here 10
    (None ∷ None ∷ right (Recorded 2 Running) ∷ one (Recorded 3 Ready) ∷ two (Recorded 4 Waiting) ∷ [])
    ((3 ∷ 4 ∷ []) ∷ (3 ∷ []) ∷ [] ∷ (2 ∷ []) ∷ []) (3 ∷ []) 29

-- 32 by worker 0: Start of row 3
abbrev pub state_32 : State
state_32 = here 11
    (None ∷ None ∷ right (Recorded 2 Running) ∷ one (Recorded 3 Running) ∷ two (Recorded 4 Waiting) ∷ [])
    ((3 ∷ 4 ∷ []) ∷ (3 ∷ []) ∷ [] ∷ (2 ∷ []) ∷ []) [] 30

-- 33 by worker 0: Finish of one
abbrev pub state_33 : State
state_33 = here 12
    (None ∷ None ∷ right (Recorded 2 Running) ∷ one (Recorded 3 (Leaving 0)) ∷ two (Recorded 4 Waiting) ∷ [])
    ((3 ∷ 4 ∷ []) ∷ (3 ∷ []) ∷ [] ∷ (2 ∷ []) ∷ []) [] 31

-- 34 by worker 0: Pass 0 of one, which wakes two
abbrev pub state_34 : State
state_34 = here 12
    (None ∷ None ∷ right (Recorded 2 Running) ∷ one (Recorded 3 (Leaving 1)) ∷ two (Recorded 4 Ready) ∷ [])
    ((4 ∷ []) ∷ (3 ∷ []) ∷ [] ∷ (2 ∷ []) ∷ []) (4 ∷ []) 32

-- 35 by worker 0: Unhook 1 of one
abbrev pub state_35 : State
state_35 = here 12
    (None ∷ None ∷ right (Recorded 2 Running) ∷ None ∷ two (Recorded 4 Ready) ∷ [])
    ((4 ∷ []) ∷ [] ∷ [] ∷ (2 ∷ []) ∷ []) (4 ∷ []) 33

-- 36 by worker 1: Finish of right
abbrev pub state_36 : State
state_36 = here 13
    (None ∷ None ∷ right (Recorded 2 (Leaving 0)) ∷ None ∷ two (Recorded 4 Ready) ∷ [])
    ((4 ∷ []) ∷ [] ∷ [] ∷ (2 ∷ []) ∷ []) (4 ∷ []) 34

-- 37 by worker 1: Unhook 0 of right
abbrev pub state_37 : State
state_37 = here 13
    (None ∷ None ∷ None ∷ None ∷ two (Recorded 4 Ready) ∷ [])
    ((4 ∷ []) ∷ [] ∷ [] ∷ [] ∷ []) (4 ∷ []) 35

-- 38 by worker 1: Start of row 4
abbrev pub state_38 : State
state_38 = here 14
    (None ∷ None ∷ None ∷ None ∷ two (Recorded 4 Running) ∷ [])
    ((4 ∷ []) ∷ [] ∷ [] ∷ [] ∷ []) [] 36

-- 39 by worker 1: Finish of two
abbrev pub state_39 : State
state_39 = here 15
    (None ∷ None ∷ None ∷ None ∷ two (Recorded 4 (Leaving 0)) ∷ [])
    ((4 ∷ []) ∷ [] ∷ [] ∷ [] ∷ []) [] 37

-- 40 by worker 1: Unhook 0 of two
abbrev pub state_40 : State
state_40 = here 15
    (None ∷ None ∷ None ∷ None ∷ None ∷ [])
    ([] ∷ [] ∷ [] ∷ [] ∷ []) [] 38
