-- What every state keeps that steps lead to.
use Rattle.std.specs.Prelude.{◌≡◌, ◌≢◌, ℕ, ◌+◌, ◌*◌, ◌<◌, ◌≤◌, true, false, List, length, drop, Option, Some, None, slice_get}
use Rattle.std.specs.List.{sum_by}
use Rattle.boc_program.specs.declared.limits.TheConstants.{MOST_ROWS}
use Rattle.boc_program.specs.declared.program.Program.{Program}
use Rattle.boc_runs.specs.declared.stage.Phase.TheVariants as phases
use Rattle.boc_runs.specs.declared.stage.Stage.{Stage}
use Rattle.boc_runs.specs.declared.stage.Stage.TheVariants.{Asking, Recorded}
use Rattle.boc_program.specs.Meaning.{Wish}
use Rattle.boc_program.specs.Rising.{rising}
use Rattle.boc_program.specs.Programs.{cown_count}
use Rattle.boc_runs.specs.Lives.{Running, Ended}
use Rattle.boc_runs.specs.Run.{Member, next_wish, state_of, IsRun}
use Rattle.boc_runs.specs.machine.Stages.{OpenBehaviour, parent_of, offset_of, cowns_of, row_of, ready_row, life, asks, enqueues}
use Rattle.boc_runs.specs.machine.Queues.{times, Lawful}
use Rattle.boc_runs.specs.machine.AlongRows.{cowns_of_rows, steps_of}
use Rattle.boc_runs.specs.machine.Steps.{State, at, queue, members, recorded, unrecorded, opened}

-- an open behaviour's row is there, with its cowns and what has become of it
pub record HasRow (rows : List Member) (b : Option OpenBehaviour) (row : ℕ) : Type 0 where
  pub member : Member
  pub is : slice_get rows row ≡ Some member
  pub life_is : member.life ≡ life b
  pub cowns_are : cowns_of b ≡ rising member.behaviour.cowns

-- whoever asks does so for its parent's next wish
pub record AsksForWish (p : Program) (rows : List Member) (b : Option OpenBehaviour) : Type 0 where
  pub wish : Wish
  pub next : next_wish p (slice_get rows (parent_of b)) ≡ Some wish
  pub offset_is : offset_of b ≡ wish.offset
  pub cowns_are : cowns_of b ≡ rising wish.cowns

-- the open behaviours are those of the rows of a run; `at` gives the one of a number, if there is one
pub record Fits (p : Program) (rows : List Member) (at : ℕ → Option OpenBehaviour) : Type 0 where
  pub has_row : (who row : ℕ) → row_of (at who) ≡ Some row → HasRow rows (at who) row
  -- a row that hasn't ended has its behaviour, and no two have the same row
  pub open_rows : (row : ℕ) (m : Member) → slice_get rows row ≡ Some m → m.life ≢ Ended
      → (who : ℕ) × (row_of (at who) ≡ Some row)
  pub one_row : (v w row : ℕ) → row_of (at v) ≡ Some row → row_of (at w) ≡ Some row → v ≡ w
  pub asking : (who : ℕ) → asks (at who) ≡ true → AsksForWish p rows (at who)
  -- a row with an open enqueue runs, and has one
  pub parents : (who : ℕ) → enqueues (at who) ≡ true → state_of rows (parent_of (at who)) ≡ Some Running
  pub one_enqueue : (v w : ℕ) → enqueues (at v) ≡ true → enqueues (at w) ≡ true
      → parent_of (at v) ≡ parent_of (at w) → v ≡ w

-- ---- steps made and still to be made

-- the steps that a behaviour has made whose spawn isn't recorded yet: its Open, and for each request a Swap and a Settle
abbrev pub made_at : Stage → ℕ
made_at (Asking request false) = 1 + 2 * request
made_at (Asking request true) = 2 + 2 * request
made_at (Recorded row phase) = 0

-- the same of an open behaviour, and 0 of none
abbrev pub made : Option OpenBehaviour → ℕ
made None = 0
made (Some b) = made_at b.stage

-- the steps that a behaviour over these cowns still has to make, once its spawn is recorded: for each request a Flag and a
-- release, and Own, Start and Finish
abbrev pub owed_at : Stage → List ℕ → ℕ
owed_at (Asking request exchanged) cowns = 0
owed_at (Recorded row (phases.Flagging request)) cowns = length (drop request cowns) + 3 + length cowns
owed_at (Recorded row phases.Owning) cowns = 3 + length cowns
owed_at (Recorded row phases.Waiting) cowns = 2 + length cowns
owed_at (Recorded row phases.Ready) cowns = 2 + length cowns
owed_at (Recorded row phases.Running) cowns = 1 + length cowns
owed_at (Recorded row (phases.Leaving request)) cowns = length (drop request cowns)

-- the same of an open behaviour, and 0 of none
abbrev pub owed : Option OpenBehaviour → ℕ
owed None = 0
owed (Some b) = owed_at b.stage b.cowns

-- ---- what every state keeps

-- the next request of a behaviour that asks, flags or leaves is there
abbrev pub HasNextRequest : Stage → List ℕ → Type 0
HasNextRequest (Asking request exchanged) cowns = request < length cowns
HasNextRequest (Recorded row (phases.Flagging request)) cowns = request < length cowns
HasNextRequest (Recorded row (phases.Leaving request)) cowns = request < length cowns
HasNextRequest (Recorded row _) cowns = Unit {0}

-- the log is a run, the lists are lawful, the open behaviours are those of the run's rows, and the counts are right
pub record IsSound (p : Program) (s : State) : Type 0 where
  pub run : IsRun p s.log
  pub lawful : Lawful (at s) (queue s)
  pub fits : Fits p (members p s) (at s)
  pub requests : (who : ℕ) (b : OpenBehaviour) → at s who ≡ Some b → HasNextRequest b.stage b.cowns
  pub queues_are : length s.queues ≡ cown_count p.cowns
  pub in_range : (who c : ℕ) → 0 < times c (cowns_of (at s who)) → c < length s.queues
  -- the ready list has the row of each ready behaviour once, and no other
  pub ready_once : (who row : ℕ) → ready_row (at s who) ≡ Some row → times row s.ready ≡ 1
  pub ready_only : (row : ℕ) → 0 < times row s.ready → (who : ℕ) × (ready_row (at s who) ≡ Some row)
  -- each behaviour that was opened has a row or asks, and they are no more than rows may be
  pub some : 0 < recorded p s
  pub counted : recorded p s + unrecorded s ≡ opened s
  pub few : opened s ≤ MOST_ROWS
  -- all steps of all rows but main's Open and Own, and those made so far of who asks, are made or owed
  pub steps_are : s.steps + 2 + sum_by owed s.behaviours
      ≡ sum_by (λ cowns. steps_of (length cowns)) (cowns_of_rows s.log) + sum_by made s.behaviours
