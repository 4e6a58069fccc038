-- A simulation as a whole.
use Rattle.std.specs.Prelude.{ℕ, ◌+◌, ◌*◌, ◌≤◌, List, length}
use Rattle.boc_program.specs.declared.limits.TheConstants.{MOST_TICKS}
use Rattle.boc_runs.specs.declared.rows.Row.{Row}
use Rattle.boc_plans.specs.Greedy.{CountsAll}
use Rattle.boc_greedy.specs.declared.simulation.Simulation.{Simulation}
use Rattle.boc_greedy.specs.Frontier.{IsFrontier}
use Rattle.std.specs.BinaryHeap.{heap_items}
use Rattle.boc_greedy.specs.Families.{AreNext, AreTimed, children_of, times_of}
use Rattle.boc_greedy.specs.Queues.{IsQueue}
use Rattle.boc_greedy.specs.Simulating.{later, Kept, Given, IsFresh, HasPassed, IsFull, IsPast, steps_of_all}

-- the simulation keeps what it has to keep
abbrev pub IsSimulated : List Row → Simulation → Type 0
IsSimulated rows s = Kept rows s.p later s.starts.items s.workers.items s.frontier.states.items (children_of s.first.items) (heap_items s.queue) s.idle
    s.tick

-- the moments so far are counted
pub record IsCounted (rows : List Row) (starts : List ℕ) (tick moments : ℕ) : Type 0 where
  pub all : CountsAll moments (IsPast rows starts tick)
  pub low : moments ≤ tick + 1

-- each step so far took at most 1,000,000 ticks
abbrev pub IsLow : List Row → Simulation → Type 0
IsLow rows s = s.tick + steps_of_all s.frontier.states.items * MOST_TICKS ≤ length rows * 3000000

-- the changes of this tick are made, one after another, and no row has started at it yet
pub record IsStepping (rows : List Row) (s : Simulation) : Type 0 where
  pub frontier : IsFrontier rows s.frontier
  pub kept : IsSimulated rows s
  pub fresh : IsFresh rows s.starts.items s.tick
  pub are_timed : AreTimed rows (children_of s.first.items) (times_of s.first.items)
  pub are_next : AreNext rows (children_of s.next.now) (times_of s.next.now)
  pub queue : IsQueue (heap_items s.queue)
  pub counted : IsCounted rows s.starts.items s.tick s.moments

-- the changes of this tick are made, and rows start, one after another
pub record IsGiving (rows : List Row) (s : Simulation) : Type 0 where
  pub frontier : IsFrontier rows s.frontier
  pub kept : IsSimulated rows s
  pub given : Given rows s.p s.starts.items s.workers.items s.frontier.states.items s.idle s.tick
  pub passed : HasPassed (heap_items s.queue) s.tick
  pub are_timed : AreTimed rows (children_of s.first.items) (times_of s.first.items)
  pub are_next : AreNext rows (children_of s.next.now) (times_of s.next.now)
  pub queue : IsQueue (heap_items s.queue)
  pub counted : IsCounted rows s.starts.items s.tick s.moments
  pub low : IsLow rows s

-- no more row can start at this tick
pub record IsSettled (rows : List Row) (s : Simulation) : Type 0 where
  pub giving : IsGiving rows s
  pub full : IsFull rows s.frontier.states.items s.idle
