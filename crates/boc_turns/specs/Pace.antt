-- The pace of a row: when it has made each number of its ticks, from its start and its waits. And how it holds a cown, with what follows from that.
use Rattle.std.specs.Prelude.{ℕ, ◌+◌, ◌-◌, ◌*◌, ◌≤◌, max, nat_lt, Bool, true, false, cond, List, [], ◌∷◌, ◌++◌, Option, Some, None, slice_index, slice_set}
use Rattle.std.specs.List.{fold}
use Rattle.boc_program.specs.declared.limits.TheConstants.{MOST_ROWS, MOST_TICKS}
use Rattle.boc_uses.specs.declared.uses.Use.{Use}
use Rattle.boc_turns.specs.declared.pace.Wait.{Wait}
use Rattle.boc_turns.specs.declared.coming.Hold.{Hold}
use Rattle.boc_turns.specs.declared.coming.Hold.TheVariants.{Whole, Never, Turn}
use Rattle.boc_turns.specs.declared.coming.Coming.{Coming}
use Rattle.boc_turns.specs.Turns.{IsWithin}

-- the start that a wait allows as far as this tick, where one is allowed without it
abbrev pub later : ℕ → ℕ → Wait → ℕ
later tick start wait = cond (nat_lt tick wait.first) start (max start wait.late)

-- when a row that starts then, and waits so, has made this many of its ticks
abbrev pub made_by : ℕ → List Wait → ℕ → ℕ
made_by start waits ticks = fold (later ticks) start waits + ticks

-- a row needs a cown from its first use on, and the cown comes then: it is as if the row had started so much later
abbrev pub wait_of : Use → ℕ → Wait
wait_of u came = record { first = u.first; late = came + 1 - u.first }

-- when a turn is over of a row that starts then, and waits so, where the turns before it are over at a tick
abbrev pub over_by : ℕ → List Wait → ℕ → Use → ℕ
over_by start waits came u =
    cond u.needed (made_by start waits u.last) (max came (made_by start waits u.first - 1) + (u.last + 1 - u.first))

-- no tick of the row is later than all rows together allow
abbrev pub IsLow : ℕ → List Wait → Type 0
IsLow start waits = (ticks : ℕ) → made_by start waits ticks ≤ MOST_ROWS * MOST_TICKS + ticks

-- ---- how a row holds a cown

-- from start to end, or if the cown is relaxed, as the row uses it
abbrev pub hold_of : Bool → Option Use → Hold
hold_of false u = Whole
hold_of true None = Never
hold_of true (Some u) = Turn u

-- the row's start, if it starts no sooner than this for other reasons
abbrev pub start_after : Hold → ℕ → ℕ → ℕ
start_after Whole came start = max start came
start_after Never came start = start
start_after (Turn u) came start = start

-- the wait for it, if any
abbrev pub wait_for : Hold → ℕ → Option Wait
wait_for Whole came = None
wait_for Never came = None
wait_for (Turn u) came = cond u.needed (Some (wait_of u came)) None

-- when the row leaves it, if it has it at all, where the row ends then
abbrev pub left_by : Hold → ℕ → ℕ → List Wait → ℕ → Option ℕ
left_by Whole came start waits end = Some end
left_by Never came start waits end = None
left_by (Turn u) came start waits end = Some (over_by start waits came u)

-- what is known of the cowns that come, so that no sum of ticks is too great
abbrev pub IsLowHold : Hold → Type 0
IsLowHold Whole = Unit {0}
IsLowHold Never = Unit {0}
IsLowHold (Turn u) = IsWithin MOST_TICKS u

pub record IsLowComing (x : Coming) : Type 0 where
  pub came : x.came ≤ MOST_ROWS * MOST_TICKS
  pub hold : IsLowHold x.hold

-- ---- all cowns of a row

-- the start, once the cowns that are held from the start on have come
abbrev pub started : ℕ → Coming → ℕ
started start x = start_after x.hold x.came start

-- the waits, with one more, if there is one
abbrev pub and_wait : List Wait → Option Wait → List Wait
and_wait waits None = waits
and_wait waits (Some wait) = waits ++ wait ∷ []

-- the waits, with that for one cown more
abbrev pub waited : List Wait → Coming → List Wait
waited waits x = and_wait waits (wait_for x.hold x.came)

-- the ticks by which cowns are left, where one is left then
abbrev pub noted : ℕ → Option ℕ → List ℕ → List ℕ
noted cown None ticks = ticks
noted cown (Some tick) ticks = slice_set ticks cown (max (slice_index ticks cown) tick)

-- the latest tick
abbrev pub latest : Option ℕ → ℕ → ℕ
latest None tick = tick
latest (Some left) tick = max tick left

-- when a row leaves the cown
abbrev pub left_of : ℕ → List Wait → ℕ → Coming → Option ℕ
left_of start waits end x = left_by x.hold x.came start waits end

-- the same, if the row wrote it
abbrev pub left_written : ℕ → List Wait → ℕ → Coming → Option ℕ
left_written start waits end x = cond x.writes (left_of start waits end x) None
