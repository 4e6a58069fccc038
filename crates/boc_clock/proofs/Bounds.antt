-- How late it can be.
use Rattle.std.proofs.Common.{ℕ, ◌+◌, ◌*◌, ◌^◌, ◌<◌, ◌≤◌, arith}
use Rattle.std.specs.Prelude.{Option, Some, None}
use Rattle.boc_program.specs.declared.limits.TheConstants.{MOST_RUNNERS}
use Rattle.boc_clock.specs.declared.clocks.Clocks.{Clocks}
use Rattle.boc_clock.specs.declared.clocks.TheConstants.{MOST_STEPS}
use Rattle.boc_clock.specs.Clocks.{AreWithin, IfDue, MANY_TICKS, due_of, time_if, time_of}

-- no step is so late that ticks could not be added
time_low_if : (now steps : ℕ) (due : Option ℕ) → now ≤ MANY_TICKS * steps → IfDue due (MANY_TICKS * steps + MANY_TICKS) → steps < MOST_STEPS
    → time_if now due < 2 ^ 62
time_low_if now steps None low within few = omega (arith, low, few)
time_low_if now steps (Some due) low within few = omega (arith, within, few)

pub time_low : (c : Clocks) (steps w : ℕ) → AreWithin c steps → w < MOST_RUNNERS → steps < MOST_STEPS → time_of c w < 2 ^ 62
time_low c steps w within there few = time_low_if c.present steps (due_of c w) within.present (within.due w there) few
