use Rattle.std.proofs.Common.{◌≡◌, ℕ, ◌<◌, length, take}
use Rattle.boc_program.specs.declared.limits.TheConstants.{MOST_COWNS}
use Rattle.boc_turns.specs.Turns.{among}
use Rattle.boc_turns.specs.Course.{marked}
use Rattle.boc_turns.proofs.used.marks_of.Given as goal

-- the cowns so far are marked
abbrev pub invariant-loop-cown : goal.invariant-loop-cown
invariant-loop-cown l = record {
  whole : length l.marks.items ≡ MOST_COWNS;
  each : (c : ℕ) → c < MOST_COWNS → marked l.marks.items c ≡ among (take l.cown-index l.cowns) c;
}
