use Rattle.std.proofs.Common.{◌≡◌, ◌≤◌, length, take}
use Rattle.std.specs.List.{fold}
use Rattle.boc_turns.specs.Pace.{waited}
use Rattle.boc_turns.proofs.coming.push_waits.Given as goal

-- the waits, with those for the cowns so far
abbrev pub invariant-loop-cown : goal.invariant-loop-cown
invariant-loop-cown l = record {
  waits : l.waits.items ≡ fold waited l.fn.waits.items (take l.cown-index l.coming);
  longer : length l.fn.waits.items ≤ length l.waits.items;
}
