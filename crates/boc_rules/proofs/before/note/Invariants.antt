use Rattle.std.proofs.Common.{◌≡◌, length, drop}
use Rattle.boc_rules.specs.Before.{noted}
use Rattle.boc_rules.proofs.before.note.Given as goal

-- what is left to note gives what is wanted
abbrev pub invariant-loop-cown : goal.invariant-loop-cown
invariant-loop-cown l = record {
  left : noted l.latest.items (drop l.cown-index l.cowns) l.row ≡ noted l.initial.latest.items l.cowns l.row;
  count : length l.latest.items ≡ length l.initial.latest.items;
}
