use Rattle.std.proofs.Common.{◌≡◌, length, take}
use Rattle.std.specs.List.{fold}
use Rattle.boc_program.specs.declared.limits.TheConstants.{MOST_COWNS}
use Rattle.boc_turns.specs.Pace.{latest, left_of, left_written, noted}
use Rattle.boc_turns.proofs.coming.leave.Given as goal

-- the cowns so far are left
abbrev pub invariant-loop-cown : goal.invariant-loop-cown
invariant-loop-cown l = record {
  held_whole : length l.held ≡ MOST_COWNS;
  wrote_whole : length l.wrote ≡ MOST_COWNS;
  held_is : l.held ≡ fold (λ ticks x. noted x.cown (left_of l.start l.waits l.end x) ticks) l.fn.held (take l.cown-index l.coming);
  wrote_is : l.wrote ≡ fold (λ ticks x. noted x.cown (left_written l.start l.waits l.end x) ticks) l.fn.wrote (take l.cown-index l.coming);
  last_is : l.last ≡ fold (λ last x. latest (left_of l.start l.waits l.end x) last) l.end (take l.cown-index l.coming);
}
