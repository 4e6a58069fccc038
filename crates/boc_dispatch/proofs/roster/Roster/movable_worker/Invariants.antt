use Rattle.std.proofs.Common.{◌≡◌, ℕ, ◌<◌}
use Rattle.std.specs.Prelude.{Some}
use Rattle.boc_dispatch.specs.declared.live.Live.{Live}
use Rattle.boc_dispatch.specs.Inside.{parts_of, live_at}
use Rattle.boc_dispatch.specs.Moves.{StandsStill}
use Rattle.boc_dispatch.proofs.roster.Roster.movable_worker.Given as goal

-- whoever is at a slot below this one can't step
abbrev pub invariant-loop-slot : goal.invariant-loop-slot
invariant-loop-slot g l =
    (s : ℕ) → s < l.slot → (live : Live) → live_at l.self.live.slots s ≡ Some live → StandsStill (parts_of g.C.Chains.lists g.C.Chains.place l.self) live
