use Rattle.std.proofs.Common.{take}
use Rattle.boc_all_ends.specs.Gathered.{HasLive}
use Rattle.boc_all_ends.proofs.search.has_live.Given as goal

abbrev pub invariant-loop-front : goal.invariant-loop-front
invariant-loop-front l = HasLive (take l.front-index l.layer) → ⊥
