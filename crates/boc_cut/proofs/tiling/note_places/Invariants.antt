use Rattle.std.proofs.Common.{◌≡◌}
use Rattle.boc_cut.proofs.tiling.note_places.Given as goal

-- no call has failed
abbrev pub invariant-loop : goal.invariant-loop
invariant-loop g l = g.S.Source.failures l.source ≡ g.S.Source.failures l.fn.source
