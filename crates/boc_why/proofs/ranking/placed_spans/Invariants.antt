use Rattle.std.proofs.Common.{take}
use Rattle.boc_why.specs.Ranking.{ArePlaced}
use Rattle.boc_why.proofs.ranking.placed_spans.Given as goal

-- the spans so far with their places
abbrev pub invariant-loop-place : goal.invariant-loop-place
invariant-loop-place l = ArePlaced (take l.place l.spans) l.placed.items
