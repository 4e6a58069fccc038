use Rattle.std.proofs.Common.{take}
use Rattle.boc_why.specs.LinkCodes.{AreCodes}
use Rattle.boc_why.proofs.links.codes_of.Given as goal

-- the numbers of the links so far
abbrev pub invariant-loop-link : goal.invariant-loop-link
invariant-loop-link l = AreCodes (take l.link-index l.links) l.codes.items
