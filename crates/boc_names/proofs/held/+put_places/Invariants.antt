use Rattle.std.proofs.Common.{length}
use Rattle.boc_names.proofs.held.+put_places.Given as goal

-- how many declarations are left
abbrev pub decreases-put_places : goal.decreases-put_places
decreases-put_places l = length l.cowns.now
