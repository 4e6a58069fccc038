use Rattle.std.proofs.Common.{arith}
use Rattle.boc_front_rows.proofs.arranging.places.Goals as goal

pub place-requires-clause-there : goal.place-requires-clause-there
place-requires-clause-there c = λ k d low.
    omega (arith, c.requires.there k d low, c.deref_mut.ensures.len, c.in_ok-places.ensures.len, c.in_ok-places.places.ok.0)
