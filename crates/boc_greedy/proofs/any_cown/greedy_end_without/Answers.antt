use Rattle.boc_greedy.proofs.LeftOut.{family_without}
use Rattle.boc_greedy.proofs.any_cown.greedy_end_without.Goals as goal

pub finished-requires-clause-family : goal.finished-requires-clause-family
finished-requires-clause-family c = rw c.without-rows.ensures (family_without c.args.cown c.args.rows.now _ _ _ _ c.requires.known.family)
