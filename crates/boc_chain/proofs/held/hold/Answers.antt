use Rattle.std.proofs.Common.{refl}
use Rattle.boc_chain.proofs.Counted.{awaited_held}
use Rattle.boc_chain.proofs.Rooms.{vacant_there}
use Rattle.boc_chain.proofs.held.hold.Goals as goal

pub returns-clause-awaited : goal.returns-clause-awaited
returns-clause-awaited c = λ k. awaited_held c.args.places.now.items c.args.slot (record { cowns = c.args.cowns; exchanged = 0 }) k
    (vacant_there c.args.places.now.items c.args.slot c.requires.there c.requires.vacant) refl
