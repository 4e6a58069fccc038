use Rattle.std.proofs.Common.{ap}
use Rattle.std.specs.Prelude.{None}
use Rattle.boc_chain.specs.Kept.{place_in}
use Rattle.boc_chain.proofs.Rooms.{within, gone_here, kept_gone}
use Rattle.boc_program.proofs.ChangedItems.{set_other}
use Rattle.boc_chain.proofs.list_chains.ListChainsChains.dismiss.Goals as goal

pub invariant_of-self : goal.invariant_of-self
invariant_of-self c =
    let s = c.args.self.now in
    record { kept = kept_gone s.lines.items s.places.items c.args.slot.index s.kept (within s.places.items c.args.slot.index c.requires.admitted) }

pub returns-clause-gone : goal.returns-clause-gone
returns-clause-gone c = gone_here c.args.self.now.places.items c.args.slot.index

pub returns-clause-other_places : goal.returns-clause-other_places
returns-clause-other_places c = λ s n. ap place_in (set_other c.args.self.now.places.items c.args.slot.index s None n)
