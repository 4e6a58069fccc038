use Rattle.std.proofs.Common.{arith, subst, below_more}
use Rattle.boc_dispatch.specs.Inside.{parts_of}
use Rattle.boc_dispatch.specs.Moves.{MovesAtOrNot}
use Rattle.boc_dispatch.proofs.Movable.{nobody}
use Rattle.boc_dispatch.proofs.Tables.{live_there}
use Rattle.boc_dispatch.proofs.roster.Roster.movable_worker.Goals as goal

pub loop-slot-preserved : goal.loop-slot-preserved
loop-slot-preserved g c =
    let d = parts_of g.C.Chains.lists g.C.Chains.place c.args.self.now in
    below_more _ _ c.loop-slot.invariant (subst (MovesAtOrNot d c.loop-slot.slot) c.in_default.is c.mover_at.ensures)

pub returns : goal.returns
returns g c =
    let d = parts_of g.C.Chains.lists g.C.Chains.place c.args.self.now in
    nobody d c.requires.kept (λ slot l is.
    let below = live_there c.args.self.now.live.slots slot l is in
    c.loop-slot.invariant slot (omega (arith, below, c.capacity-slot-end.ensures.slots, c.loop-slot-test.false)) l is)
