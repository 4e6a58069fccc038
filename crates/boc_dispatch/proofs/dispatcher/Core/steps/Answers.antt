use Rattle.std.proofs.Common.{arith}
use Rattle.boc_dispatch.specs.Inside.{parts_of, state}
use Rattle.boc_dispatch.proofs.Fits.{steps_fit}
use Rattle.boc_dispatch.proofs.dispatcher.Core.steps.Goals as goal

pub returns-clause-few : goal.returns-clause-few
returns-clause-few g c =
    let d = parts_of g.C.Chains.lists g.C.Chains.place c.self.inside.roster in
    omega (arith, steps_fit d.program (state d) c.self.invariant.kept.sound)
