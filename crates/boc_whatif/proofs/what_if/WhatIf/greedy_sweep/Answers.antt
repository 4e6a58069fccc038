use Rattle.std.proofs.Common.{arith}
use Rattle.rayon.proofs.ListFacts.{IfOk-then}
use Rattle.boc_plans.proofs.Seeing.{length-seen}
use Rattle.boc_whatif.proofs.what_if.WhatIf.greedy_sweep.Goals as goal

pub returns-clause-few : goal.returns-clause-few
returns-clause-few g c = IfOk-then c.least_ends.result _ _ c.least_ends.ensures
    (λ ends s. omega (arith, s.whole, length-seen c.self.inside.sharing c.self.inside.rows, c.self.invariant.shape.not_many))
