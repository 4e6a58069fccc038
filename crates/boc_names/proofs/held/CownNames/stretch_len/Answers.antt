use Rattle.std.proofs.Common.{◌∙◌, arith, sym}
use Rattle.boc_names.specs.Names.{goes_on}
use Rattle.boc_names.proofs.Stretches.{first_stretch}
use Rattle.boc_names.proofs.held.CownNames.stretch_len.Goals as goal

pub returns-else-goes_on-clause-first : goal.returns-else-goes_on-clause-first
returns-else-goes_on-clause-first c =
    let so_far = c.loop-end.invariant in
    first_stretch (goes_on c.args.self.now) c.args.held.now c.loop-end.end 0 so_far.some so_far.within so_far.together
    (λ h. sym c.goes_on.ensures ∙ c.if-goes_on.false)

pub returns-after-loop-end-clause-first : goal.returns-after-loop-end-clause-first
returns-after-loop-end-clause-first c =
    let so_far = c.loop-end.invariant in
    first_stretch (goes_on c.args.self.now) c.args.held.now c.loop-end.end 0 so_far.some so_far.within so_far.together
    (λ h. absurd (omega (arith, h)))
