use Rattle.std.proofs.Common.{◌∙◌, arith, sym}
use Rattle.boc_plans.specs.declared.chain.ChainStep.{ChainStep}
use Rattle.boc_plans.specs.declared.chain.Via.TheVariants.{Spawn}
use Rattle.boc_why_report.proofs.Legs.{stretch_of}
use Rattle.boc_why_report.proofs.folded.stretch_len.Goals as goal

abbrev none : ChainStep
none = record { row = 0; via = Spawn; weight = 0 }

pub returns-else-def_of-clause-first : goal.returns-else-def_of-clause-first
returns-else-def_of-clause-first c = λ links whole.
    let so_far = c.loop-end.invariant in
    stretch_of c.args.names.now.defs.items c.args.steps.now links c.loop-end.end none whole so_far.some so_far.within
    (λ k h. so_far.together k none h) (λ h same. c.if-def_of.false (c.def_of.ensures ∙ same ∙ sym c.def_of-in-loop-end.ensures))

pub returns-after-loop-end-clause-first : goal.returns-after-loop-end-clause-first
returns-after-loop-end-clause-first c = λ links whole.
    let so_far = c.loop-end.invariant in
    stretch_of c.args.names.now.defs.items c.args.steps.now links c.loop-end.end none whole so_far.some so_far.within
    (λ k h. so_far.together k none h) (λ h same. absurd (omega (arith, h)))
