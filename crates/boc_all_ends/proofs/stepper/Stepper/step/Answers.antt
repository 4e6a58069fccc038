use Rattle.boc_all_ends.proofs.stepper.Stepper.step.Goals as goal

pub returns-clause-steps : goal.returns-clause-steps
returns-clause-steps c =
    let s = c.in_ok-arranged.ensures.steps in
    record { stepped = s.stepped; order = c.in_ok-arranged.arranged.kept.items; step = s.step; arranged = s.arranged }
