use Rattle.boc_whatif.proofs.least_ends.piece_ends.Goals as goal

pub ends_along-requires-clause-course : goal.ends_along-requires-clause-course
ends_along-requires-clause-course c =
    (rw c.new-rows.ensures.same at c.in_ok-own-in-Some.ensures) c.args.parts.now.workers c.requires.course
