use Rattle.std.proofs.Common.{◌-◌, ◌+◌, vec_len}
use Rattle.boc_program.specs.declared.limits.TheConstants.{MOST_TEXT}
use Rattle.boc_text.proofs.Progress.{HasRead}
use Rattle.boc_input.proofs.taken.front.Given as goal

abbrev pub invariant-loop-text : goal.invariant-loop-text
invariant-loop-text g l = HasRead (g.S.Source.remaining l.initial.source) (g.S.Source.remaining l.source) l.text.items (MOST_TEXT + 1)
    (g.S.Source.failures l.initial.source) (g.S.Source.failures l.source)

abbrev pub decreases-loop-text : goal.decreases-loop-text
decreases-loop-text g l = (MOST_TEXT + 1) - vec_len l.text
