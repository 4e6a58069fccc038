use Rattle.std.proofs.Common.{◌∙◌}
use Rattle.boc_compare.proofs.AddUp.{changes_sum, side_adds_up}
use Rattle.boc_compare.proofs.laws.changes_add_up.Goals as goal

pub returns : goal.returns
returns c = λ first second before after before_names after_names pairs whole also a b apart others are.
    let sums = changes_sum before_names after_names before.defs.items after.defs.items pairs apart others are in
    (sums.0 ∙ side_adds_up first before whole a, sums.1 ∙ side_adds_up second after also b)
