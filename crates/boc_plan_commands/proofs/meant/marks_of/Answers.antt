use Rattle.std.proofs.Common.{ap, ◌∙◌}
use Rattle.std.specs.Int.{from_bool}
use Rattle.boc_plan_commands.specs.Asked.{is_of}
use Rattle.boc_plan_commands.proofs.MeantParts.{all_with}
use Rattle.boc_plan_commands.proofs.meant.marks_of.Goals as goal

pub loop-row-preserved : goal.loop-row-preserved
loop-row-preserved c =
    all_with (λ row. from_bool (is_of c.args.names.now c.args.name.now row)) c.loop-row.row c.loop-row.marks.items c.push.new.self.items
    c.from-mark.result c.loop-row.invariant (c.from-mark.ensures ∙ ap from_bool c.is_of.ensures) c.in_ok-push.ensures.items
