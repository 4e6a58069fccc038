use Rattle.std.proofs.Common.{◌∙◌, ap, sym}
use Rattle.boc_plan_commands.specs.Asked.{costs, is_of}
use Rattle.boc_plan_commands.proofs.MeantParts.{made_with, made_without}
use Rattle.boc_plan_commands.proofs.meant.put_def.Goals as goal
use Rattle.boc_plan_commands.proofs.meant.put_def.Goals.{then-is_of+in_ok-push, else-is_of}

pub loop-row-preserved : goal.loop-row-preserved
loop-row-preserved c = elim c.if-is_of.branch [
  | then-is_of+in_ok-push w ↦
      made_with (costs c.args.part) (is_of c.args.names.now c.args.name.now) c.loop-row.row c.args.edits.now.items c.loop-row.edits.items
      c.if-is_of.edits.items c.loop-row.invariant (sym c.is_of.ensures ∙ w.if-is_of.true) (ap (λ v. v.items) w.edits-is ∙ w.in_ok-push.ensures.items)
  | else-is_of w ↦
      made_without (costs c.args.part) (is_of c.args.names.now c.args.name.now) c.loop-row.row c.args.edits.now.items c.loop-row.edits.items
      c.if-is_of.edits.items c.loop-row.invariant (sym c.is_of.ensures ∙ w.if-is_of.false) (ap (λ v. v.items) w.edits-is)
]
