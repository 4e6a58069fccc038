use Rattle.std.proofs.Common.{◌∙◌, ap, sym}
use Rattle.boc_plan_commands.specs.Asked.{has_name}
use Rattle.boc_plan_commands.proofs.MeantParts.{those_with, those_without}
use Rattle.boc_plan_commands.proofs.meant.put_named.Goals as goal
use Rattle.boc_plan_commands.proofs.meant.put_named.Goals.{then-has_name+in_ok-push, else-has_name}

pub loop-cown-preserved : goal.loop-cown-preserved
loop-cown-preserved c = elim c.if-has_name.branch [
  | then-has_name+in_ok-push w ↦
      those_with (has_name c.args.names.now c.args.name.now) c.loop-cown.cown c.args.cowns.now.items c.loop-cown.cowns.items c.if-has_name.cowns.items
      c.loop-cown.invariant (sym c.has_name.ensures ∙ w.if-has_name.true) (ap (λ v. v.items) w.cowns-is ∙ w.in_ok-push.ensures.items)
  | else-has_name w ↦
      those_without (has_name c.args.names.now c.args.name.now) c.loop-cown.cown c.args.cowns.now.items c.loop-cown.cowns.items
      c.if-has_name.cowns.items c.loop-cown.invariant (sym c.has_name.ensures ∙ w.if-has_name.false) (ap (λ v. v.items) w.cowns-is)
]
