use Rattle.std.proofs.Common.{◌≡◌, ◌∙◌}
use Rattle.boc_end_orders.proofs.Coming.{comes_to}
use Rattle.boc_end_orders.proofs.run.run_to.Goals as goal

pub returns : goal.returns
returns c =
    let run = c.in_ok-run.ensures in
    let order = c.in_ok-order.ensures in
    comes_to c.args.program.now c.args.end.now c.in_ok-run.run' c.in_ok-order.order.items run.program run.whole (run.parents ∙ c.deref-2.ensures.value)
    (order.values ∙ c.deref.ensures.value) order.many
