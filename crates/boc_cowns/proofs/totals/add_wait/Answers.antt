use Rattle.std.proofs.Common.{arith}
use Rattle.boc_cowns.specs.Hot.{wait_of, waits_over}
use Rattle.boc_cowns.proofs.Sums.{sums_more, sums_room}
use Rattle.boc_cowns.proofs.totals.add_wait.Goals as goal
use Rattle.boc_cowns.proofs.Waits.{wait_low}

pub add-requires-clause-room : goal.add-requires-clause-room
add-requires-clause-room c = sums_room (waits_over c.args.rows.now c.args.plan.now.after.items) (wait_of c.args.rows.now c.args.plan.now.starts.items)
    c.args.row c.args.totals.now c.requires.sums (omega (arith, c.requires.there, c.requires.shape.not_many)) c.wait_of-wait.result
    (omega (arith, c.wait_of-wait.ensures, wait_low c.args.rows.now c.requires.shape c.args.plan.now c.requires.placed c.args.row c.requires.there))

pub returns : goal.returns
returns c = sums_more (waits_over c.args.rows.now c.args.plan.now.after.items) (wait_of c.args.rows.now c.args.plan.now.starts.items)
    c.args.row c.args.totals.now c.requires.sums c.add.new.totals c.as_slice.result.now c.wait_of-wait.result c.add.ensures.whole c.add.ensures.each
    (λ cown. rw c.as_slice.ensures.value (c.handed_to-cowns.ensures.each cown)) c.wait_of-wait.ensures
    (omega (arith, c.wait_of-wait.ensures, wait_low c.args.rows.now c.requires.shape c.args.plan.now c.requires.placed c.args.row c.requires.there))
