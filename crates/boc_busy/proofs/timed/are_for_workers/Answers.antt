use Rattle.std.proofs.Common.{◌≡◌, true}
use Rattle.boc_busy.proofs.Apart.{all_apart, are_for}
use Rattle.boc_busy.proofs.timed.are_for_workers.Goals as goal

pub returns : goal.returns
returns c =
    let below : c.are_below.result ≡ true = cc in (
      λ apart. are_for c.args.rows.now c.requires.shape c.args.starts.now c.args.ends.now c.args.workers.now c.in_ok-stints.stints.items c.requires.whole
          c.requires.ends c.in_ok-stints.ensures (rw c.deref.ensures.value at c.are_apart.ensures.0 apart) c.args.p c.if-workers-starts.false
          (c.are_below.ensures.0 below),
      λ fit. c.are_apart.ensures.1 (rw c.deref.ensures.value (all_apart c.args.rows.now c.requires.shape c.args.starts.now c.args.ends.now
          c.args.workers.now c.in_ok-stints.stints.items c.requires.whole c.requires.ends c.in_ok-stints.ensures c.args.p fit)),
    )
