use Rattle.std.proofs.Common.{ap, length, length-append, arith}
use Rattle.boc_order.proofs.LeftOut.{others_follow, first_more, all_followers}
use Rattle.boc_order.proofs.cown_links.followers_without.Goals as goal

pub loop-row-preserved : goal.loop-row-preserved
loop-row-preserved c =
    let i = c.loop-row.invariant in
    let adds = rw c.deref.ensures.value at c.in_ok-place.ensures.adds in
    record {
      room = omega (arith, i.room, c.push_reserved-in-loop-row.ensures.capacity);
      len = omega (arith, i.len, c.push_reserved-in-loop-row.ensures.len);
      at = rw c.deref.ensures.value at c.in_ok-place.ensures.next;
      follow = rw (c.push_reserved-in-loop-row.ensures.items, c.in_ok-end_of.ensures, c.deref-in-loop-row.ensures.value)
          (first_more c.args.cown c.args.rows.now c.loop-row.row c.loop-row.first.items c.loop-row.list.items c.add_others.new.list.items adds.added adds.is
          (others_follow c.args.cown c.args.rows.now c.args.links.now.list.items c.requires.links c.loop-row.row c.loop-row.list.items
          c.add_others.new.list.items adds)
          i.follow (omega (arith, ap length adds.is, length-append c.loop-row.list.items adds.added)));
    }

pub returns : goal.returns
returns c = rw c.new.ensures (all_followers c.args.cown c.args.rows.now c.loop-row.row c.loop-row.first.items c.loop-row.list.items
    (omega (arith, c.loop-row-test.false, c.len-row-end.ensures.count, c.loop-row.auto.row-end)) c.loop-row.invariant.follow)
