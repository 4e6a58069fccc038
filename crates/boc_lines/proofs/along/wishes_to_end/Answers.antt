use Rattle.boc_eval.specs.Wishes.{wish_of}
use Rattle.boc_lines.proofs.Alongside.{wish_more}
use Rattle.boc_lines.proofs.along.wishes_to_end.Goals as goal

pub loop-frame-preserved-in-Continue-1 : goal.loop-frame-preserved-in-Continue-1
loop-frame-preserved-in-Continue-1 c =
    let more = wish_more c.args.frame.now c.loop-frame.frame c.go_on.new.self c.of.result c.loop-frame-test.ensures.stop.0 (wish_of c.in-Some.wish.now)
    c.loop-frame.wished.items c.push.new.self.items c.loop-frame.invariant.same c.loop-frame-test.ensures.stop.1 c.in-Some.ensures c.of.ensures
    c.in_ok-push.ensures.items c.loop-frame.invariant.so_far in
    record { same = more.0; so_far = more.1; within = more.2 }
