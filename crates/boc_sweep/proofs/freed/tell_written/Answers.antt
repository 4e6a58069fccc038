use Rattle.std.proofs.Common.{◌≡◌, length, arith}
use Rattle.boc_runs.specs.Rows.{cowns_of}
use Rattle.boc_sweep.proofs.Freeing.{told_none, told_more, told_all}
use Rattle.boc_sweep.proofs.freed.tell_written.Goals as goal

pub loop-own-init : goal.loop-own-init
loop-own-init c = told_none c.args.rows.now c.args.row c.args.written.now.items c.requires.before

pub loop-own-preserved : goal.loop-own-preserved
loop-own-preserved c = rw c.in_ok-push.ensures.items
    (told_more c.args.rows.now c.args.row c.loop-own.own-index c.loop-own.written.items c.writes.result c.requires.there c.loop-own.invariant
    (rw c.cowns-own-items.ensures at c.writes.ensures))

pub returns : goal.returns
returns c =
    let all : c.loop-own.own-index ≡ length (cowns_of c.args.rows.now c.args.row) =
    rw (← c.cowns-own-items.ensures) (omega (arith, c.loop-own-test.false, c.loop-own.auto.own-index-end)) in
    told_all c.args.rows.now c.args.row c.loop-own.own-index c.loop-own.written.items c.requires.there all c.loop-own.invariant
