use Rattle.std.proofs.Common.{◌≡◌, ℕ, ◌<◌, length, arith}
use Rattle.boc_runs.specs.Rows.{cowns_of}
use Rattle.boc_order.proofs.Using.{cown_small}
use Rattle.boc_sweep.proofs.Passing.{had_none, had_more, had_all}
use Rattle.boc_sweep.proofs.passes.tell_had.Goals as goal

pub loop-own-init : goal.loop-own-init
loop-own-init c = had_none c.args.rows.now c.args.row c.args.had.now c.requires.whole c.requires.before

pub loop-own-preserved : goal.loop-own-preserved
loop-own-preserved c =
    let rows = c.args.rows.now in
    let i : ℕ = c.loop-own.own-index in
    let below : i < length (cowns_of rows c.args.row) = rw (← c.cowns-own-items.ensures) c.loop-own-test.true in
    rw c.cowns-own-items.ensures (had_more rows c.args.row i c.loop-own.had (cown_small rows c.requires.shape c.args.row i c.requires.there below)
    c.loop-own.invariant)

pub returns-clause-told : goal.returns-clause-told
returns-clause-told c =
    let all : length (cowns_of c.args.rows.now c.args.row) ≡ c.loop-own.own-index =
    rw (← c.cowns-own-items.ensures) (omega (arith, c.loop-own-test.false, c.loop-own.auto.own-index-end)) in
    had_all c.args.rows.now c.args.row c.loop-own.own-index c.loop-own.had all c.loop-own.invariant
