use Rattle.std.proofs.Common.{◌<◌, ℕ, length, arith, refl}
use Rattle.boc_runs.specs.Rows.{cowns_of}
use Rattle.boc_order.proofs.Using.{cown_small, halfway_none, halfway_more, halfway_all, turn_use, added_none, added_more, added_all}
use Rattle.boc_order.proofs.gathering.gather.Goals as goal

pub loop-cown-init : goal.loop-cown-init
loop-cown-init c = record {
  uses = halfway_none _ _ _ _ c.requires.uses;
  list = added_none _ _ _ _;
}

pub bounds-uses-cown : goal.bounds-uses-cown
bounds-uses-cown c =
    let i : ℕ = c.loop-cown.cown-index in
    let below : i < length (cowns_of c.args.rows.now c.args.row) = rw (← c.cowns-cown-items.ensures) c.loop-cown-test.true in
    rw c.cowns-cown-items.ensures (omega (arith, c.loop-cown.invariant.uses.whole, cown_small _ c.requires.shape _ i c.requires.there below))

pub add_waits-requires-clause-used : goal.add_waits-requires-clause-used
add_waits-requires-clause-used c =
    let below : c.loop-cown.cown-index < length (cowns_of c.args.rows.now c.args.row) = rw (← c.cowns-cown-items.ensures) c.loop-cown-test.true in
    rw c.cowns-cown-items.ensures (turn_use _ c.requires.shape _ _ _ _ c.requires.there below c.loop-cown.invariant.uses)

pub note_use-requires-clause-used : goal.note_use-requires-clause-used
note_use-requires-clause-used c =
    let below : c.loop-cown.cown-index < length (cowns_of c.args.rows.now c.args.row) = rw (← c.cowns-cown-items.ensures) c.loop-cown-test.true in
    rw c.cowns-cown-items.ensures (turn_use _ c.requires.shape _ _ _ _ c.requires.there below c.loop-cown.invariant.uses)

pub loop-cown-preserved : goal.loop-cown-preserved
loop-cown-preserved c =
    let below : c.loop-cown.cown-index < length (cowns_of c.args.rows.now c.args.row) = rw (← c.cowns-cown-items.ensures) c.loop-cown-test.true in
    record {
      uses = rw c.cowns-cown-items.ensures (halfway_more _ _ _ _ _ _ (cown_small _ c.requires.shape _ _ c.requires.there below) c.loop-cown.invariant.uses
          (rw c.cowns-cown-items.ensures at c.in_ok-note_use.ensures));
      list = added_more _ _ _ _ _ _ _ c.requires.there c.loop-cown.invariant.list (rw c.cowns-cown-items.ensures at c.in_ok-add_waits.ensures);
    }

pub returns-clause-uses : goal.returns-clause-uses
returns-clause-uses c = halfway_all _ c.requires.shape _ c.loop-cown.cown-index _ _ c.requires.there refl
    (rw (← c.cowns-cown-items.ensures) (omega (arith, c.loop-cown-test.false, c.loop-cown.auto.cown-index-end))) c.loop-cown.invariant.uses

pub returns-clause-adds : goal.returns-clause-adds
returns-clause-adds c = added_all _ _ c.loop-cown.cown-index _ _ _ refl
    (rw (← c.cowns-cown-items.ensures) (omega (arith, c.loop-cown-test.false, c.loop-cown.auto.cown-index-end))) c.loop-cown.invariant.list
