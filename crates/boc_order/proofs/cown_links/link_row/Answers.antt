use Rattle.std.proofs.Common.{◌<◌, ℕ, length, arith, refl}
use Rattle.boc_runs.specs.Rows.{cowns_of}
use Rattle.boc_order.proofs.Using.{cown_small, halfway_none, halfway_more, halfway_all, turn_use}
use Rattle.boc_order.proofs.CownLinked.{so_far_none, so_far_more, so_far_all}
use Rattle.boc_order.proofs.cown_links.link_row.Goals as goal

pub loop-cown-init : goal.loop-cown-init
loop-cown-init c = record {
  uses = halfway_none _ _ _ _ c.requires.uses;
  linked = so_far_none _ _ _ _ c.requires.linked;
}

pub bounds-uses-cown : goal.bounds-uses-cown
bounds-uses-cown c =
    let i : ℕ = c.loop-cown.cown-index in
    let below : i < length (cowns_of c.args.rows.now c.args.row) = rw (← c.cowns-cown-items.ensures) c.loop-cown-test.true in
    rw c.cowns-cown-items.ensures (omega (arith, c.loop-cown.invariant.uses.whole, cown_small _ c.requires.shape _ i c.requires.there below))

pub add_waits-requires-clause-used : goal.add_waits-requires-clause-used
add_waits-requires-clause-used c =
    let below : c.loop-cown.cown-index < length (cowns_of c.args.rows.now c.args.row) = rw (← c.cowns-cown-items.ensures) c.loop-cown-test.true in
    rw c.cowns-cown-items.ensures (turn_use _ c.requires.shape _ _ _ _ c.requires.there below c.loop-cown.invariant.uses)

pub note_use-requires-clause-used : goal.note_use-requires-clause-used
note_use-requires-clause-used c =
    let below : c.loop-cown.cown-index < length (cowns_of c.args.rows.now c.args.row) = rw (← c.cowns-cown-items.ensures) c.loop-cown-test.true in
    rw c.cowns-cown-items.ensures (turn_use _ c.requires.shape _ _ _ _ c.requires.there below c.loop-cown.invariant.uses)

pub loop-cown-preserved : goal.loop-cown-preserved
loop-cown-preserved c =
    let below : c.loop-cown.cown-index < length (cowns_of c.args.rows.now c.args.row) = rw (← c.cowns-cown-items.ensures) c.loop-cown-test.true in
    record {
      uses = rw c.cowns-cown-items.ensures (halfway_more _ _ _ _ _ _ (cown_small _ c.requires.shape _ _ c.requires.there below) c.loop-cown.invariant.uses
          (rw c.cowns-cown-items.ensures at c.in_ok-note_use.ensures));
      linked = rw (c.in_ok-put_links.ensures, c.deref.ensures.value, c.cowns-cown-items.ensures) (so_far_more _ _ _ _ _ _ _ c.clear.ensures.items
          c.loop-cown.invariant.linked (rw c.cowns-cown-items.ensures at c.in_ok-add_waits.ensures));
    }

pub returns-clause-uses : goal.returns-clause-uses
returns-clause-uses c = halfway_all _ c.requires.shape _ c.loop-cown.cown-index _ _ c.requires.there refl
    (rw (← c.cowns-cown-items.ensures) (omega (arith, c.loop-cown-test.false, c.loop-cown.auto.cown-index-end))) c.loop-cown.invariant.uses

pub returns-clause-linked : goal.returns-clause-linked
returns-clause-linked c = so_far_all _ _ c.loop-cown.cown-index _ _ refl
    (rw (← c.cowns-cown-items.ensures) (omega (arith, c.loop-cown-test.false, c.loop-cown.auto.cown-index-end))) c.loop-cown.invariant.linked
