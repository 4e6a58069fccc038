use Rattle.std.proofs.Common.{◌+◌, ◌*◌, ◌<◌, length, true≢false, sym, ◌∙◌, arith}
use Rattle.std.specs.Prelude.{slice_index}
use Rattle.boc_runs.specs.Rows.{cowns_of}
use Rattle.boc_eager.proofs.Raising.{raised_read, raised_write}
use Rattle.boc_eager.proofs.steps.raise.Goals.{then-writes, else-writes, Joined-writes}
use Rattle.boc_eager.proofs.steps.raise.Goals as goal

next_there : (c : Joined-writes) → c.loop-cown.cown-index < length (cowns_of c.args.rows.now c.args.row)
next_there c = rw c.cowns-cown-items.ensures at c.loop-cown-test.true

next_low : (c : Joined-writes) → 2 * slice_index (cowns_of c.args.rows.now c.args.row) c.loop-cown.cown-index + 1 < length c.loop-cown.free
next_low c =
    let byte = rw c.cowns-cown-items.ensures at (c.type_inv.cown-items c.loop-cown.cown-index) in
    omega (arith, byte.fits, c.loop-cown.invariant.whole, c.requires.whole)

pub loop-cown-preserved : goal.loop-cown-preserved
loop-cown-preserved c = elim c.if-writes.branch [
  | then-writes w ↦ raised_write c.args.rows.now c.args.row c.args.end c.loop-cown.cown-index c.args.free.now c.loop-cown.free (next_there c)
      c.loop-cown.invariant c.max.result w.max-then-writes.result c.if-writes.free (next_low c) (rw c.cowns-cown-items.ensures at c.max.ensures)
      ((rw c.cowns-cown-items.ensures at c.writes.ensures).0 w.if-writes.true) (rw c.cowns-cown-items.ensures at w.max-then-writes.ensures)
      (rw c.cowns-cown-items.ensures at w.free-is)
  | else-writes w ↦ raised_read c.args.rows.now c.args.row c.args.end c.loop-cown.cown-index c.args.free.now c.loop-cown.free (next_there c)
      c.loop-cown.invariant c.max.result c.if-writes.free (next_low c) (rw c.cowns-cown-items.ensures at c.max.ensures)
      (λ own. true≢false (sym ((rw c.cowns-cown-items.ensures at c.writes.ensures).1 own) ∙ w.if-writes.false))
      (rw c.cowns-cown-items.ensures at w.free-is)
]
