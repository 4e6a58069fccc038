use Rattle.std.proofs.Common.{◌≡◌, ℕ, ◌+◌, ◌<◌, List, length, get_or, arith, length-set}
use Rattle.std.specs.Prelude.{slice_index, slice_set}
use Rattle.boc_runs.specs.declared.rows.Row.{Row}
use Rattle.boc_runs.specs.Rows.{IsRows, IsLast}
use Rattle.boc_plans.proofs.Children.{row_read, rows_fit, parent_there, last_more}
use Rattle.boc_sweep.proofs.lasts.last_children.Goals as goal

last_next : (rows : List Row) → IsRows rows → (n : ℕ) (x : Row) (table : List ℕ) → n < length rows → x ≡ get_or rows n x → length table ≡ length rows →
    ((p : ℕ) → IsLast rows n p (slice_index table p)) → (p : ℕ) → IsLast rows (n + 1) p (slice_index (slice_set table x.parent x.offset) p)
last_next rows hr n x table there e whole lasts p =
    let r = row_read rows n x there e in
    let fit = rows_fit rows hr n there in
    rw (← r.parent, ← r.offset) (last_more rows n table fit (omega (arith, whole, parent_there rows n fit there)) lasts p)

pub loop-row-preserved : goal.loop-row-preserved
loop-row-preserved c = record {
  whole = omega (arith, length-set {A = ℕ}, c.loop-row.invariant.whole);
  at = λ p. last_next c.args.rows.now c.requires c.loop-row.row-index c.row-item.result c.loop-row.lasts.items c.loop-row-test.true c.row-item.is
      c.loop-row.invariant.whole c.loop-row.invariant.at p;
}
