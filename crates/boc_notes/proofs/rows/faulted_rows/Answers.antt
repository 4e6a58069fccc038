use Rattle.std.proofs.Common.{◌∙◌, ap, sym}
use Rattle.boc_notes.specs.Notes.{has_fault}
use Rattle.boc_notes.proofs.Counting.{those_with, those_without}
use Rattle.boc_notes.proofs.rows.faulted_rows.Goals as goal
use Rattle.boc_notes.proofs.rows.faulted_rows.Goals.{then-has_fault+in_ok-push, else-has_fault}

pub loop-row-preserved : goal.loop-row-preserved
loop-row-preserved c = elim c.if-has_fault.branch [
  | then-has_fault+in_ok-push w ↦
      those_with (has_fault c.args.rows.now) c.loop-row.row c.loop-row.faulted.items c.if-has_fault.faulted.items c.loop-row.invariant
      (sym c.has_fault.ensures ∙ w.if-has_fault.true) (ap (λ v. v.items) w.faulted-is ∙ w.in_ok-push.ensures.items)
  | else-has_fault w ↦
      those_without (has_fault c.args.rows.now) c.loop-row.row c.loop-row.faulted.items c.if-has_fault.faulted.items c.loop-row.invariant
      (sym c.has_fault.ensures ∙ w.if-has_fault.false) (ap (λ v. v.items) w.faulted-is)
]
