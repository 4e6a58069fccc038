use Rattle.std.proofs.Common.{◌≡◌}
use Rattle.boc_cut.specs.Windows.{cowns_used}
use Rattle.boc_cut.proofs.table.mark_written.Given as goal

abbrev pub invariant-loop-place : goal.invariant-loop-place
invariant-loop-place l = cowns_used l.uses.items ≡ cowns_used l.fn.uses.items
