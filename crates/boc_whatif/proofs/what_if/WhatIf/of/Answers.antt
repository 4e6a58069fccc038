use Rattle.boc_whatif.proofs.Keeping.{begun}
use Rattle.boc_whatif.proofs.what_if.WhatIf.of.Goals as goal

pub invariant_of-result : goal.invariant_of-result
invariant_of-result c =
    begun _ _ _ _ _ _ _ c.as_slice.ensures.shape c.new-seen.ensures.same (rw c.as_slice.ensures.same at c.in_ok-lasts.ensures)
    (rw c.as_slice-2.ensures.same at c.in_ok-siblings.ensures) c.in_ok-waits.ensures.waits c.in_ok-waits.ensures.placed
    c.in_ok-waits.ensures.room
