use Rattle.boc_advice_report.proofs.Regroup.{put_four}
use Rattle.boc_advice_report.proofs.workers.put_neither.Goals as goal

pub returns : goal.returns
returns c =
    let part = rw c.least-least.ensures at c.in_ok-put_part.ensures in
    let saved = rw (c.saturating_sub.ensures, c.least-least.ensures) at c.in_ok-put_number.ensures.ok in
    put_four _ _ _ _ _ c.in_ok-extend_from_slice.ensures.items part c.in_ok-extend_from_slice-2.ensures.items saved
