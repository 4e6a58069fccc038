use Rattle.boc_advice_report.proofs.Regroup.{put_six}
use Rattle.boc_advice_report.proofs.workers.put_too_few.Goals as goal

pub returns : goal.returns
returns c =
    let part = rw c.share-share.ensures at c.in_ok-put_part.ensures in
    let saved = rw (c.saturating_sub.ensures, c.share-share.ensures) at c.in_ok-put_number.ensures.ok in
    put_six _ _ _ _ _ _ _ c.in_ok-extend_from_slice.ensures.items c.in_ok-put_count.ensures c.in_ok-push.ensures.items part
    c.in_ok-extend_from_slice-2.ensures.items saved
