use Rattle.boc_advice_report.proofs.Regroup.{put_two}
use Rattle.boc_advice_report.proofs.words.put_remedy.Goals as goal

pub returns-in_ok-extend_from_slice-in-EarlySpawns-2 : goal.returns-in_ok-extend_from_slice-in-EarlySpawns-2
returns-in_ok-extend_from_slice-in-EarlySpawns-2 c =
    let name = rw (c.text_at-in-EarlySpawns.ensures, c.deref-in-EarlySpawns.ensures.value) at c.in_ok-extend_from_slice-in-EarlySpawns-2.ensures.items in
    rw c.in-EarlySpawns.is (put_two _ _ _ c.in_ok-extend_from_slice-in-EarlySpawns.ensures.items name)
