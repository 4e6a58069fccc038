use Rattle.boc_page.specs.Advice.{candidates_text}
use Rattle.boc_page.proofs.Regroup.{put_four}
use Rattle.boc_page.proofs.advice.put_candidates.Goals as goal

pub returns : goal.returns
unfolding candidates_text
returns c = put_four c.args.text.now.items _ _ _ _ c.in_ok-put_key.ensures c.in_ok-push.ensures.items
    (rw c.listed.ensures at c.in_ok-put_joined_candidates.ensures) c.in_ok-push-2.ensures.items
