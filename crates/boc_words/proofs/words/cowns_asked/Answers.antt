use Rattle.boc_words.proofs.Given.{meant_next}
use Rattle.boc_words.proofs.words.cowns_asked.Goals as goal

pub loop-text-preserved : goal.loop-text-preserved
loop-text-preserved c =
    meant_next c.texts_at-texts.result.now c.loop-text.text-index _ c.loop-text.cowns.items c.push.new.self.items c.in_ok-cown.cown
    c.loop-text-test.true c.loop-text.invariant c.in_ok-push.ensures.items c.in_ok-cown.ensures
