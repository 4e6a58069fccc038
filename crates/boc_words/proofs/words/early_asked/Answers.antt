use Rattle.std.proofs.Common.{sym}
use Rattle.std.specs.Prelude.{string_bytes}
use Rattle.boc_words.proofs.Given.{taken_next}
use Rattle.boc_words.proofs.words.early_asked.Goals as goal

pub loop-text-preserved : goal.loop-text-preserved
loop-text-preserved c =
    taken_next string_bytes c.texts_at-texts.result.now c.loop-text.text-index _ c.loop-text.defs.items c.push.new.self.items c.in_ok-def.def
    c.loop-text-test.true c.loop-text.invariant c.in_ok-push.ensures.items (sym c.in_ok-def.ensures.ok)
