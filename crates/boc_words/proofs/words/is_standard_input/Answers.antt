use Rattle.std.proofs.Common.{codes, arith}
use Rattle.boc_words.proofs.Given.{one_text_is}
use Rattle.boc_words.proofs.words.is_standard_input.Goals as goal

pub returns : goal.returns
returns c = one_text_is c.args.texts.now _ (codes "-") c.eq.result (omega (arith, c.in-len1.len_at_least)) (omega (arith, c.in-len1.len_below)) c.eq.ensures
