use Rattle.std.proofs.Common.{◌∙◌}
use Rattle.clap.proofs.WalkLemmas.{raw_values-rows}
use Rattle.clap.specs.Words.{found_of}
use Rattle.boc_words.proofs.Given.{read}
use Rattle.boc_words.proofs.words.texts_at.Goals as goal

pub returns : goal.returns
returns c =
    read c.get_strs.result c.unwrap_or_default.result _ _ (λ x h. h) c.unwrap_or_default.ensures
    (c.get_strs.ensures ∙ raw_values-rows (found_of c.args.matches.now) c.args.id.now)
