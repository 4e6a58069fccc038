use Rattle.std.proofs.Common.{map}
use Rattle.std.specs.Prelude.{string_bytes}
use Rattle.std.proofs.lemmas.Result.{IfErr-weaker}
use Rattle.boc_words.proofs.Refused.{misnamed}
use Rattle.boc_words.proofs.words.read_words.Goals as goal

pub returns-in-Ok-clause-refused : goal.returns-in-Ok-clause-refused
returns-in-Ok-clause-refused c =
    IfErr-weaker c.line_of.result _ _ (λ fault h. misnamed (map string_bytes c.args.words.now) _ fault c.in-Ok.ensures.taken c.in-Ok.ensures.named h)
    c.line_of.ensures.misnamed
