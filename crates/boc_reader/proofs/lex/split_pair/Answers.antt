use Rattle.std.proofs.Common.{◌∷◌, [], sym, ap, ◌∙◌, subst, arith, refl}
use Rattle.boc_reader.specs.Tokens.{pair, sign}
use Rattle.boc_reader.specs.WrongTokens.{HasRead}
use Rattle.boc_reader.proofs.Texts.{pair_at}
use Rattle.boc_reader.proofs.Reading.{read_one}
use Rattle.boc_reader.proofs.lex.split_pair.Goals as goal

pub returns-in-Some-pair_sign-clause-read : goal.returns-in-Some-pair_sign-clause-read
returns-in-Some-pair_sign-clause-read c =
    let others = c.in-Some.others.now in
    let found = c.in-Some-pair_sign.ensures in
    let behind = c.in-Some.ensures.cases.0 ∙ ap (λ b. b ∷ others) c.if-second-eq61.true in
    subst (λ bs. HasRead (c.args.first ∷ bs) others (sign c.in-Some-pair_sign.sign ∷ [])) (sym behind)
    (read_one (c.args.first ∷ 61 ∷ others) others (pair c.args.first) (sign c.in-Some-pair_sign.sign ∷ [])
    (pair_at c.args.first others c.in-Some-pair_sign.sign (sym found)) (rw (sym found) refl) (omega arith))
