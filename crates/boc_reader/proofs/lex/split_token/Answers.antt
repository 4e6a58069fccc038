use Rattle.std.proofs.Common.{◌∷◌, [], refl}
use Rattle.boc_reader.specs.Placed.{token_of}
use Rattle.boc_reader.specs.Tokens.{run}
use Rattle.boc_reader.proofs.Reading.{read_one}
use Rattle.boc_reader.proofs.lex.split_token.Goals as goal

pub split_sign-requires-clause-no_name_byte : goal.split_sign-requires-clause-no_name_byte
split_sign-requires-clause-no_name_byte c = c.in_default.ensures.piece c.in-Some-split_first.first.now c.in-Some-split_first.after.now
    c.in-Some-split_first.ensures.cases.0

pub split_sign-requires-clause-no_blank : goal.split_sign-requires-clause-no_blank
split_sign-requires-clause-no_blank c = (c.requires.no_blank c.in-Some-split_first.first.now c.in-Some-split_first.after.now
    c.in-Some-split_first.ensures.cases.0).0

pub split_sign-requires-clause-no_comment : goal.split_sign-requires-clause-no_comment
split_sign-requires-clause-no_comment c = (c.requires.no_blank c.in-Some-split_first.first.now c.in-Some-split_first.after.now
    c.in-Some-split_first.ensures.cases.0).1

pub returns-in-Some-clause-read : goal.returns-in-Some-clause-read
returns-in-Some-clause-read c =
    read_one c.args.text.now c.in-Some.after.now (run c.in-Some.run'.now) (token_of c.in_ok-token_of_run.field-0 ∷ []) c.in-Some.ensures.piece
    (rw c.in_ok-token_of_run.ensures refl) c.in-Some.ensures.whole
