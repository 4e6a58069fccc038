use Rattle.std.proofs.Common.{rules}
use Rattle.boc_reader.specs.Grammar.{def_phrase}
use Rattle.boc_reader.specs.Views.{def_of}
use Rattle.boc_reader.proofs.Refused.{passes}
use Rattle.boc_reader.proofs.Declarations.{no_signature, no_body}
use Rattle.boc_reader.proofs.parse.def.Goals as goal

pub returns-in_err-name-clause-answers : goal.returns-in_err-name-clause-answers
returns-in_err-name-clause-answers c =
    passes def_phrase def_of _ _ _ _ _ c.from_residual-in_err-name.ensures.1 c.in_err-name.ensures.answers
    (no_signature c.args.cursor.now c.keyword.new.self (search rules))

pub returns-in_err-block-clause-answers : goal.returns-in_err-block-clause-answers
returns-in_err-block-clause-answers c =
    passes def_phrase def_of _ _ _ _ _ c.from_residual-in_err-block.ensures.1 c.in_err-block.ensures.answers
    (no_body c.args.cursor.now c.keyword.new.self c.signature.new.cursor _ (search rules) c.in_ok-name.ensures.answers.0)
