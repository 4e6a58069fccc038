use Rattle.std.proofs.Common.{rules}
use Rattle.boc_reader.specs.Grammar.{cown_phrase}
use Rattle.boc_reader.specs.Views.{cown_of, name_of}
use Rattle.boc_reader.proofs.Refused.{passes}
use Rattle.boc_reader.proofs.Declarations.{no_initial}
use Rattle.boc_reader.proofs.parse.cown.Goals as goal

pub returns-in_err-negative-clause-answers : goal.returns-in_err-negative-clause-answers
returns-in_err-negative-clause-answers c =
    passes cown_phrase cown_of _ _ _ _ _ c.from_residual-in_err-negative.ensures.1 c.in_err-negative.ensures.answers
    (no_initial c.args.cursor.now c.name.new.self c.size.new.cursor (name_of c.in_ok-name.name) _ (search rules) c.in_ok-size.ensures.answers.0)
