use Rattle.boc_reader.specs.Grammar.{main_phrase}
use Rattle.boc_reader.specs.Views.{block_of}
use Rattle.boc_reader.proofs.Refused.{passes}
use Rattle.boc_reader.proofs.Declarations.{no_end}
use Rattle.boc_reader.proofs.parse.main_block.Goals as goal

pub returns-in_err-end : goal.returns-in_err-end
returns-in_err-end c =
    passes main_phrase (λ v. block_of v.items) _ _ _ _ _ c.from_residual-in_err-end.ensures.1 c.in_err-end.ensures
    (no_end c.args.cursor.now c.keyword.new.self c.body.new.cursor _ c.in_ok-keyword.ensures.0 c.in_ok-main.ensures.answers.0)
