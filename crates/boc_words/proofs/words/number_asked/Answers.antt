use Rattle.std.proofs.Common.{◌∙◌, sym}
use Rattle.clap.specs.Words.{found_of, rows_of}
use Rattle.boc_words.specs.Tables.{option_of}
use Rattle.boc_words.proofs.Given.{no_number}
use Rattle.boc_words.proofs.words.number_asked.Goals as goal

pub returns-in_ok-error_of_words-in-None-clause-refused :
    goal.returns-in_ok-error_of_words-in-None-clause-refused
returns-in_ok-error_of_words-in-None-clause-refused c =
    no_number (option_of c.args.option.now) (rows_of (found_of c.args.matches.now)) c.texts_at-texts.result.now c.texts_at-texts.ensures
    (sym c.is_empty.ensures ∙ c.if-is_empty.false) c.in-None.ensures.none
