use Rattle.boc_reader.proofs.Reading.{wrong_has_none}
use Rattle.boc_reader.proofs.lex.read_tokens.Goals as goal

pub returns-in-Err-At : goal.returns-in-Err-At
returns-in-Err-At c =
    let wrong = rw c.in-Err-At.field-0-is at c.in-Err-At.ensures.tokens in
    wrong_has_none c.in-Err-At.field-0-0 c.args.text.now c.in-Err-At.field-0-1 wrong.1
