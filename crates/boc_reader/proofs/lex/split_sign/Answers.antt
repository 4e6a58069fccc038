use Rattle.std.proofs.Common.{◌∷◌, [], sym, arith, refl}
use Rattle.boc_reader.specs.Tokens.{single, sign}
use Rattle.boc_reader.specs.WrongTokens.{pieces_of}
use Rattle.boc_reader.proofs.Texts.{single_at}
use Rattle.boc_reader.proofs.Reading.{read_one}
use Rattle.boc_reader.proofs.lex.split_sign.Goals as goal

pub returns-in-Some-single_sign-clause-read : goal.returns-in-Some-single_sign-clause-read
returns-in-Some-single_sign-clause-read c =
    let first = c.args.first in
    let after = c.args.after.now in
    let found = c.in-Some-single_sign.ensures in
    read_one (first ∷ after) after (single first) (sign c.in-Some-single_sign.sign ∷ [])
    (single_at first after c.requires.no_name_byte c.requires.no_comment c.in_default.ensures.read) (rw (c.requires.no_blank, sym found) refl) (omega arith)

pub returns-in-None-clause-read : goal.returns-in-None-clause-read
returns-in-None-clause-read c = record {
  wrong = single c.args.first;
  behind = pieces_of c.args.after.now;
  parts = single_at c.args.first c.args.after.now c.requires.no_name_byte c.requires.no_comment c.in_default.ensures.read;
  is_wrong = c.if-first-ge128.true;
}

pub returns-in-None-2-clause-read : goal.returns-in-None-2-clause-read
returns-in-None-2-clause-read c = record {
  wrong = single c.args.first;
  behind = pieces_of c.args.after.now;
  parts = single_at c.args.first c.args.after.now c.requires.no_name_byte c.requires.no_comment c.in_default.ensures.read;
  is_wrong = (sym c.in-None-2.ensures, c.requires.no_blank, c.if-first-ge128.false);
}
