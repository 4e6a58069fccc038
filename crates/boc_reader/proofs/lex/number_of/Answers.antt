use Rattle.std.proofs.Common.{sym, ◌∙◌, arith}
use Rattle.boc_reader.proofs.Texts.{stays_large}
use Rattle.boc_reader.proofs.Reading.{no_numeral}
use Rattle.boc_reader.proofs.lex.number_of.Goals as goal

pub returns-then-not-is_numeral : goal.returns-then-not-is_numeral
returns-then-not-is_numeral c =
    let none = sym c.is_numeral.ensures.value ∙ c.if-not-is_numeral.true in (no_numeral c.args.run.now c.requires.digit none, none)

pub returns-then-digit-value : goal.returns-then-digit-value
returns-then-digit-value c = (
  sym c.is_numeral.ensures.value ∙ c.if-not-is_numeral.false,
  stays_large c.args.run.now c.loop-byte.byte-index (omega arith) (omega (arith, c.loop-byte.invariant.0)),
)
