use Rattle.std.proofs.Common.{sym, subst}
use Rattle.boc_reader.specs.declared.fault.TokenFault.TheVariants as faults
use Rattle.boc_reader.specs.WrongTokens.{GoesWrong}
use Rattle.boc_reader.specs.FaultMeanings.{SaysOf, TellsPlace}
use Rattle.boc_reader.proofs.Reading.{tells_first}
use Rattle.boc_reader.proofs.read.wrong_at.Goals as goal

pub returns-in-NotAscii : goal.returns-in-NotAscii
returns-in-NotAscii c =
    let told = c.fault_at in
    let first = subst (λ wrong. GoesWrong wrong c.args.text.now c.args.at) c.in-NotAscii.is c.requires.first in
    subst (λ kind. SaysOf kind c.args.text.now × TellsPlace kind told.result c.args.text.now) (sym told.ensures.kind)
    (tells_first faults.NotAscii c.args.text.now c.args.at told.result c.requires.short c.requires.within first told.ensures.at told.ensures.stands)

pub returns-in-BadToken : goal.returns-in-BadToken
returns-in-BadToken c =
    let told = c.fault_at-in-BadToken in
    let first = subst (λ wrong. GoesWrong wrong c.args.text.now c.args.at) c.in-BadToken.is c.requires.first in
    subst (λ kind. SaysOf kind c.args.text.now × TellsPlace kind told.result c.args.text.now) (sym told.ensures.kind)
    (tells_first faults.BadToken c.args.text.now c.args.at told.result c.requires.short c.requires.within first told.ensures.at told.ensures.stands)

pub returns-in-NumberTooLarge : goal.returns-in-NumberTooLarge
returns-in-NumberTooLarge c =
    let told = c.fault_at-in-NumberTooLarge in
    let first = subst (λ wrong. GoesWrong wrong c.args.text.now c.args.at) c.in-NumberTooLarge.is c.requires.first in
    subst (λ kind. SaysOf kind c.args.text.now × TellsPlace kind told.result c.args.text.now) (sym told.ensures.kind)
    (tells_first faults.NumberTooLarge c.args.text.now c.args.at told.result c.requires.short c.requires.within first told.ensures.at told.ensures.stands)
