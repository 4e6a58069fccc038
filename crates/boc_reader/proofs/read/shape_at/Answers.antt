use Rattle.std.proofs.Common.{sym, subst}
use Rattle.boc_reader.specs.declared.fault.ShapeFault.TheVariants as faults
use Rattle.boc_reader.specs.WrongShape.{ShapeFaultStandsAt}
use Rattle.boc_reader.specs.FaultMeanings.{SaysOf, TellsPlace}
use Rattle.boc_reader.proofs.Strays.{tells_shape}
use Rattle.boc_reader.proofs.read.shape_at.Goals as goal

pub returns-in-Unexpected : goal.returns-in-Unexpected
returns-in-Unexpected c =
    let told = c.fault_at in
    let stands = subst (λ wrong. ShapeFaultStandsAt wrong c.args.text.now c.args.at) c.in-Unexpected.is c.requires.stands in
    subst (λ kind. SaysOf kind c.args.text.now × TellsPlace kind told.result c.args.text.now) (sym told.ensures.kind)
    (c.requires.none, tells_shape faults.Unexpected c.args.text.now c.args.at told.result stands told.ensures.at told.ensures.stands)

pub returns-in-TooMany : goal.returns-in-TooMany
returns-in-TooMany c =
    let told = c.fault_at-in-TooMany in
    let stands = subst (λ wrong. ShapeFaultStandsAt wrong c.args.text.now c.args.at) c.in-TooMany.is c.requires.stands in
    subst (λ kind. SaysOf kind c.args.text.now × TellsPlace kind told.result c.args.text.now) (sym told.ensures.kind)
    (c.requires.none, tells_shape faults.TooMany c.args.text.now c.args.at told.result stands told.ensures.at told.ensures.stands)
