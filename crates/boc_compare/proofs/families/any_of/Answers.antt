use Rattle.std.proofs.Common.{◌∙◌, sym}
use Rattle.boc_compare.specs.Totalled.{is_of}
use Rattle.boc_compare.proofs.FamilyTotals.{any_here, any_later, any_none}
use Rattle.boc_compare.proofs.families.any_of.Goals as goal

pub returns-then-is_of : goal.returns-then-is_of
returns-then-is_of c = any_here (is_of c.args.families.now c.args.family) c.args.cowns.now c.loop-cown.cown-index c.loop-cown.invariant c.loop-cown-test.true
    (sym c.is_of.ensures ∙ c.if-is_of.true)

pub loop-cown-preserved : goal.loop-cown-preserved
loop-cown-preserved c = any_later (is_of c.args.families.now c.args.family) c.args.cowns.now c.loop-cown.cown-index c.loop-cown.invariant
    c.loop-cown-test.true (sym c.is_of.ensures ∙ c.if-is_of.false)

pub returns : goal.returns
returns c = any_none (is_of c.args.families.now c.args.family) c.args.cowns.now c.loop-cown.cown-index c.loop-cown.invariant c.loop-cown-test.false
