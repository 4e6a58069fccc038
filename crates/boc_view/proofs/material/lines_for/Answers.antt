use Rattle.std.proofs.Common.{List, Option, sym, subst}
use Rattle.std.specs.Prelude.{IfOk}
use Rattle.boc_plans.specs.declared.chain.ChainStep.{ChainStep}
use Rattle.boc_view.specs.Lines.{AreLinesFor, AreLinesShown}
use Rattle.boc_view.specs.declared.found.Found.{Found}
use Rattle.boc_view.proofs.material.lines_for.Goals as goal

pub returns-in-Some : goal.returns-in-Some
returns-in-Some c =
    subst (λ (found : Option Found). IfOk c.lines_of.result (λ lines. AreLinesFor c.args.program.now c.args.rows.now found lines.items)) (sym c.in-Some.is)
    (subst (λ (steps : List ChainStep). IfOk c.lines_of.result (λ lines. AreLinesShown c.args.program.now c.args.rows.now steps lines.items))
    c.deref.ensures.value c.lines_of.ensures)
