use Rattle.std.proofs.Common.{rules, w64}
use Rattle.std.specs.Int.RustNames.{FitsSigned}
use Rattle.std.proofs.lemmas.Int.{to_z-of_z}
use Rattle.boc_remedies.specs.Questions.{asked}
use Rattle.boc_many_runs.proofs.Bounds.{ends_low}
use Rattle.boc_many_runs.proofs.Bringing.{brought_more}
use Rattle.boc_many_runs.proofs.brought.all_brought.Goals as goal

pub brought_by-requires-clause-low : goal.brought_by-requires-clause-low
brought_by-requires-clause-low c =
    let q = c.args.question.now in
    ends_low q.sharing q.rows.now c.as_slice-shape.ensures.shape q.workers c.in_ok-now.now c.in_ok-now.ensures

pub loop-remedy-preserved : goal.loop-remedy-preserved
loop-remedy-preserved c =
    let less = c.in_ok-brought_by.field-0 in
    let fits : FitsSigned w64 less = search rules in
    brought_more (asked c.args.question.now) c.args.remedies.now c.loop-remedy.remedy-index c.remedy-item.result c.remedy-item.result
    c.loop-remedy.all.items c.push.new.self.items less c.loop-remedy-test.true c.remedy-item.is c.loop-remedy.invariant
    c.in_ok-brought_by.ensures (rw (to_z-of_z w64 less fits) at c.in_ok-push.ensures.items)
