use Rattle.std.proofs.lemmas.Result.{IfOk-weaker}
use Rattle.boc_plans.specs.Seen.{seen}
use Rattle.boc_plan_commands.specs.SweepAnswers.{called_of}
use Rattle.boc_plan_commands.proofs.BestEnds.{places_fit}
use Rattle.boc_plan_commands.proofs.SweptLines.{all_told, best_told}
use Rattle.boc_plan_commands.proofs.swept_run.swept_text.Goals as goal

pub cown_count-count-requires : goal.cown_count-count-requires
cown_count-count-requires g c = c.requires.few_cowns

pub returns-in-None : goal.returns-in-None
returns-in-None g c =
    IfOk-weaker c.lines_text.result _ _ (λ text is. all_told (seen c.args.question.now.sharing c.args.question.now.rows) _ c.args.asked.over
    c.args.asked.best (called_of c.args.names.now c.args.asked.over c.args.are_named) _ c.first_number-first.result c.in_ok-ends.ends.items
    c.deref.result.now text.items c.cown_count-count.result c.in-None.is c.cown_count-count.ensures c.in_ok-ends.ensures.swept c.deref.ensures.value
    c.first_number-first.ensures c.called_of-called.ensures is) c.lines_text.ensures

pub returns : goal.returns
returns g c =
    IfOk-weaker c.best_text.result _ _ (λ text is. best_told (seen c.args.question.now.sharing c.args.question.now.rows) _ c.args.asked.over
    c.args.asked.best c.in-Some.most (called_of c.args.names.now c.args.asked.over c.args.are_named) _ c.first_number-first.result
    c.in_ok-was-in-Some.was' c.in_ok-ends.ends.items c.deref-in-Some.result.now c.in_ok-all-in-Some.all.items c.deref-in-Some-2.result.now text.items
    c.cown_count-count.result c.in-Some.is c.cown_count-count.ensures c.in_ok-ends.ensures.swept c.in_ok-was-in-Some.ensures c.deref-in-Some.ensures.value
    c.in_ok-all-in-Some.ensures.ranked c.deref-in-Some-2.ensures.value c.first_number-first.ensures c.called_of-called.ensures is) c.best_text.ensures

pub best_text-requires : goal.best_text-requires
best_text-requires g c =
    places_fit c.in_ok-ends.ends.items c.deref-in-Some.result.now c.in_ok-all-in-Some.all.items c.deref-in-Some-2.result.now c.in_ok-ends.ensures.few
    c.deref-in-Some.ensures.value c.in_ok-all-in-Some.ensures.below c.deref-in-Some-2.ensures.value
