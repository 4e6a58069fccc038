use Rattle.std.proofs.Common.{◌<◌, ◌^◌, ℕ, List, Option, Some, None, length, refl, subst, sym}
use Rattle.std.specs.Prelude.{All}
use Rattle.std.proofs.lemmas.Result.{IfOk-weaker}
use Rattle.boc_plans.specs.Seen.{seen}
use Rattle.boc_cowns.specs.Hot.{IsHotCowns}
use Rattle.boc_remedies.specs.Questions.{Asked}
use Rattle.boc_remedies.specs.Together.{AreCownsTogether}
use Rattle.boc_remedies.specs.declared.together.Together.{Together}
use Rattle.boc_cowns_report.specs.declared.told.CownsTold.{CownsTold}
use Rattle.boc_plan_commands.specs.CownsAnswers.{AreJudgedFor, AreToldBy}
use Rattle.boc_plan_commands.specs.OrderAnswers.{IsOtherOrder}
use Rattle.boc_plan_commands.proofs.CownsParts.{asked_with, told_in_names}
use Rattle.boc_plan_commands.proofs.cowns.told.Goals as goal

pub judged_text-requires-clause-low : goal.judged_text-requires-clause-low
judged_text-requires-clause-low g c κs within =
    subst (λ (told : CownsTold). All (λ own. own.held < 2 ^ 56) told.hot.now.cowns.items) (sym c.told_for-told.ensures) c.in_ok-hot.ensures.low

pub cowns_text-requires-clause-low : goal.cowns_text-requires-clause-low
cowns_text-requires-clause-low g c =
    subst (λ (told : CownsTold). All (λ own. own.held < 2 ^ 56) told.hot.now.cowns.items) (sym c.told_for-told.ensures) c.in_ok-hot.ensures.low

pub returns-in-Some : goal.returns-in-Some
returns-in-Some g c =
    let asked = c.args.asked in
    let rows = c.args.run.now.rows in
    let question : Asked = asked_with rows c.deref.result.now c.deref-2.result.now asked.sharing asked.workers in
    let hot = c.in_ok-hot.hot in
    let own : CownsTold = c.told_for-told.result in
    IfOk-weaker c.judged_text.result _ _ (λ text is. record {
      told = record { hot = own.hot; judged = Some is.judged; together = own.together; order = own.order };
      are = told_in_names rows c.args.run.now.names asked.sharing asked.workers c.deref.result.now c.deref-2.result.now c.deref.ensures.value
          c.deref-2.ensures.value (record { hot = own.hot; judged = Some is.judged; together = own.together; order = own.order }) (record {
            is_hot = subst (λ (told : CownsTold). IsHotCowns rows asked.sharing (length c.deref-2.result.now) told.hot.now) (sym c.told_for-told.ensures)
                c.in_ok-hot.ensures.hot;
            judged = subst (λ (workers : Option ℕ). AreJudgedFor question own.hot.now workers (Some is.judged)) (sym c.in-Some.is) is.are;
            together = subst (λ (told : CownsTold). AreCownsTogether question told.hot.now.span told.together.now) (sym c.told_for-told.ensures)
                (subst (λ (lines : List Together). AreCownsTogether question hot.span lines) (sym c.deref-3.ensures.value) c.in_ok-together.ensures);
            order = subst (λ (told : CownsTold). IsOtherOrder (seen asked.sharing rows) told.hot.now.span told.order) (sym c.told_for-told.ensures)
                c.in_ok-order.ensures;
          });
      text_is = is.text_is;
    }) c.judged_text.ensures

pub returns : goal.returns
returns g c =
    let asked = c.args.asked in
    let rows = c.args.run.now.rows in
    let question : Asked = asked_with rows c.deref.result.now c.deref-2.result.now asked.sharing asked.workers in
    let hot = c.in_ok-hot.hot in
    IfOk-weaker c.cowns_text.result _ _ (λ text is. record {
      told = c.told_for-told.result;
      are = told_in_names rows c.args.run.now.names asked.sharing asked.workers c.deref.result.now c.deref-2.result.now c.deref.ensures.value
          c.deref-2.ensures.value c.told_for-told.result (subst (λ (told : CownsTold). AreToldBy question told) (sym c.told_for-told.ensures) (record {
            is_hot = c.in_ok-hot.ensures.hot;
            judged = subst (λ (workers : Option ℕ). AreJudgedFor question hot workers None) (sym c.in-None.is) refl;
            together = subst (λ (lines : List Together). AreCownsTogether question hot.span lines) (sym c.deref-3.ensures.value) c.in_ok-together.ensures;
            order = c.in_ok-order.ensures;
          }));
      text_is = is;
    }) c.cowns_text.ensures
