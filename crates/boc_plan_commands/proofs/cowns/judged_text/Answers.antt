use Rattle.std.proofs.Common.{subst, sym}
use Rattle.std.proofs.lemmas.Result.{IfOk-weaker}
use Rattle.boc_cowns_report.specs.declared.told.CownsTold.{CownsTold}
use Rattle.boc_cowns_report.specs.CownsTexts.{IsCownsText}
use Rattle.boc_plan_commands.proofs.cowns.judged_text.Goals as goal

pub returns : goal.returns
returns g c =
    IfOk-weaker c.cowns_text.result _ _ (λ text is. record {
      judged = record { workers = c.in_ok-for_workers.for_workers; cowns = c.deref.result };
      are = rw (sym c.deref.ensures.value) at c.in_ok-for_workers.ensures.judged;
      text_is = subst (λ (told : CownsTold). IsCownsText c.args.names.now c.args.question.now.sharing c.args.most told text.items) c.told_for-told.ensures is;
    }) c.cowns_text.ensures
