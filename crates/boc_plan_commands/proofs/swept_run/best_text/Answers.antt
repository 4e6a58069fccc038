use Rattle.std.proofs.Common.{◌∙◌, ℕ, ap, take, take_all}
use Rattle.std.proofs.lemmas.List.{take_min}
use Rattle.boc_plan_commands.specs.SweepAnswers.{best_text}
use Rattle.boc_plan_commands.proofs.SweptLines.{best_more}
use Rattle.boc_plan_commands.proofs.swept_run.best_text.Goals as goal

pub loop-own-preserved : goal.loop-own-preserved
loop-own-preserved c =
    best_more c.args.was c.args.first c.from.result _ c.split_at.result.0.now c.loop-own.own-index _ c.loop-own.text.items c.put_gain.new.text.items
    c.loop-own-test.true c.loop-own.invariant c.from.ensures c.in_ok-put_gain.ensures

pub returns : goal.returns
returns c =
    c.loop-own.invariant
    ∙ ap (best_text c.args.was c.args.first _) (take_all c.loop-own.own-index c.split_at.result.0.now c.loop-own-test.false ∙ c.split_at.ensures.front
    ∙ ap (λ (n : ℕ). take n c.args.all.now) c.min.ensures ∙ take_min c.args.most c.args.all.now)
