use Rattle.std.proofs.Common.{sym, subst}
use Rattle.boc_runs.specs.declared.event.Event.{Event}
use Rattle.boc_rules.specs.Judges.{Judges}
use Rattle.boc_rules.specs.SoFar.{so_far}
use Rattle.boc_rules.proofs.so_far.RunSoFar.judge.Goals as goal

pub returns-in-End : goal.returns-in-End
returns-in-End c =
    let run = c.args.self.now in
    subst (λ (event : Event). Judges run.cowns (so_far run) event c.judge_end.result) (sym c.in-End.is) (c.judge_end.ensures c.in-End.status)
