use Rattle.std.proofs.Common.{◌∙◌, List, ap}
use Rattle.boc_runs.specs.declared.events.Happening.{Happening}
use Rattle.boc_runs.specs.Happenings.{told}
use Rattle.boc_rules.specs.Log.{Log}
use Rattle.boc_rules.proofs.Telling.{told_rows}
use Rattle.boc_rules.proofs.rules.Rules.events.Goals as goal

pub returns-clause-value : goal.returns-clause-value
returns-clause-value c =
    let rows = c.rows.result.now in
    c.new.ensures ∙ ap (λ (happenings : List Happening). told happenings rows) c.as_slice.ensures.value
    ∙ told_rows c.self.inside.judge.rows rows c.self.inside.happenings.items c.rows.ensures ∙ ap (λ (l : Log). l.events) c.self.view_is
