use Rattle.std.proofs.Common.{ap, ◌∙◌, ◌∷◌, arith}
use Rattle.boc_record.specs.Versions.{spelling}
use Rattle.boc_record.proofs.Told.{judged, judged_alike}
use Rattle.boc_record.proofs.line.event_of_line.Goals as goal

pub returns-in-43 : goal.returns-in-43
returns-in-43 c =
    judged_alike c.spawn_of.result c.args.line.now c.in_ok-sign.fields.now (spelling c.args.version) c.args.judge.now.rows 43 (λ e. omega (arith, e))
    c.spawn_of.ensures
    (c.in_ok-sign.ensures.cases.0 ∙ ap (λ x. x ∷ c.in_ok-sign.fields.now) c.in-43.is)

pub returns-in-62 : goal.returns-in-62
returns-in-62 c =
    judged_alike c.start_of.result c.args.line.now c.in_ok-sign.fields.now (spelling c.args.version) c.args.judge.now.rows 62 (λ e. omega (arith, e))
    c.start_of.ensures
    (c.in_ok-sign.ensures.cases.0 ∙ ap (λ x. x ∷ c.in_ok-sign.fields.now) c.in-62.is)

pub returns-in-60 : goal.returns-in-60
returns-in-60 c =
    judged c.end_of.result c.args.line.now c.in_ok-sign.fields.now (spelling c.args.version) c.args.judge.now.rows 60 c.end_of.ensures
    (c.in_ok-sign.ensures.cases.0 ∙ ap (λ x. x ∷ c.in_ok-sign.fields.now) c.in-60.is)
