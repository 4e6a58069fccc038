use Rattle.std.proofs.Common.{ap, ◌∙◌, ◌∷◌, arith}
use Rattle.boc_stream.proofs.Telling.{parts_said}
use Rattle.boc_stream.proofs.told.parts_of.Goals as goal

pub returns-in-43 : goal.returns-in-43
returns-in-43 c = parts_said (λ r. r.now) c.spawn_of.result c.args.line.now c.in_ok-sign.fields.now 43 (c.in_ok-sign.ensures.cases.0 ∙ ap (λ x. x ∷ c.in_ok-sign.fields.now) c.in-43.is)
    c.spawn_of.ensures

pub returns-in-62 : goal.returns-in-62
returns-in-62 c = parts_said (λ r. r.now) c.start_of.result c.args.line.now c.in_ok-sign.fields.now 62 (c.in_ok-sign.ensures.cases.0 ∙ ap (λ x. x ∷ c.in_ok-sign.fields.now) c.in-62.is)
    c.start_of.ensures

pub returns-in-60 : goal.returns-in-60
returns-in-60 c = parts_said (λ r. r.now) c.end_of.result c.args.line.now c.in_ok-sign.fields.now 60 (c.in_ok-sign.ensures.cases.0 ∙ ap (λ x. x ∷ c.in_ok-sign.fields.now) c.in-60.is)
    c.end_of.ensures

pub returns-in-46 : goal.returns-in-46
returns-in-46 c = parts_said (λ r. r.now) c.last_of.result c.args.line.now c.in_ok-sign.fields.now 46 (c.in_ok-sign.ensures.cases.0 ∙ ap (λ x. x ∷ c.in_ok-sign.fields.now) c.in-46.is)
    c.last_of.ensures
