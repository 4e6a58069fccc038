use Rattle.std.proofs.Common.{[], ◌∷◌, ◌∙◌, refl}
use Rattle.boc_remedies.specs.declared.looked_at.TheConstants.{ROUNDS}
use Rattle.boc_remedies.specs.LookedAt.{by_span}
use Rattle.boc_remedies.proofs.Looking.{all_rounds, no_round, one_round}
use Rattle.boc_remedies.specs.Questions.{asked}
use Rattle.boc_remedies.proofs.looked_at.looked_at.Goals as goal

pub loop-init : goal.loop-init
loop-init g c = no_round (by_span (asked c.args.question.now)) ROUNDS (record { families = []; span = c.args.span } ∷ []) c.push.new.self.items
    (c.in_ok-push.ensures.items ∙ rw (c.new-looked.ensures.items, c.none-families.ensures) refl)

pub look_on-requires-clause-there : goal.look_on-requires-clause-there
look_on-requires-clause-there g c = λ κs within. c.loop.invariant.0

pub loop-preserved : goal.loop-preserved
loop-preserved g c = one_round (by_span (asked c.args.question.now)) ROUNDS c.loop.counter (record { families = []; span = c.args.span } ∷ [])
    c.loop.looked.items c.look_on.new.looked.items c.loop.from c.len-count.result c.loop-test.true c.loop.invariant c.in_ok-look_on.ensures
    (c.len-count.ensures ∙ c.loop.looked.ok.0)

pub returns : goal.returns
returns g c = all_rounds (by_span (asked c.args.question.now)) ROUNDS c.loop.counter c.loop.from (record { families = []; span = c.args.span } ∷ [])
    c.loop.looked.items c.loop-test.false c.loop.invariant
