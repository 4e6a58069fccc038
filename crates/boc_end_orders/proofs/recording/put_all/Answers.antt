use Rattle.std.proofs.Common.{◌≡◌, ◌++◌, ◌∷◌, [], ℕ, List, take, sym, ◌∙◌, ap, subst}
use Rattle.boc_runs.specs.declared.event.Event.{Event}
use Rattle.boc_runs.specs.Legal.{entries, IsAllowed}
use Rattle.boc_end_orders.proofs.Records.{allowed_at, take_one_more}
use Rattle.boc_end_orders.proofs.recording.put_all.Goals as goal

pub put-requires : goal.put-requires
put-requires c =
    let inv = c.loop-place.invariant in
    let events : List Event = c.args.events.now in
    let event : Event = c.get.result in
    let place = c.loop-place.place in
    let allowed = allowed_at c.args.cowns [] events place event c.requires.legal c.get.ensures in
    subst (λ (es : List Event). IsAllowed c.loop-place.rules.cowns (entries es) event) (sym inv.events)
    (subst (λ (n : ℕ). IsAllowed n (entries (take place events)) event) (sym inv.cowns) allowed)

pub loop-place-preserved : goal.loop-place-preserved
loop-place-preserved c =
    let inv = c.loop-place.invariant in
    let event : Event = c.get.result in
    record {
      cowns = c.in_ok-put.ensures.cowns ∙ inv.cowns;
      events = c.in_ok-put.ensures.events
          ∙ ap (λ (es : List Event). es ++ event ∷ []) inv.events
          ∙ sym (take_one_more c.args.events.now c.loop-place.place event c.get.ensures);
    }
