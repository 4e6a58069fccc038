use Rattle.std.proofs.Common.{◌≡◌, List, refl, subst}
use Rattle.std.specs.Prelude.{slice_get, Some}
use Rattle.boc_runs.specs.declared.event.Event.{Event}
use Rattle.boc_follow.proofs.Refusals.{Followed, followed_more, no_start, not_taken, refused_tells}
use Rattle.boc_follow.proofs.recorded.follow_all.Goals as goal

pub kind_of-kind-requires : goal.kind_of-kind-requires
kind_of-kind-requires g c =
    let value = c.events-events.ensures.value in
    no_start c.args.follower.now.program c.args.recorded.now c.loop-place.follower c.loop-place.place c.get-event.result c.events-events.ensures.run
    (subst (λ (es : List Event). Followed c.args.follower.now.program es c.loop-place.follower c.loop-place.place) value c.loop-place.invariant)
    (subst (λ (es : List Event). slice_get es c.loop-place.place ≡ Some c.get-event.result) value c.get-event.ensures)
    (not_taken c.loop-place.follower c.take.new.self c.get-event.result c.in-Err-NotAllowed.field-0 c.in-Err-NotAllowed.field-0-is
    c.in-Err-NotAllowed.ensures)

pub returns-in-Err-NotAllowed : goal.returns-in-Err-NotAllowed
returns-in-Err-NotAllowed g c =
    let value = c.events-events.ensures.value in
    refused_tells c.args.follower.now.program c.args.recorded.now c.loop-place.follower c.loop-place.place _ c.get-event.result c.kind_of-kind.result
    c.requires.cowns
    (subst (λ (es : List Event). Followed c.args.follower.now.program es c.loop-place.follower c.loop-place.place) value c.loop-place.invariant)
    (subst (λ (es : List Event). slice_get es c.loop-place.place ≡ Some c.get-event.result) value c.get-event.ensures)
    (not_taken c.loop-place.follower c.take.new.self c.get-event.result c.in-Err-NotAllowed.field-0 c.in-Err-NotAllowed.field-0-is
    c.in-Err-NotAllowed.ensures) c.kind_of-kind.ensures refl

pub loop-place-preserved : goal.loop-place-preserved
loop-place-preserved g c =
    followed_more c.args.follower.now.program c.events-events.result c.loop-place.follower c.take.new.self c.loop-place.place c.get-event.result
    c.loop-place.invariant c.get-event.ensures c.in-Ok.ensures.0 c.in-Ok.ensures.1
