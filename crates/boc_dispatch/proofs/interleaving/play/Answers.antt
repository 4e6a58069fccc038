use Rattle.std.proofs.Common.{◌≡◌, ℕ, ◌<◌, List, length, get_or, arith, ap, refl, sym, subst, ◌∙◌, add-one}
use Rattle.std.specs.Prelude.{slice_get, slice_set, Some, Err}
use Rattle.std.proofs.lemmas.Option.{slice_get-get_or, slice_get_read}
use Rattle.std.proofs.lemmas.Result.{err_from_is_err_and}
use Rattle.boc_dispatch.specs.declared.interleaving.DriveFault.{DriveFault}
use Rattle.boc_dispatch.specs.declared.worker.Worker.{Worker}
use Rattle.boc_dispatch.specs.Driving.{IsAt, HasPlayed}
use Rattle.boc_dispatch.proofs.Driven.{at_first, at_sound, at_fits, at_next, at_stranger, at_full, ends_by}
use Rattle.boc_dispatch.proofs.interleaving.play.Given.{Over}
use Rattle.boc_dispatch.proofs.interleaving.play.Goals.{After-index_mut}
use Rattle.boc_dispatch.proofs.interleaving.play.Goals as goal

pub loop-place-init : goal.loop-place-init
loop-place-init g c = at_first c.args.workers c.in_ok-crew.crew.items c.in_ok-crew.ensures c.args.program.now c.args.choices.now c.in_ok-core.core
    c.in_ok-core.ensures

pub returns-then-chosen-len : goal.returns-then-chosen-len
returns-then-chosen-len g c =
    let choices : List ℕ = c.args.choices.now in
    let choice : ℕ = get_or choices c.loop-place.place 0 in
    let chosen : slice_get choices c.loop-place.place ≡ Some choice = slice_get-get_or choices c.loop-place.place 0 c.loop-place-test.true in
    at_stranger c.args.program.now c.args.workers choices c.loop-place.place c.loop-place.core c.loop-place.crew.items c.loop-place.invariant choice chosen
    (omega (arith, c.if-chosen-len.true, c.len.ensures, c.loop-place.crew.ok.0))

pub take_turn-requires-clause-sound : goal.take_turn-requires-clause-sound
take_turn-requires-clause-sound g c =
    at_sound c.args.program.now c.args.workers c.args.choices.now c.loop-place.place c.loop-place.core c.loop-place.crew.items c.loop-place.invariant

-- the worker that is chosen
chosen_read : (g : Over) (c : After-index_mut g) → slice_get c.loop-place.crew.items (get_or c.args.choices.now c.loop-place.place 0)
    ≡ Some c.index_mut.result.now
chosen_read g c =
    let choice : ℕ = get_or c.args.choices.now c.loop-place.place 0 in
    let crew : List Worker = c.loop-place.crew.items in
    let low : choice < length crew = omega (arith, c.if-chosen-len.false, c.len.ensures, c.loop-place.crew.ok.0) in
    slice_get_read crew (length crew) choice c.index_mut.result.now refl low c.index_mut.ensures.value

pub take_turn-requires-clause-fits : goal.take_turn-requires-clause-fits
take_turn-requires-clause-fits g c =
    at_fits c.args.program.now c.args.workers c.args.choices.now c.loop-place.place c.loop-place.core c.loop-place.crew.items c.loop-place.invariant
    (get_or c.args.choices.now c.loop-place.place 0) c.index_mut.result.now
    (chosen_read g (goal.at.take_turn-requires-clause-fits g c).After-index_mut)

pub returns-in_err-take_turn : goal.returns-in_err-take_turn
returns-in_err-take_turn g c =
    let choices : List ℕ = c.args.choices.now in
    let chosen = slice_get-get_or choices c.loop-place.place 0 c.loop-place-test.true in
    let is = chosen_read g (goal.at.returns-in_err-take_turn g c).After-index_mut in
    let passed_on = err_from_is_err_and c.from_residual-in_err-take_turn.result c.from_residual-in_err-take_turn.ensures.1 in
    let fault : DriveFault = passed_on.0 in
    subst (HasPlayed c.args.program.now c.args.workers choices) (sym passed_on.1)
    (ends_by c.args.program.now c.args.workers choices fault
    (λ e. at_full c.args.program.now c.args.workers choices c.loop-place.place c.loop-place.core c.loop-place.crew.items c.loop-place.invariant
    (get_or choices c.loop-place.place 0) chosen c.index_mut.result.now is
    (c.in_err-take_turn.ensures.full (ap (λ (f : DriveFault). Err f) (sym passed_on.2 ∙ e))))
    (λ place e. c.in_err-take_turn.ensures.served place (ap (λ (f : DriveFault). Err f) (sym passed_on.2 ∙ e))))

pub loop-place-preserved : goal.loop-place-preserved
loop-place-preserved g c =
    let choices : List ℕ = c.args.choices.now in
    let chosen = slice_get-get_or choices c.loop-place.place 0 c.loop-place-test.true in
    let is = chosen_read g (goal.at.loop-place-preserved g c).After-index_mut in
    subst (λ n. IsAt c.args.program.now c.args.workers choices n c.take_turn.new.core
    (slice_set c.loop-place.crew.items (get_or choices c.loop-place.place 0) c.take_turn.new.worker)) (sym (add-one c.loop-place.place))
    (at_next c.args.program.now c.args.workers choices c.loop-place.place c.loop-place.core c.loop-place.crew.items c.loop-place.invariant
    (get_or choices c.loop-place.place 0) chosen c.take_turn.new.core c.index_mut.result.now c.take_turn.new.worker is c.in_ok-take_turn.ensures.turn
    c.in_ok-take_turn.ensures.program c.in_ok-take_turn.ensures.fits)
