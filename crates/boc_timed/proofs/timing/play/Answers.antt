use Rattle.std.proofs.Common.{◌≡◌, ◌∙◌, ℕ, ◌<◌, arith, ap, sym, subst, true, false, Bool}
use Rattle.std.specs.Prelude.{slice_get, slice_index_or, Err, Option, Some}
use Rattle.std.specs.Option.{is_none, is_some}
use Rattle.boc_runs.specs.machine.Steps.{members}
use Rattle.boc_eval.specs.Instances.{AreRight}
use Rattle.boc_program.specs.declared.limits.TheConstants.{MOST_RUNNERS}
use Rattle.boc_clock.specs.declared.clocks.TheConstants.{MOST_STEPS}
use Rattle.boc_clock.specs.Clocks.{moved_on}
use Rattle.boc_clock.proofs.Bounds.{time_low}
use Rattle.boc_draws.proofs.Playing.{movers_in}
use Rattle.boc_timed.specs.declared.fault.TimedFault.{TimedFault}
use Rattle.boc_timed.specs.Timetables.{NotesStart}
use Rattle.boc_timed.proofs.Noting.{is_idle}
use Rattle.boc_timed.proofs.Playing.{IsChosen, chosen_of, ends_so, few_there, fewer_left, fits_there, low, mover_below, movers_low, plays_first, plays_next}
use Rattle.boc_timed.proofs.Playing.{plays_over, read_there, runs_out, some_there, sound_there}
use Rattle.boc_timed.proofs.timing.play.Given.{Over}
use Rattle.boc_timed.proofs.timing.play.Goals.{After-first, After-index_mut-mover}
use Rattle.boc_timed.proofs.timing.play.Goals as goal

pub turns-init : goal.turns-init
turns-init g c = (
  plays_first c.args.program.now c.args.workers c.in_ok-core.core c.in_ok-crew.crew.items c.new-clocks.result c.args.timetable.now c.in_ok-crew.ensures
      c.in_ok-core.ensures c.new-clocks.ensures.first c.new-clocks.ensures.within c.requires.p_is c.requires.none_noted,
  subst (AreRight (members c.in_ok-core.core.program c.in_ok-core.core.state)) (sym c.requires.none_told) ∣ tt ∣₁,
  c.requires.even,
)

pub movers_of-movers-requires-clause-sound : goal.movers_of-movers-requires-clause-sound
movers_of-movers-requires-clause-sound g c =
    sound_there c.args.program.now c.args.workers c.turns.core c.turns.crew.items c.turns.clocks c.turns.timetable c.turns.invariant.0

pub first-requires-clause-some : goal.first-requires-clause-some
first-requires-clause-some g c =
    some_there c.args.program.now c.args.workers c.turns.core c.turns.crew.items c.turns.clocks c.turns.timetable c.turns.invariant.0
    c.deref-in-turns-2.result.now
    (movers_in c.turns.core c.turns.crew.items c.deref.result.now c.movers_of-movers.result.items c.deref-in-turns-2.result.now c.deref.ensures.value
    c.deref-in-turns-2.ensures.0 c.movers_of-movers.ensures) c.requires.workers.0
    (λ quiet. let f : false ≡ true = sym c.turns-test.true ∙ c.is_quiet.ensures.1 quiet in cc)

pub first-requires-clause-workers : goal.first-requires-clause-workers
first-requires-clause-workers g c =
    movers_low c.args.program.now c.args.workers c.turns.core c.turns.crew.items c.turns.clocks c.turns.timetable c.turns.invariant.0
    c.deref-in-turns-2.result.now
    (movers_in c.turns.core c.turns.crew.items c.deref.result.now c.movers_of-movers.result.items c.deref-in-turns-2.result.now c.deref.ensures.value
    c.deref-in-turns-2.ensures.0 c.movers_of-movers.ensures) c.requires.workers.1

pub first-requires-clause-few : goal.first-requires-clause-few
first-requires-clause-few g c =
    let few = few_there c.args.program.now c.args.workers c.turns.core c.turns.crew.items c.turns.clocks c.turns.timetable c.turns.invariant.0 in
    omega (arith, few, c.steps-made.ensures.value)

-- the one that is due first
own : (g : Over) (c : After-first g)
    → IsChosen c.turns.core c.turns.crew.items c.turns.clocks (slice_index_or c.deref-in-turns.result.now c.first.result 0)
own g c =
    chosen_of c.turns.core c.turns.crew.items c.deref.result.now c.turns.clocks c.movers_of-movers.result.items c.deref-in-turns.result.now
    c.deref-in-turns-2.result.now c.first.result c.deref.ensures.value c.deref-in-turns.ensures.0 c.deref-in-turns-2.ensures.0 c.movers_of-movers.ensures
    c.first.ensures

-- it is one of the workers
own_below : (g : Over) (c : After-first g) → slice_index_or c.deref-in-turns.result.now c.first.result 0 < MOST_RUNNERS
own_below g c =
    let below = mover_below c.args.program.now c.args.workers c.turns.core c.turns.crew.items c.turns.clocks c.turns.timetable c.turns.invariant.0
    (slice_index_or c.deref-in-turns.result.now c.first.result 0) (own g c).can in
    omega (arith, below, c.requires.workers.1)

pub index_mut-mover-requires : goal.index_mut-mover-requires
index_mut-mover-requires g c =
    let below = low c.args.program.now c.args.workers c.turns.core c.turns.crew.items c.turns.clocks c.turns.timetable c.turns.invariant.0
    (slice_index_or c.deref-in-turns.result.now c.first.result 0) (own g (goal.at.index_mut-mover-requires g c).After-first) in
    omega (arith, below, c.turns.crew.ok.0)

-- it is there
there : (g : Over) (c : After-index_mut-mover g)
    → IsChosen c.turns.core c.turns.crew.items c.turns.clocks (slice_index_or c.deref-in-turns.result.now c.first.result 0)
    → slice_get c.turns.crew.items (slice_index_or c.deref-in-turns.result.now c.first.result 0) ≡ Some c.index_mut-mover.result.now
there g c chosen =
    read_there c.args.program.now c.args.workers c.turns.core c.turns.crew.items c.turns.clocks c.turns.timetable c.turns.invariant.0
    (slice_index_or c.deref-in-turns.result.now c.first.result 0) chosen c.index_mut-mover.result.now c.index_mut-mover.ensures.value

pub take_timed_turn-requires-clause-sound : goal.take_timed_turn-requires-clause-sound
take_timed_turn-requires-clause-sound g c =
    sound_there c.args.program.now c.args.workers c.turns.core c.turns.crew.items c.turns.clocks c.turns.timetable c.turns.invariant.0

pub take_timed_turn-requires-clause-fits : goal.take_timed_turn-requires-clause-fits
take_timed_turn-requires-clause-fits g c =
    let at = goal.at.take_timed_turn-requires-clause-fits g c in
    fits_there c.args.program.now c.args.workers c.turns.core c.turns.crew.items c.turns.clocks c.turns.timetable c.turns.invariant.0
    (slice_index_or c.deref-in-turns.result.now c.first.result 0) c.index_mut-mover.result.now (there g at.After-index_mut-mover (own g at.After-first))

pub returns-in-Err-clause-plays : goal.returns-in-Err-clause-plays
returns-in-Err-clause-plays g c =
    let at = goal.at.returns-in-Err-clause-plays g c in
    ends_so c.args.program.now c.args.workers c.turns.timetable c.in-Err.fault
    (λ e. runs_out c.args.program.now c.args.workers c.turns.core c.turns.crew.items c.turns.clocks c.turns.timetable c.turns.invariant.0
    (slice_index_or c.deref-in-turns.result.now c.first.result 0) (own g at.After-first) c.index_mut-mover.result.now
    (there g at.After-index_mut-mover (own g at.After-first)) (c.in-Err.ensures.full (ap (λ (f : TimedFault). Err f) e)))

pub time_of-time-requires : goal.time_of-time-requires
time_of-time-requires g c = own_below g (goal.at.time_of-time-requires g c).After-first

pub note_start-requires-clause-low : goal.note_start-requires-clause-low
note_start-requires-clause-low g c =
    let few = few_there c.args.program.now c.args.workers c.turns.core c.turns.crew.items c.turns.clocks c.turns.timetable c.turns.invariant.0 in
    let early : c.turns.core.state.steps < MOST_STEPS = omega (arith, few, c.steps-made.ensures.value) in
    omega (
      arith,
      c.time_of-time.ensures,
      time_low c.turns.clocks c.turns.core.state.steps (slice_index_or c.deref-in-turns.result.now c.first.result 0) c.turns.invariant.0.within
          (own_below g (goal.at.note_start-requires-clause-low g c).After-first) early,
    )

pub move_on-requires-clause-worker : goal.move_on-requires-clause-worker
move_on-requires-clause-worker g c = own_below g (goal.at.move_on-requires-clause-worker g c).After-first

pub move_on-requires-clause-few : goal.move_on-requires-clause-few
move_on-requires-clause-few g c =
    let few = few_there c.args.program.now c.args.workers c.turns.core c.turns.crew.items c.turns.clocks c.turns.timetable c.turns.invariant.0 in
    omega (arith, few, c.steps-made.ensures.value)

pub turns-smaller : goal.turns-smaller
turns-smaller g c =
    let at = goal.at.turns-smaller g c in
    fewer_left c.args.program.now c.args.workers c.turns.core c.turns.crew.items c.turns.clocks c.turns.timetable c.turns.invariant.0
    (slice_index_or c.deref-in-turns.result.now c.first.result 0) (own g at.After-first) c.index_mut-mover.result.now
    (there g at.After-index_mut-mover (own g at.After-first)) c.take_timed_turn.new.core c.take_timed_turn.new.worker c.in-Ok.ensures.turn
    c.in-Ok.ensures.program c.in-Ok.ensures.fits

pub turns-preserved : goal.turns-preserved
turns-preserved g c =
    let at = goal.at.turns-preserved g c in
    let moved =
    c.move_on.ensures.clocks
    ∙ ap (λ (b : Bool). moved_on c.turns.clocks (slice_index_or c.deref-in-turns.result.now c.first.result 0) b c.in-Ok.call)
    (c.is_some.ensures ∙ ap is_some c.row-row.ensures) in
    let notes =
    subst
    (λ (o : Option ℕ). NotesStart c.turns.timetable c.is_none-was_idle.result o c.time_of-time.result
    (slice_index_or c.deref-in-turns.result.now c.first.result 0) c.note_start.new.timetable)
    c.row-row.ensures c.in_ok-note_start.ensures.noted in (
      plays_next c.args.program.now c.args.workers c.turns.core c.turns.crew.items c.turns.clocks c.turns.timetable c.turns.invariant.0
          (slice_index_or c.deref-in-turns.result.now c.first.result 0) (own g at.After-first) c.index_mut-mover.result.now
          (there g at.After-index_mut-mover (own g at.After-first)) c.take_timed_turn.new.core c.take_timed_turn.new.worker c.in-Ok.ensures.turn
          c.in-Ok.ensures.program c.in-Ok.ensures.fits c.in-Ok.call c.in-Ok.ensures.call c.move_on.new.self moved c.steps-made.result
          c.steps-made.ensures.value c.move_on.ensures.within c.note_start.new.timetable c.time_of-time.result c.is_none-was_idle.result
          c.time_of-time.ensures (is_idle c.row.result c.is_none-was_idle.result c.is_none-was_idle.ensures ∙ ap is_none c.row.ensures) notes,
      c.in-Ok.ensures.right c.turns.invariant.1,
      c.in_ok-note_start.ensures.even,
    )

pub returns-clause-plays : goal.returns-clause-plays
returns-clause-plays g c =
    plays_over c.args.program.now c.args.workers c.turns.core c.turns.crew.items c.turns.clocks c.turns.timetable c.turns.invariant.0
    (c.is_quiet.ensures.0 c.turns-test.false) c.turns.invariant.2
