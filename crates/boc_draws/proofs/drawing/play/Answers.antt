use Rattle.std.proofs.Common.{◌≡◌, ◌∙◌, List, length, arith, ap, sym, subst, true, false}
use Rattle.std.specs.Prelude.{Err, slice_get, Some}
use Rattle.boc_dispatch.specs.declared.interleaving.DriveFault.{DriveFault}
use Rattle.boc_dispatch.specs.declared.worker.Worker.{Worker}
use Rattle.boc_runs.specs.machine.Steps.{members}
use Rattle.boc_dispatch.specs.Driving.{IsCrew}
use Rattle.boc_eval.specs.Instances.{AreRight}
use Rattle.boc_draws.specs.Picks.{picked}
use Rattle.boc_draws.proofs.Playing.{IsChosen, plays_first, movers_in, is_chosen, without_fault, sound_there, fits_there, meets_there, low, read_there}
use Rattle.boc_draws.proofs.Playing.{plays_next, fewer_left, runs_out, plays_over, ends_by}
use Rattle.boc_draws.proofs.drawing.play.Given.{Over}
use Rattle.boc_draws.proofs.drawing.play.Goals.{After-pick-worker, After-index_mut-mover}
use Rattle.boc_draws.proofs.drawing.play.Goals as goal

pub turns-init : goal.turns-init
turns-init g c = (
  plays_first c.args.program.now c.args.workers c.args.way c.args.seed c.in_ok-core.core c.in_ok-crew.crew.items c.new-picker.result
      c.in_ok-crew.ensures c.in_ok-core.ensures c.new-picker.ensures,
  subst (AreRight (members c.in_ok-core.core.program c.in_ok-core.core.state)) (sym c.requires.none_told) ∣ tt ∣₁,
)

pub movers_of-movers-requires-clause-few : goal.movers_of-movers-requires-clause-few
movers_of-movers-requires-clause-few g c = omega (arith, c.requires.workers.1, c.turns.invariant.0.at.count, ap (λ (ws : List Worker). length ws) c.deref.ensures.value)

pub movers_of-movers-requires-clause-sound : goal.movers_of-movers-requires-clause-sound
movers_of-movers-requires-clause-sound g c =
    sound_there c.args.program.now c.args.workers c.args.way c.args.seed c.turns.core c.turns.crew.items c.turns.picker c.turns.invariant.0

pub movers_of-movers-requires-clause-fits : goal.movers_of-movers-requires-clause-fits
movers_of-movers-requires-clause-fits g c = subst (IsCrew c.turns.core) (sym c.deref.ensures.value) c.turns.invariant.0.at.fits

pub pick-worker-requires : goal.pick-worker-requires
pick-worker-requires g c =
    meets_there c.args.program.now c.args.workers c.args.way c.args.seed c.turns.core c.turns.crew.items c.turns.picker c.turns.invariant.0
    c.deref-in-turns.result.now
    (movers_in c.turns.core c.turns.crew.items c.deref.result.now c.movers_of-movers.result.items c.deref-in-turns.result.now c.deref.ensures.value
    c.deref-in-turns.ensures.0 c.movers_of-movers.ensures) c.requires.workers.0
    (λ quiet. let f : false ≡ true = sym c.turns-test.true ∙ c.is_quiet.ensures.1 quiet in cc)

-- the one that is picked
own : (g : Over) (c : After-pick-worker g) → IsChosen c.turns.core c.turns.crew.items c.turns.picker c.pick-worker.result c.pick-worker.new.self
own g c =
    is_chosen c.turns.core c.turns.crew.items c.turns.picker c.pick-worker.result c.pick-worker.new.self c.deref-in-turns.result.now
    (movers_in c.turns.core c.turns.crew.items c.deref.result.now c.movers_of-movers.result.items c.deref-in-turns.result.now c.deref.ensures.value
    c.deref-in-turns.ensures.0 c.movers_of-movers.ensures)
    (ap (λ n. picked c.turns.picker n c.deref-in-turns.result.now) (sym c.steps-made.ensures.value) ∙ c.pick-worker.ensures)

pub index_mut-mover-requires : goal.index_mut-mover-requires
index_mut-mover-requires g c =
    let below = low c.args.program.now c.args.workers c.args.way c.args.seed c.turns.core c.turns.crew.items c.turns.picker c.turns.invariant.0
    c.pick-worker.result c.pick-worker.new.self (own g (goal.at.index_mut-mover-requires g c).After-pick-worker) in
    omega (arith, below, c.turns.crew.ok.0)

-- it is there
there : (g : Over) (c : After-index_mut-mover g) → IsChosen c.turns.core c.turns.crew.items c.turns.picker c.pick-worker.result c.pick-worker.new.self
    → slice_get c.turns.crew.items c.pick-worker.result ≡ Some c.index_mut-mover.result.now
there g c chosen =
    read_there c.args.program.now c.args.workers c.args.way c.args.seed c.turns.core c.turns.crew.items c.turns.picker c.turns.invariant.0
    c.pick-worker.result c.pick-worker.new.self chosen c.index_mut-mover.result.now c.index_mut-mover.ensures.value

pub take_told_turn-requires-clause-sound : goal.take_told_turn-requires-clause-sound
take_told_turn-requires-clause-sound g c =
    sound_there c.args.program.now c.args.workers c.args.way c.args.seed c.turns.core c.turns.crew.items c.turns.picker c.turns.invariant.0

pub take_told_turn-requires-clause-fits : goal.take_told_turn-requires-clause-fits
take_told_turn-requires-clause-fits g c =
    fits_there c.args.program.now c.args.workers c.args.way c.args.seed c.turns.core c.turns.crew.items c.turns.picker c.turns.invariant.0
    c.pick-worker.result c.index_mut-mover.result.now
    (there g (goal.at.take_told_turn-requires-clause-fits g c).After-index_mut-mover (own g (goal.at.take_told_turn-requires-clause-fits g c).After-pick-worker))

pub returns-in-Err-clause-plays : goal.returns-in-Err-clause-plays
returns-in-Err-clause-plays g c =
    let at = goal.at.returns-in-Err-clause-plays g c in
    ends_by c.args.program.now c.args.workers c.args.way c.args.seed c.in-Err.fault c.fault_of.result c.fault_of.ensures
    (λ e. runs_out c.args.program.now c.args.workers c.args.way c.args.seed c.turns.core c.turns.crew.items c.turns.picker c.turns.invariant.0
    c.pick-worker.result c.pick-worker.new.self (own g at.After-pick-worker) c.index_mut-mover.result.now (there g at.After-index_mut-mover (own g at.After-pick-worker))
    (c.in-Err.ensures.full (ap (λ (f : DriveFault). Err f) e)))

pub turns-preserved : goal.turns-preserved
turns-preserved g c =
    let at = goal.at.turns-preserved g c in (
      plays_next c.args.program.now c.args.workers c.args.way c.args.seed c.turns.core c.turns.crew.items c.turns.picker c.turns.invariant.0
          c.pick-worker.result c.pick-worker.new.self (own g at.After-pick-worker) c.index_mut-mover.result.now (there g at.After-index_mut-mover (own g at.After-pick-worker))
          c.take_told_turn.new.core c.take_told_turn.new.worker (without_fault c.take_told_turn.result c.in_default.not-Err c.take_told_turn.ensures.turn)
          (without_fault c.take_told_turn.result c.in_default.not-Err c.take_told_turn.ensures.program)
          (without_fault c.take_told_turn.result c.in_default.not-Err c.take_told_turn.ensures.fits),
      without_fault c.take_told_turn.result c.in_default.not-Err c.take_told_turn.ensures.right c.turns.invariant.1,
    )

pub turns-smaller : goal.turns-smaller
turns-smaller g c =
    let at = goal.at.turns-smaller g c in
    fewer_left c.args.program.now c.args.workers c.args.way c.args.seed c.turns.core c.turns.crew.items c.turns.picker c.turns.invariant.0
    c.pick-worker.result c.pick-worker.new.self (own g at.After-pick-worker) c.index_mut-mover.result.now (there g at.After-index_mut-mover (own g at.After-pick-worker))
    c.take_told_turn.new.core c.take_told_turn.new.worker (without_fault c.take_told_turn.result c.in_default.not-Err c.take_told_turn.ensures.turn)
    (without_fault c.take_told_turn.result c.in_default.not-Err c.take_told_turn.ensures.program)
    (without_fault c.take_told_turn.result c.in_default.not-Err c.take_told_turn.ensures.fits)

pub returns-clause-plays : goal.returns-clause-plays
returns-clause-plays g c =
    plays_over c.args.program.now c.args.workers c.args.way c.args.seed c.turns.core c.turns.crew.items c.turns.picker c.turns.invariant.0
    (c.is_quiet.ensures.0 c.turns-test.false)

pub returns-clause-told : goal.returns-clause-told
returns-clause-told g c = c.turns.invariant.1
