use Rattle.std.proofs.Common.{◌≡◌, ◌∙◌, ℕ, List, ◌++◌, length, arith, ap, sym, subst}
use Rattle.std.specs.Prelude.{slice_set, Some, None, Err}
use Rattle.std.proofs.lemmas.Result.{err_from_is_err_and}
use Rattle.boc_program.specs.declared.program.Program.{Program}
use Rattle.boc_program.proofs.ChangedItems.{place_below}
use Rattle.boc_dispatch.specs.declared.interleaving.DriveFault.{DriveFault}
use Rattle.boc_dispatch.specs.declared.worker.Worker.{Worker}
use Rattle.boc_dispatch.specs.Underway.{Underway}
use Rattle.boc_dispatch.specs.Working.{row_in}
use Rattle.boc_dispatch.specs.Driving.{DrivesQuiet}
use Rattle.boc_dispatch.proofs.Quieting.{FindsServer, finds_in, server_read, fault_before, fault_after, no_workers, nobody_there, sound_there, goes_on_first}
use Rattle.boc_dispatch.proofs.Quieting.{goes_on_next, no_room, fewer_left}
use Rattle.boc_dispatch.proofs.interleaving.drive_quiet_over.Goals as goal

pub returns-in-Err : goal.returns-in-Err
returns-in-Err g c = fault_before c.args.program.now c.args.workers c.args.choices.now c.in-Err.fault c.in-Err.ensures

pub loop-mover-init : goal.loop-mover-init
loop-mover-init g c = goes_on_first c.args.program.now c.args.workers c.args.choices.now c.in-Ok.at.1 c.in-Ok.at.0.items c.in-Ok.ensures

pub returns-in_default-server_of : goal.returns-in_default-server_of
returns-in_default-server_of g c =
    let p : Program = c.args.program.now in
    let choices : List ℕ = c.args.choices.now in
    let more : List ℕ = c.loop-mover.invariant.more in
    let u : Underway = c.loop-mover.core in
    let crew : List Worker = c.loop-mover.crew.items in
    let none : FindsServer crew c.in-Some.mover None =
    subst (FindsServer crew c.in-Some.mover) c.in_default-server_of.is
    (subst (λ ws. FindsServer ws c.in-Some.mover c.server_of.result) c.deref.ensures.value c.server_of.ensures) in
    nobody_there p c.args.workers choices c.in-Ok.at.1 c.in-Ok.at.0.items c.in-Ok.ensures
    (no_workers p c.args.workers (choices ++ more) (length (choices ++ more)) u crew c.loop-mover.invariant.at c.in-Some.mover c.in-Some.ensures.0 none)

pub index_mut-requires : goal.index_mut-requires
index_mut-requires g c =
    let found = finds_in c.loop-mover.crew.items c.deref.result.now c.in-Some.mover (Some c.in-Some-server_of.server) c.deref.ensures.value
    c.in-Some-server_of.ensures in
    omega (arith, place_below c.loop-mover.crew.items c.in-Some-server_of.server found.0 found.1, c.loop-mover.crew.ok.0)

pub take_turn-requires-clause-fits : goal.take_turn-requires-clause-fits
take_turn-requires-clause-fits g c =
    let found = finds_in c.loop-mover.crew.items c.deref.result.now c.in-Some.mover (Some c.in-Some-server_of.server) c.deref.ensures.value
    c.in-Some-server_of.ensures in
    let is = server_read c.loop-mover.crew.items c.in-Some.mover c.in-Some-server_of.server c.index_mut.result.now found c.index_mut.ensures.value in
    c.loop-mover.invariant.at.fits.fits c.in-Some-server_of.server c.index_mut.result.now is

pub loop-mover-preserved : goal.loop-mover-preserved
loop-mover-preserved g c =
    let found = finds_in c.loop-mover.crew.items c.deref.result.now c.in-Some.mover (Some c.in-Some-server_of.server) c.deref.ensures.value
    c.in-Some-server_of.ensures in
    let is = server_read c.loop-mover.crew.items c.in-Some.mover c.in-Some-server_of.server c.index_mut.result.now found c.index_mut.ensures.value in
    goes_on_next c.args.program.now c.args.workers c.args.choices.now c.loop-mover.core c.loop-mover.crew.items c.loop-mover.invariant
    c.in-Some-server_of.server c.take_turn.new.core c.index_mut.result.now c.take_turn.new.worker c.in-Some.mover c.in-Some.ensures.0 found is
    c.in_ok-take_turn.ensures.turn c.in_ok-take_turn.ensures.program c.in_ok-take_turn.ensures.fits

pub loop-mover-smaller : goal.loop-mover-smaller
loop-mover-smaller g c =
    let found = finds_in c.loop-mover.crew.items c.deref.result.now c.in-Some.mover (Some c.in-Some-server_of.server) c.deref.ensures.value
    c.in-Some-server_of.ensures in
    let is = server_read c.loop-mover.crew.items c.in-Some.mover c.in-Some-server_of.server c.index_mut.result.now found c.index_mut.ensures.value in
    let next = goes_on_next c.args.program.now c.args.workers c.args.choices.now c.loop-mover.core c.loop-mover.crew.items c.loop-mover.invariant
    c.in-Some-server_of.server c.take_turn.new.core c.index_mut.result.now c.take_turn.new.worker c.in-Some.mover c.in-Some.ensures.0 found is
    c.in_ok-take_turn.ensures.turn c.in_ok-take_turn.ensures.program c.in_ok-take_turn.ensures.fits in
    let same : found.0 ≡ c.index_mut.result.now = (let e : Some found.0 ≡ Some c.index_mut.result.now = sym found.1 ∙ is in cc) in
    fewer_left c.loop-mover.core c.take_turn.new.core (row_in c.index_mut.result.now.hand) (row_in c.take_turn.new.worker.hand)
    (sound_there c.args.program.now c.args.workers c.args.choices.now c.loop-mover.core c.loop-mover.crew.items c.loop-mover.invariant)
    (sound_there c.args.program.now c.args.workers c.args.choices.now c.take_turn.new.core
    (slice_set c.loop-mover.crew.items c.in-Some-server_of.server c.take_turn.new.worker) next) c.in-Some.mover c.in-Some.ensures.0
    (ap (λ (w : Worker). row_in w.hand) (sym same) ∙ found.2) c.in_ok-take_turn.ensures.turn

pub returns-in_err-take_turn : goal.returns-in_err-take_turn
returns-in_err-take_turn g c =
    let found = finds_in c.loop-mover.crew.items c.deref.result.now c.in-Some.mover (Some c.in-Some-server_of.server) c.deref.ensures.value
    c.in-Some-server_of.ensures in
    let is = server_read c.loop-mover.crew.items c.in-Some.mover c.in-Some-server_of.server c.index_mut.result.now found c.index_mut.ensures.value in
    let passed_on = err_from_is_err_and c.from_residual.result c.from_residual.ensures.1 in
    let fault : DriveFault = passed_on.0 in
    subst (DrivesQuiet c.args.program.now c.args.workers c.args.choices.now) (sym passed_on.1)
    (fault_after c.args.program.now c.args.workers c.args.choices.now fault
    (λ e. no_room c.args.program.now c.args.workers c.args.choices.now c.loop-mover.core c.loop-mover.crew.items c.loop-mover.invariant
    c.in-Some-server_of.server c.index_mut.result.now c.in-Some.mover found is
    (c.in_err-take_turn.ensures.full (ap (λ (f : DriveFault). Err f) (sym passed_on.2 ∙ e))))
    (λ place e. c.in_err-take_turn.ensures.served place (ap (λ (f : DriveFault). Err f) (sym passed_on.2 ∙ e))))
