use Rattle.std.proofs.Common.{◌≡◌, ap, ◌∙◌, arith, length, length-append, map, Err}
use Rattle.std.proofs.lemmas.Result.{err_from_is_err_and}
use Rattle.boc_program.specs.Meaning.{whole}
use Rattle.boc_runs.specs.Serial.{behaviour_of, inputs_of}
use Rattle.boc_registers.specs.Steps.{Left, left_with}
use Rattle.boc_eval.specs.declared.serial.SerialFault.TheVariants.{Behaviours}
use Rattle.boc_eval.specs.Behaviours.{behaviour_at, behaviours_of}
use Rattle.boc_eval.specs.Frames.{unmarked}
use Rattle.boc_eval.proofs.Coded.{ready}
use Rattle.boc_eval.proofs.Turning.{rows_are}
use Rattle.boc_eval.proofs.serial.run_body.Goals as goal

pub set_up-requires-clause-few : goal.set_up-requires-clause-few
set_up-requires-clause-few c = omega (arith, ap length c.args-2.ensures, c.requires.args, c.requires.held, c.args.body.now.parameters_are_slots)

pub set_up-requires-clause-room : goal.set_up-requires-clause-room
set_up-requires-clause-room c = omega (arith, ap length c.deref.ensures.value, c.requires.code.room, c.requires.code.few, c.requires.long)

pub returns-in_err-end-clause-fault : goal.returns-in_err-end-clause-fault
returns-in_err-end-clause-fault c e =
    let passed_on = err_from_is_err_and c.from_residual.result c.from_residual.ensures.1 in
    let is : c.in_err-end.field-0.0 ≡ Behaviours = cc (e, passed_on.1, passed_on.2) in
    let x : Left = left_with unmarked (whole c.args.body.now (behaviour_at c.args.rows.now c.args.turn).args (inputs_of c.args.held.now c.args.values.now)) in
    c.in_err-end.ensures.fault (ap Err is) x (ready c.args.body.now c.args.code.now
    (behaviour_at c.args.rows.now c.args.turn).args c.args.held.now c.args.values.now c.set_up.new.regs c.args-2.result.now
    c.deref.result.now c.deref-2.result.now c.requires.code c.args-2.ensures c.deref.ensures.value c.deref-2.ensures.value c.set_up.ensures.slots
    c.set_up.ensures.pool (c.set_up.ensures.long ∙ c.requires.long) c.requires.held c.requires.known)

pub returns-clause-slots : goal.returns-clause-slots
returns-clause-slots c =
    let x : Left = left_with unmarked (whole c.args.body.now (behaviour_at c.args.rows.now c.args.turn).args (inputs_of c.args.held.now c.args.values.now)) in
    (c.in_ok-end.ensures.spawned x (ready c.args.body.now c.args.code.now
    (behaviour_at c.args.rows.now c.args.turn).args c.args.held.now c.args.values.now c.set_up.new.regs c.args-2.result.now
    c.deref.result.now c.deref-2.result.now c.requires.code c.args-2.ensures c.deref.ensures.value c.deref-2.ensures.value c.set_up.ensures.slots
    c.set_up.ensures.pool (c.set_up.ensures.long ∙ c.requires.long) c.requires.held c.requires.known)).slots_are

pub returns-clause-ticks : goal.returns-clause-ticks
returns-clause-ticks c =
    let x : Left = left_with unmarked (whole c.args.body.now (behaviour_at c.args.rows.now c.args.turn).args (inputs_of c.args.held.now c.args.values.now)) in
    (c.in_ok-end.ensures.spawned x (ready c.args.body.now c.args.code.now
    (behaviour_at c.args.rows.now c.args.turn).args c.args.held.now c.args.values.now c.set_up.new.regs c.args-2.result.now
    c.deref.result.now c.deref-2.result.now c.requires.code c.args-2.ensures c.deref.ensures.value c.deref-2.ensures.value c.set_up.ensures.slots
    c.set_up.ensures.pool (c.set_up.ensures.long ∙ c.requires.long) c.requires.held c.requires.known)).ticks_are

pub returns-clause-status : goal.returns-clause-status
returns-clause-status c =
    let x : Left = left_with unmarked (whole c.args.body.now (behaviour_at c.args.rows.now c.args.turn).args (inputs_of c.args.held.now c.args.values.now)) in
    (c.in_ok-end.ensures.spawned x (ready c.args.body.now c.args.code.now
    (behaviour_at c.args.rows.now c.args.turn).args c.args.held.now c.args.values.now c.set_up.new.regs c.args-2.result.now
    c.deref.result.now c.deref-2.result.now c.requires.code c.args-2.ensures c.deref.ensures.value c.deref-2.ensures.value c.set_up.ensures.slots
    c.set_up.ensures.pool (c.set_up.ensures.long ∙ c.requires.long) c.requires.held c.requires.known)).status_is

pub returns-clause-behaviours : goal.returns-clause-behaviours
returns-clause-behaviours c =
    let x : Left = left_with unmarked (whole c.args.body.now (behaviour_at c.args.rows.now c.args.turn).args (inputs_of c.args.held.now c.args.values.now)) in
    (c.in_ok-end.ensures.spawned x (ready c.args.body.now c.args.code.now
    (behaviour_at c.args.rows.now c.args.turn).args c.args.held.now c.args.values.now c.set_up.new.regs c.args-2.result.now
    c.deref.result.now c.deref-2.result.now c.requires.code c.args-2.ensures c.deref.ensures.value c.deref-2.ensures.value c.set_up.ensures.slots
    c.set_up.ensures.pool (c.set_up.ensures.long ∙ c.requires.long) c.requires.held c.requires.known)).behaviours

pub returns-clause-more : goal.returns-clause-more
returns-clause-more c =
    let x : Left = left_with unmarked (whole c.args.body.now (behaviour_at c.args.rows.now c.args.turn).args (inputs_of c.args.held.now c.args.values.now)) in
    let added =
    (c.in_ok-end.ensures.spawned x (ready c.args.body.now c.args.code.now
    (behaviour_at c.args.rows.now c.args.turn).args c.args.held.now c.args.values.now c.set_up.new.regs c.args-2.result.now
    c.deref.result.now c.deref-2.result.now c.requires.code c.args-2.ensures c.deref.ensures.value c.deref-2.ensures.value c.set_up.ensures.slots
    c.set_up.ensures.pool (c.set_up.ensures.long ∙ c.requires.long) c.requires.held c.requires.known)).behaviours in
    omega (
      arith,
      ap length added,
      rows_are c.args.rows.now,
      rows_are c.spawn_all.new.rows,
      length-append (behaviours_of c.args.rows.now)
          (map behaviour_of x.wishes),
    )
