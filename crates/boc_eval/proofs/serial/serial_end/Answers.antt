use Rattle.std.proofs.Common.{◌≡◌, ◌+◌, ◌<◌, ◌≤◌, ◌++◌, Err, List, ℤ, length, drop, rules, arith, ap, sym, ◌∙◌, subst}
use Rattle.std.proofs.lemmas.Result.{err_from_is_err_and}
use Rattle.boc_program.specs.declared.program.Program.{Program}
use Rattle.boc_runs.specs.Serial.{Behaviour, inputs_of}
use Rattle.boc_program.specs.Meaning.{meaning}
use Rattle.boc_runs.proofs.Behaviours.{length-after_outputs}
use Rattle.boc_eval.specs.Faulted.{rows_of, turn_fault}
use Rattle.boc_eval.specs.Queue.{Turned, turn_wishes}
use Rattle.boc_eval.proofs.Queued.{reached_over, rewritten}
use Rattle.boc_eval.specs.declared.rows.Rows.{Rows}
use Rattle.boc_eval.specs.declared.serial.SerialFault.TheVariants.{Behaviours}
use Rattle.boc_eval.specs.Behaviours.{behaviours_of, behaviour_at}
use Rattle.boc_eval.proofs.Turning.{rows_are, in_front, first_row, next_row, last_row}
use Rattle.boc_eval.proofs.serial.serial_end.Goals as goal

pub loop-turn-init : goal.loop-turn-init
loop-turn-init g c = record {
  long = omega (arith, c.in_ok-regs.ensures.len, c.in_ok-regs.regs.ok.0);
  rows = c.in_ok-push.ensures.sound;
  reached = omega arith;
  has_reached = first_row c.args.program.now c.new-rows.result c.push.new.self c.in_ok-values.values.items (rows_of c.new-faulted.result.items)
      c.new-rows.ensures.empty (search rules) (search rules) (search rules);
}

pub loop-turn-preserved : goal.loop-turn-preserved
loop-turn-preserved g c =
    let p : Program = c.args.program.now in
    let t = c.in_ok-take_turn.ensures in
    let i = c.loop-turn.invariant in
    let old : Rows = c.loop-turn.rows in
    let new : Rows = c.take_turn.new.rows in
    let b : Behaviour = behaviour_at old c.loop-turn.turn in
    let before : List ℤ = c.loop-turn.values.items in
    let after : List ℤ = c.take_turn.new.values in
    let lent : c.deref_mut-in-loop-turn.result.now ≡ before = search rules in
    let there : c.loop-turn.turn < length old.rows.items = search rules in
    let there_is : c.in_ok-compiled.compiled ≡ p = c.in_ok-compiled.ensures in
    let turned = subst (λ (v : List ℤ). Turned p b (drop (c.loop-turn.turn + 1) (behaviours_of old)) v
    (drop (c.loop-turn.turn + 1) (behaviours_of new)) after)
    lent (subst (λ (q : Program). Turned q b (drop (c.loop-turn.turn + 1) (behaviours_of old)) c.deref_mut-in-loop-turn.result.now
    (drop (c.loop-turn.turn + 1) (behaviours_of new)) after) there_is t.turn) in
    let noted : rows_of c.take_turn.new.faulted.items ≡ rows_of c.loop-turn.faulted.items ++ turn_fault p c.loop-turn.turn b before =
    t.faulted
    ∙ ap (λ (q : Program). rows_of c.loop-turn.faulted.items ++ turn_fault q c.loop-turn.turn b c.deref_mut-in-loop-turn.result.now) there_is
    ∙ ap (λ (v : List ℤ). rows_of c.loop-turn.faulted.items ++ turn_fault p c.loop-turn.turn b v) lent in
    let len : length after ≡ length before = ap length turned.wrote
    ∙ length-after_outputs before b.cowns (meaning turned.body b.args (inputs_of b.cowns before)).outputs in
    let same = rewritten after before c.loop-turn.values.len len c.loop-turn.values.ok.0 in
    record {
      long = ap length (rewritten c.take_turn.new.regs c.loop-turn.regs.items c.loop-turn.regs.len (t.long ∙ sym i.long) c.loop-turn.regs.ok.0) ∙ t.long;
      rows = t.rows;
      reached = omega (arith, t.more);
      has_reached = rw same (next_row p old new c.loop-turn.turn before after (rows_of c.loop-turn.faulted.items)
          (rows_of c.take_turn.new.faulted.items) there
          i.has_reached turned t.more t.rows noted);
    }

pub returns-in_err-take_turn-clause-behaviours : goal.returns-in_err-take_turn-clause-behaviours
returns-in_err-take_turn-clause-behaviours g c e =
    let p : Program = c.args.program.now in
    let i = c.loop-turn.invariant in
    let old : Rows = c.loop-turn.rows in
    let b : Behaviour = behaviour_at old c.loop-turn.turn in
    let before : List ℤ = c.loop-turn.values.items in
    let lent : c.deref_mut-in-loop-turn.result.now ≡ before = search rules in
    let there : c.loop-turn.turn < length old.rows.items = search rules in
    let passed_on = err_from_is_err_and c.from_residual-in_err-take_turn.result c.from_residual-in_err-take_turn.ensures.1 in
    let is : c.in_err-take_turn.field-0.0 ≡ Behaviours = cc (e, passed_on.1, passed_on.2) in
    let many : 65535 < length (behaviours_of old) + turn_wishes p b before =
    subst (λ (v : List ℤ). 65535 < length (behaviours_of old) + turn_wishes p b v) lent
    (subst (λ (q : Program). 65535 < length (behaviours_of old) + turn_wishes q b c.deref_mut-in-loop-turn.result.now) c.in_ok-compiled.ensures
    (c.in_err-take_turn.ensures.fault (ap Err is))) in
    reached_over p b (drop (c.loop-turn.turn + 1) (behaviours_of old)) before (length old.rows.items)
    (rows_of c.loop-turn.faulted.items) (in_front p old c.loop-turn.turn before (length old.rows.items)
    (rows_of c.loop-turn.faulted.items) there i.has_reached)
    (omega (arith, many, rows_are old))

pub returns-clause-ends : goal.returns-clause-ends
returns-clause-ends g c =
    let over : length c.loop-turn.rows.rows.items ≤ c.loop-turn.turn = search rules in
    last_row c.args.program.now c.loop-turn.rows c.loop-turn.turn c.loop-turn.values.items (rows_of c.loop-turn.faulted.items) over
    c.loop-turn.invariant.has_reached
