use Rattle.std.proofs.Common.{◌≡◌, [], ℤ, length, map, sym, ◌∙◌, ap, subst}
use Rattle.boc_program.specs.declared.program.Program.{Program}
use Rattle.boc_program.specs.Programs.{initial_values}
use Rattle.boc_runs.specs.Serial.{Behaviour, main_behaviour, behaviour_of}
use Rattle.boc_runs.proofs.Behaviours.{initial-length, main_fits}
use Rattle.boc_eval.specs.Queue.{BehaviourFits, QueueFits}
use Rattle.boc_all_ends.proofs.Fitting.{meant_fits}
use Rattle.boc_all_ends.proofs.stepper.Stepper.main_alone.Goals as goal

pub run_at_once-requires-clause-long : goal.run_at_once-requires-clause-long
run_at_once-requires-clause-long c =
    let p : Program = c.args.self.now.program.now in
    ap (length {A = ℤ}) (c.deref_mut.ensures.value ∙ c.in_ok-values.ensures
    ∙ ap initial_values (c.as_slice.ensures ∙ ap (λ (q : Program). q.cowns) c.program.ensures))
    ∙ initial-length p.cowns

pub returns-clause-fits : goal.returns-clause-fits
returns-clause-fits c =
    let p : Program = c.args.self.now.program.now in
    let b : Behaviour = record { kind = 0; args = c.new.result.items; cowns = c.new-2.result.items } in
    let same : main_behaviour ≡ b =
    ap (λ xs. let m : Behaviour = record { kind = 0; args = xs; cowns = [] } in m) (sym c.new.ensures)
    ∙ ap (λ xs. let m : Behaviour = record { kind = 0; args = c.new.result.items; cowns = xs } in m) (sym c.new-2.ensures) in
    let fits : BehaviourFits p b = subst (BehaviourFits p) same (main_fits p.bodies p.main, tt) in
    c.in_ok-add_wishes.ensures.fits p c.requires
    (subst (λ ws. QueueFits p (map behaviour_of ws)) (sym c.in_ok-wishes.ensures.wishes) (meant_fits p b c.deref_mut.result.now fits))
