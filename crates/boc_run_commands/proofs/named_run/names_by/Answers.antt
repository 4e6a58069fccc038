use Rattle.std.proofs.Common.{◌≡◌, List, rules, subst, sym}
use Rattle.boc_program.specs.declared.program.Program.{Program}
use Rattle.boc_runs.specs.declared.event.Event.{Event}
use Rattle.boc_runs.specs.Records.{IsRecordOf}
use Rattle.boc_runs.specs.Run.{config_of}
use Rattle.boc_eval.specs.Instances.{AreKnown, AreRowsOf}
use Rattle.boc_run_commands.proofs.named_run.names_by.Goals as goal

pub names_of_run-requires : goal.names_of_run-requires
names_of_run-requires g c =
    let same : c.in_ok-followed.followed.program ≡ c.args.program.now = search rules in
    subst (λ (p : Program). AreKnown p c.deref.result.now) same
    (subst (AreKnown c.in_ok-followed.followed.program) (sym c.deref.ensures.value) c.in_ok-rows.ensures.known)

pub returns : goal.returns
returns g c =
    let p = c.args.program.now in
    let events = c.args.recorded.now.events in
    let same : c.in_ok-followed.followed.program ≡ p = search rules in
    let log : c.in_ok-followed.followed.log ≡ events = search rules in
    let run : IsRecordOf p c.args.recorded.now = search rules in
    let rows = subst (λ (q : Program). AreRowsOf (config_of q events).members c.in_ok-rows.rows.items) same
    (subst (λ (es : List Event). AreRowsOf (config_of c.in_ok-followed.followed.program es).members c.in_ok-rows.rows.items) log c.in_ok-rows.ensures.rows) in
    (run, c.in_ok-names_of_run.ensures (config_of p events).members (subst (AreRowsOf (config_of p events).members) (sym c.deref.ensures.value) rows))
