use Rattle.std.proofs.Common.{◌≡◌, ◌∙◌, List, MatchOption, Option, Vec, length, rules, ap, subst, sym}
use Rattle.std.specs.Global.{Global}
use Rattle.std.proofs.lemmas.Result.{IfOk-weaker}
use Rattle.boc_runs.specs.declared.rows.Row.{Row}
use Rattle.boc_runs.specs.Run.{Member, config_of}
use Rattle.boc_eval.specs.declared.instance.Instance.{Instance}
use Rattle.boc_eval.specs.Instances.{AreRight, AreRowsOf}
use Rattle.boc_dispatch.specs.Told.{LacksRow}
use Rattle.boc_follow.proofs.RowKinds.{known_rows}
use Rattle.boc_run_commands.proofs.RunNames.{as_many_rows}
use Rattle.boc_run_commands.proofs.named_run.told_names.Given.{Over}
use Rattle.boc_run_commands.proofs.named_run.told_names.Goals.{After-deref-in-Some}
use Rattle.boc_run_commands.proofs.named_run.told_names.Goals as goal

-- what the rows are that were told
told : (g : Over) (c : After-deref-in-Some g) → AreRowsOf (config_of c.args.program.now c.args.run.now.record.events).members c.deref-in-Some.result.now
told g c =
    let run = (config_of c.args.program.now c.args.run.now.record.events).members in
    let rows : c.as_slice-count.result.now ≡ c.args.run.now.record.rows = search rules in
    let count : length run ≡ length c.as_slice-count.result.now =
    as_many_rows c.args.program.now c.args.run.now.record c.requires.run c.rows.ensures.run ∙ ap (λ (rs : List Row). length rs) (sym rows) in
    let are = subst (λ (o : Option (Vec Instance Global)). MatchOption o (LacksRow c.deref.result.now (length c.as_slice-count.result.now))
    (λ found. (r : List Member) → AreRight r c.deref.result.now → length r ≡ length c.as_slice-count.result.now → AreRowsOf r found.items))
    c.in-Some.is c.in_ok-rows.ensures in
    subst (AreRowsOf run) (sym c.deref-in-Some.ensures.value)
    (are run (subst (AreRight run) (sym c.deref.ensures.value) c.requires.told) count)

pub names_of_run-requires : goal.names_of_run-requires
names_of_run-requires g c =
    known_rows c.args.program.now c.args.run.now.record.events c.deref-in-Some.result.now c.requires.run.run.run (told g c)

pub returns-in-Some : goal.returns-in-Some
returns-in-Some g c =
    let run = (config_of c.args.program.now c.args.run.now.record.events).members in
    IfOk-weaker c.names_of_run.result _ _ (λ names are. are run (told g (goal.at.returns-in-Some g c).After-deref-in-Some)) c.names_of_run.ensures
