use Rattle.std.proofs.Common.{◌≡◌, ◌∙◌, List, MatchOption, Option, Vec, length, rules, ap, subst, sym}
use Rattle.std.specs.Global.{Global}
use Rattle.boc_runs.specs.declared.rows.Row.{Row}
use Rattle.boc_runs.specs.Run.{Member, config_of}
use Rattle.boc_eval.specs.declared.instance.Instance.{Instance}
use Rattle.boc_eval.specs.Instances.{AreRight, AreRowsOf}
use Rattle.boc_dispatch.specs.Told.{LacksRow}
use Rattle.boc_many_runs.proofs.RunKinds.{as_many_rows}
use Rattle.boc_many_runs.proofs.drawn.instances_of.Goals as goal

pub returns-in-Some : goal.returns-in-Some
returns-in-Some c =
    let run = (config_of c.args.program.now c.args.recorded.now.events).members in
    let rows : c.as_slice-count.result.now ≡ c.args.recorded.now.rows = search rules in
    let count : length run ≡ length c.as_slice-count.result.now =
    as_many_rows c.args.program.now c.args.recorded.now c.requires.run c.rows.ensures.run ∙ ap (λ (rs : List Row). length rs) (sym rows) in
    let are = subst (λ (o : Option (Vec Instance Global)). MatchOption o (LacksRow c.args.told.now (length c.as_slice-count.result.now))
    (λ found. (r : List Member) → AreRight r c.args.told.now → length r ≡ length c.as_slice-count.result.now → AreRowsOf r found.items))
    c.in-Some.is c.in_ok-found.ensures in
    are run c.requires.told count
