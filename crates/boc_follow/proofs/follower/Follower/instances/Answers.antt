use Rattle.std.proofs.Common.{◌≡◌, ◌∙◌, List, map, ap, sym, subst}
use Rattle.std.proofs.lemmas.Result.{IfOk-weaker}
use Rattle.boc_runs.specs.Run.{config_of}
use Rattle.boc_eval.specs.declared.instance.Instance.{Instance}
use Rattle.boc_eval.specs.Instances.{AreKnown, AreRowsOf}
use Rattle.boc_follow.specs.declared.row.FollowedRow.{FollowedRow}
use Rattle.boc_follow.specs.Following.{Following}
use Rattle.boc_follow.proofs.RowKinds.{kept_rows, known_rows}
use Rattle.boc_follow.proofs.follower.Follower.instances.Goals.{After-copies_of}
use Rattle.boc_follow.proofs.follower.Follower.instances.Goals as goal

-- what is copied is what the rows are
own : (c : After-copies_of) (copies : List Instance) → copies ≡ map (λ (row : FollowedRow). row.instance) c.deref.result.now
    → AreRowsOf (config_of c.self.inside.program.now c.self.inside.rules.events).members copies
own c copies is =
    let o = c.self.inside in
    subst (AreRowsOf (config_of o.program.now o.rules.events).members)
    (sym (is ∙ ap (map (λ (row : FollowedRow). row.instance)) c.deref.ensures.value))
    (kept_rows o.program.now o.rows.items (config_of o.program.now o.rules.events).members c.self.invariant.rows_are)

pub returns-clause-rows : goal.returns-clause-rows
returns-clause-rows c =
    IfOk-weaker c.copies_of.result _ _ (λ rows is. subst (λ (f : Following). AreRowsOf (config_of f.program f.log).members rows.items) c.self.view_is
    (own c rows.items is)) c.copies_of.ensures

pub returns-clause-known : goal.returns-clause-known
returns-clause-known c =
    let o = c.self.inside in
    IfOk-weaker c.copies_of.result _ _ (λ rows is. subst (λ (f : Following). AreKnown f.program rows.items) c.self.view_is
    (known_rows o.program.now o.rules.events rows.items c.self.invariant.run (own c rows.items is))) c.copies_of.ensures
