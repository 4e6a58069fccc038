use Rattle.std.proofs.Common.{◌≡◌, ◌∙◌, ◌<◌, ℕ, List, ap, length, map, subst, sym}
use Rattle.std.specs.Prelude.{All}
use Rattle.boc_program.specs.declared.limits.TheConstants.{MOST_ROWS}
use Rattle.boc_runs.specs.Run.{config_of}
use Rattle.boc_eval.specs.declared.instance.Instance.{Instance}
use Rattle.boc_eval.specs.Instances.{AreRowsOf}
use Rattle.boc_many_runs.proofs.RunKinds.{few_kinds, kinds_long, kinds_low, kinds_same}
use Rattle.boc_many_runs.proofs.drawn.defs_of.Goals.{In_ok-kinds}
use Rattle.boc_many_runs.proofs.drawn.defs_of.Goals as goal

pub kinds_of-requires : goal.kinds_of-requires
kinds_of-requires c =
    let run = (config_of c.args.program.now c.args.recorded.now.events).members in
    few_kinds c.args.program.now c.args.recorded.now c.deref.result.now c.requires.run
    (subst (λ (rows : List Instance). AreRowsOf run rows) (sym c.deref.ensures.value) c.in_ok-instances.ensures)

-- the defs are those of the rows that were found
same : (c : In_ok-kinds) → c.in_ok-kinds.kinds.items ≡ map (λ (i : Instance). i.kind) c.in_ok-instances.instances.items
same c = c.in_ok-kinds.ensures ∙ ap (map (λ (i : Instance). i.kind)) c.deref.ensures.value

pub returns-clause-are : goal.returns-clause-are
returns-clause-are c =
    same (goal.at.returns-clause-are c).In_ok-kinds
    ∙ kinds_same c.args.program.now c.args.recorded.now c.in_ok-instances.instances.items c.requires.run c.in_ok-instances.ensures

pub returns-clause-whole : goal.returns-clause-whole
returns-clause-whole c =
    ap (λ (ns : List ℕ). length ns) (same (goal.at.returns-clause-whole c).In_ok-kinds)
    ∙ kinds_long c.args.program.now c.args.recorded.now c.in_ok-instances.instances.items c.requires.run c.in_ok-instances.ensures c.rows-rows.ensures.run

pub returns-clause-few : goal.returns-clause-few
returns-clause-few c =
    subst (λ (ns : List ℕ). All (λ d. d < MOST_ROWS) ns) (sym (same (goal.at.returns-clause-few c).In_ok-kinds))
    (kinds_low c.args.program.now c.args.recorded.now c.in_ok-instances.instances.items c.requires.run c.in_ok-instances.ensures)
