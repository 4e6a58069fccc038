use Rattle.std.proofs.Common.{◌≤◌, ◌∙◌, ap, length, map, rules, subst, sym}
use Rattle.boc_program.specs.declared.limits.TheConstants.{MOST_ROWS}
use Rattle.boc_eval.specs.Instances.{behaviour_in}
use Rattle.boc_lines.specs.SerialRuns.{AreBehavioursOf}
use Rattle.boc_lines.proofs.Found.{length_rows, told_through}
use Rattle.boc_lines.proofs.Replaying.{if_ok}
use Rattle.boc_lines.proofs.by_line.ticks_through.Goals as goal

pub ticks_of_behaviours-requires-clause-few : goal.ticks_of_behaviours-requires-clause-few
ticks_of_behaviours-requires-clause-few c =
    let p = c.args.program.now in
    let rows = c.as_slice.result.now in
    let there : AreBehavioursOf p rows (map behaviour_in c.in-Some.behaviours.items) = search rules in
    let own = subst (λ xs. AreBehavioursOf p rows (map behaviour_in xs)) (sym c.deref.ensures.value) there in
    subst (λ n. n ≤ MOST_ROWS) (sym (length_rows p rows c.deref.result.now own ∙ ap length c.as_slice.ensures.same))
    c.as_slice.ensures.shape.not_many

pub ticks_of_behaviours-requires-clause-both : goal.ticks_of_behaviours-requires-clause-both
ticks_of_behaviours-requires-clause-both c =
    let p = c.args.program.now in
    let rows = c.as_slice.result.now in
    let there : AreBehavioursOf p rows (map behaviour_in c.in-Some.behaviours.items) = search rules in
    let own = subst (λ xs. AreBehavioursOf p rows (map behaviour_in xs)) (sym c.deref.ensures.value) there in
    c.requires ∙ sym (ap length c.as_slice.ensures.same) ∙ sym (length_rows p rows c.deref.result.now own)

pub returns-in-Some : goal.returns-in-Some
returns-in-Some c =
    let p = c.args.program.now in
    let there : AreBehavioursOf p c.as_slice.result.now (map behaviour_in c.in-Some.behaviours.items) = search rules in
    let read = subst (λ rows. AreBehavioursOf p rows (map behaviour_in c.in-Some.behaviours.items)) c.as_slice.ensures.same there in
    let own = subst (λ xs. AreBehavioursOf p c.args.rows.now (map behaviour_in xs)) (sym c.deref.ensures.value) read in
    if_ok c.ticks_of_behaviours.result _ _ (λ found. told_through p c.args.rows.now (map behaviour_in c.deref.result.now) c.args.through.now found own)
    c.ticks_of_behaviours.ensures
