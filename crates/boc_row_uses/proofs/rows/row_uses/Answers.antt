use Rattle.std.proofs.Common.{◌≡◌, ◌∙◌, ℤ, List, Option, length, map, ap, sym, subst}
use Rattle.boc_program.specs.declared.program.Program.{Program}
use Rattle.boc_program.specs.Programs.{cown_count, initial_values}
use Rattle.boc_runs.specs.Run.{config_of}
use Rattle.boc_runs.proofs.Behaviours.{initial-length}
use Rattle.boc_eval.specs.Instances.{behaviour_in}
use Rattle.boc_eval.specs.Queue.{QueueFits}
use Rattle.boc_uses.specs.declared.uses.Use.{Use}
use Rattle.boc_turns.specs.Turns.{AreUses}
use Rattle.boc_row_uses.specs.RowUses.{row_uses}
use Rattle.boc_row_uses.proofs.Answering.{answered, rows_fit}
use Rattle.boc_row_uses.proofs.Fitting.{uses_fit}
use Rattle.boc_row_uses.proofs.rows.row_uses.Goals as goal

pub take_turns-requires-clause-fit : goal.take_turns-requires-clause-fit
take_turns-requires-clause-fit c =
    subst (λ (p : Program). QueueFits p (map behaviour_in c.args.rows.now)) (sym c.in_ok-compiled.ensures)
    (rows_fit c.args.program.now c.args.recorded.now.events c.args.rows.now c.requires.run.run.run c.requires.rows)

pub take_turns-requires-clause-values : goal.take_turns-requires-clause-values
take_turns-requires-clause-values c =
    ap (length {A = ℤ}) (c.deref_mut.ensures.value ∙ c.in_ok-values.ensures)
    ∙ initial-length c.as_slice.result.now
    ∙ ap cown_count c.as_slice.ensures
    ∙ sym (ap (λ (p : Program). cown_count p.cowns) c.in_ok-compiled.ensures)

pub returns-clause-uses : goal.returns-clause-uses
returns-clause-uses c =
    answered c.args.program.now c.in_ok-compiled.compiled c.args.recorded.now.events c.args.rows.now c.deref_mut.result.now c.new-uses.result.items
    c.take_turns.new.uses.items c.in_ok-compiled.ensures (c.deref_mut.ensures.value ∙ c.in_ok-values.ensures ∙ ap initial_values c.as_slice.ensures)
    c.new-uses.ensures.items c.requires.run.run c.requires.rows c.in_ok-take_turns.ensures

pub returns-clause-fit : goal.returns-clause-fit
returns-clause-fit c =
    let members = (config_of c.args.program.now c.args.recorded.now.events).members in
    let same : c.take_turns.new.uses.items ≡ row_uses c.args.program.now members =
    answered c.args.program.now c.in_ok-compiled.compiled c.args.recorded.now.events c.args.rows.now c.deref_mut.result.now c.new-uses.result.items
    c.take_turns.new.uses.items c.in_ok-compiled.ensures (c.deref_mut.ensures.value ∙ c.in_ok-values.ensures ∙ ap initial_values c.as_slice.ensures)
    c.new-uses.ensures.items c.requires.run.run c.requires.rows c.in_ok-take_turns.ensures in
    subst (λ (uses : List (Option Use)). AreUses c.args.recorded.now.rows uses) (sym same)
    (uses_fit c.args.program.now c.args.recorded.now c.rows-recorded.ensures.run c.requires.run)
