use Rattle.std.proofs.Common.{length, sym, ap, ◌∙◌, refl, arith}
use Rattle.std.proofs.lemmas.List.{length-map}
use Rattle.boc_program.specs.declared.limits.TheConstants.{MOST_ROWS}
use Rattle.boc_runs.specs.declared.rows.Row.{Row}
use Rattle.boc_plans.proofs.Seeing.{length-seen, work_of-seen}
use Rattle.boc_greedy_chain.specs.declared.chain.GreedyStep.{GreedyStep}
use Rattle.boc_remedies.proofs.GreedyParts.{defs_below, few_steps, rows_there}
use Rattle.boc_remedies.proofs.greedy_why.greedy_why_of.Goals as goal

-- the rows take as many ticks, whatever is shared
pub greedy_over-requires-clause-work : goal.greedy_over-requires-clause-work
greedy_over-requires-clause-work c = rw c.new-seen.ensures.same
    ((rw c.as_slice.ensures.same at c.work-work.ensures) ∙ sym (work_of-seen c.args.sharing c.args.rows.now))

pub greedy_links-requires-clause-defs : goal.greedy_links-requires-clause-defs
greedy_links-requires-clause-defs c =
    c.requires.defs ∙ (sym (length-seen c.args.sharing c.args.rows.now) ∙ ap (length {A = Row}) (sym c.new-seen.ensures.same))

pub greedy_links-requires-clause-there : goal.greedy_links-requires-clause-there
greedy_links-requires-clause-there c = rw c.deref.ensures.value (rows_there c.new-seen.result _ _ c.in_ok-steps.steps.items (length c.new-seen.result)
    c.in_ok-steps.ensures.chain refl)

pub defs_at-requires : goal.defs_at-requires
defs_at-requires c = rw c.deref-3.ensures.value (rows_there c.new-seen.result _ _ c.in_ok-steps.steps.items (length c.args.defs.now)
    c.in_ok-steps.ensures.chain (ap (length {A = Row}) c.new-seen.ensures.same ∙ length-seen c.args.sharing c.args.rows.now ∙ sym c.requires.defs))

pub shares_of-requires-clause-below : goal.shares_of-requires-clause-below
shares_of-requires-clause-below c = rw (c.deref-4.ensures.value, c.in_ok-defs_at.ensures, c.deref-3.ensures.value)
    (defs_below MOST_ROWS c.args.defs.now c.in_ok-steps.steps.items (rows_there c.new-seen.result _ _ c.in_ok-steps.steps.items (length c.args.defs.now)
    c.in_ok-steps.ensures.chain (ap (length {A = Row}) c.new-seen.ensures.same ∙ length-seen c.args.sharing c.args.rows.now ∙ sym c.requires.defs))
    c.requires.few_defs)

pub shares_of-requires-clause-few : goal.shares_of-requires-clause-few
shares_of-requires-clause-few c =
    let shape = c.new-seen.ensures.shape in
    let few = few_steps c.new-seen.result shape _ _ c.in_ok-steps.steps.items c.in_ok-steps.ensures.chain in
    rw (c.deref-5.ensures.value, c.in_ok-weights.ensures, c.deref-2.ensures.value)
    (omega (arith, length-map c.in_ok-steps.steps.items (λ (s : GreedyStep). s.weight), few, shape.not_many))

pub shares_by_link-requires-clause-few : goal.shares_by_link-requires-clause-few
shares_by_link-requires-clause-few c =
    let shape = c.new-seen.ensures.shape in
    let few = few_steps c.new-seen.result shape _ _ c.in_ok-steps.steps.items c.in_ok-steps.ensures.chain in
    rw (c.deref-7.ensures.value, c.in_ok-weights.ensures, c.deref-2.ensures.value)
    (omega (arith, length-map c.in_ok-steps.steps.items (λ (s : GreedyStep). s.weight), few, shape.not_many))

pub returns-clause-keys : goal.returns-clause-keys
returns-clause-keys c = rw c.deref-6.ensures.value at c.in_ok-by_link.ensures.keys

pub returns-clause-few : goal.returns-clause-few
returns-clause-few c =
    let shape = c.new-seen.ensures.shape in
    let few = few_steps c.new-seen.result shape _ _ c.in_ok-steps.steps.items c.in_ok-steps.ensures.chain in
    (c.in_ok-links.ensures.whole ∙ ap (length {A = GreedyStep}) c.deref.ensures.value, omega (arith, few, shape.not_many))
