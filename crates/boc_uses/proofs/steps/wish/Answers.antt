use Rattle.std.proofs.Common.{ap, sym, ◌∙◌, subst, map, [], List, ℕ, true}
use Rattle.std.specs.Prelude.{not}
use Rattle.boc_program.specs.Meaning.{cowns_held, cowns_of, has_same_twice}
use Rattle.boc_program.specs.memory.View.{slot_expr_of, cown_ref_of}
use Rattle.boc_uses.specs.Noting.{named, noted_then, standing}
use Rattle.boc_uses.proofs.Walked.{charged, refs_cut, refs_named, wish_refs, wish_uses}
use Rattle.boc_uses.proofs.steps.wish.Goals as goal

pub returns-then-name_all-clause-used : goal.returns-then-name_all-clause-used
returns-then-name_all-clause-used c kind next =
    let args = map slot_expr_of c.args.args.now in
    let refs = map cown_ref_of c.args.references.now in
    let held = cowns_held c.args.inputs.now in
    let s = standing held c.args.slots.now c.charge.new.ticks in
    let uses = c.name_all.new.uses in
    let new : List ℕ = c.name_all.new.cowns.items in
    charged c.args.params 1 c.args.uses.now held c.args.slots.now c.args.ticks.now c.charge.new.ticks (wish_uses args refs next) c.charge.result
    c.charge.ensures.counts c.charge.ensures.ticks
    ∙ ap (λ b. noted_then b c.args.params c.args.uses.now (wish_uses args refs next s)) c.if-not-charge.false
    ∙ wish_refs c.args.params args refs next s c.args.uses.now c.value_all.new.uses uses (sym c.if-not-value_all.false ∙ c.value_all.ensures.value)
    c.value_all.ensures.uses c.name_all.ensures.uses
    ∙ refs_named c.args.params uses new (cowns_of refs s) (next s)
    (subst (λ (old : List ℕ). named true old new (cowns_of refs s)) c.new-cowns.ensures c.if-name_all.ensures.cowns)
    ∙ ap (λ (cs : List ℕ). noted_then (not (has_same_twice cs)) c.args.params uses (next s)) (sym c.deref.ensures.0)
    ∙ ap (λ b. noted_then b c.args.params uses (next s)) (sym c.all_differ.ensures)

pub returns-else-name_all-clause-used : goal.returns-else-name_all-clause-used
returns-else-name_all-clause-used c kind next =
    let args = map slot_expr_of c.args.args.now in
    let refs = map cown_ref_of c.args.references.now in
    let held = cowns_held c.args.inputs.now in
    let s = standing held c.args.slots.now c.charge.new.ticks in
    let uses = c.name_all.new.uses in
    let new : List ℕ = c.name_all.new.cowns.items in
    charged c.args.params 1 c.args.uses.now held c.args.slots.now c.args.ticks.now c.charge.new.ticks (wish_uses args refs next) c.charge.result
    c.charge.ensures.counts c.charge.ensures.ticks
    ∙ ap (λ b. noted_then b c.args.params c.args.uses.now (wish_uses args refs next s)) c.if-not-charge.false
    ∙ wish_refs c.args.params args refs next s c.args.uses.now c.value_all.new.uses uses (sym c.if-not-value_all.false ∙ c.value_all.ensures.value)
    c.value_all.ensures.uses c.name_all.ensures.uses
    ∙ refs_cut c.args.params uses c.new-cowns.result.items new (cowns_of refs s) (next s) c.if-name_all.ensures.cowns
    ∙ ap (λ b. noted_then b c.args.params uses (next s)) (sym c.if-name_all.false)
