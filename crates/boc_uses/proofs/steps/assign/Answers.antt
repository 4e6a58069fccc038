use Rattle.std.proofs.Common.{◌∷◌, ap, sym, ◌∙◌, ℤ, rules, w64}
use Rattle.std.specs.Int.RustNames.{FitsSigned}
use Rattle.std.proofs.lemmas.Int.{to_z-of_z}
use Rattle.std.specs.Prelude.{slice_set}
use Rattle.boc_uses.specs.Uses.{write}
use Rattle.boc_uses.specs.Noting.{noted_all, standing}
use Rattle.boc_uses.proofs.steps.assign.Goals as goal

pub returns-in-None-clause-used : goal.returns-in-None-clause-used
returns-in-None-clause-used c held next =
    c.in-None.ensures.used held (λ v s. write c.args.slot s ∷ next (record s { slots = slice_set s.slots c.args.slot v }))

pub returns-in-Some-clause-used : goal.returns-in-Some-clause-used
returns-in-Some-clause-used c held next =
    let ticks = c.begin.new.ticks in
    let v : ℤ = c.in-Some.value in
    let fits : FitsSigned w64 v = search rules in
    c.in-Some.ensures.used held (λ v s. write c.args.slot s ∷ next (record s { slots = slice_set s.slots c.args.slot v }))
    ∙ ap (λ u. noted_all c.args.params u (next (standing held (slice_set c.args.slots.now c.args.slot v) ticks))) (sym c.note.ensures)
    ∙ ap (λ z. noted_all c.args.params c.note.new.uses (next (standing held (slice_set c.args.slots.now c.args.slot z) ticks))) (sym (to_z-of_z w64 v fits))
    ∙ ap (λ slots. noted_all c.args.params c.note.new.uses (next (standing held slots ticks))) (sym c.put.ensures)
