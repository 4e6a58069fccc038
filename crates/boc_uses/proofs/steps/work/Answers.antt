use Rattle.std.proofs.Common.{◌≡◌, ◌∙◌, ℤ, None, Some, subst, rules, w64}
use Rattle.std.specs.Int.RustNames.{FitsSigned}
use Rattle.std.proofs.lemmas.Int.{to_z-of_z}
use Rattle.boc_program.specs.Meaning.{as_count}
use Rattle.boc_registers.specs.Values.{if_any}
use Rattle.boc_uses.specs.Uses.{if_value, paid}
use Rattle.boc_uses.specs.Noting.{standing}
use Rattle.boc_uses.proofs.Walked.{charged, no_count, some_count}
use Rattle.boc_uses.proofs.steps.work.Goals as goal

pub returns-in-None-count_of-clause-used : goal.returns-in-None-count_of-clause-used
returns-in-None-count_of-clause-used c held next =
    let s = standing held c.args.slots.now c.args.ticks.now in
    let v : ℤ = c.in-Some.value in
    let fits : FitsSigned w64 v = search rules in
    c.in-Some.ensures held (λ v. if_value (as_count v) (λ n. paid n s next))
    ∙ no_count c.args.params c.evaluate.new.uses (as_count v) (λ n. paid n s next)
    (subst (λ (z : ℤ). None ≡ if_any (as_count z)) (to_z-of_z w64 v fits) c.in-None-count_of.ensures)

pub returns-in-Some-count_of-clause-used : goal.returns-in-Some-count_of-clause-used
returns-in-Some-count_of-clause-used c held next =
    let s = standing held c.args.slots.now c.args.ticks.now in
    let v : ℤ = c.in-Some.value in
    let fits : FitsSigned w64 v = search rules in
    c.in-Some.ensures held (λ v. if_value (as_count v) (λ n. paid n s next))
    ∙ some_count c.args.params c.evaluate.new.uses (as_count v) c.in-Some-count_of.count (λ n. paid n s next)
    (subst (λ (z : ℤ). Some c.in-Some-count_of.count ≡ if_any (as_count z)) (to_z-of_z w64 v fits) c.in-Some-count_of.ensures)
    ∙ charged c.args.params c.in-Some-count_of.count c.evaluate.new.uses held c.args.slots.now c.args.ticks.now c.charge.new.ticks next c.charge.result
    c.charge.ensures.counts c.charge.ensures.ticks
