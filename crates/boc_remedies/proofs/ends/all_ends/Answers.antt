use Rattle.std.proofs.Common.{◌≡◌, ℕ, ◌-◌, ◌<◌, ◌∙◌, List, length, ap, subst, arith, IfOk}
use Rattle.std.specs.List.{AllZip, range_with_len}
use Rattle.std.specs.declared.alloc.AllocError.{AllocError}
use Rattle.std.specs.declared.result.Result.{Result}
use Rattle.rayon.specs.Numbers.{nat_range}
use Rattle.rayon.proofs.ListFacts.{IfOk-then}
use Rattle.rayon.proofs.ToStd.{nat_range-All}
use Rattle.boc_plans.proofs.Numbered.{gathered}
use Rattle.boc_remedies.specs.declared.ends.Ends.{Ends}
use Rattle.boc_remedies.specs.declared.remedy.Remedy.{Remedy}
use Rattle.boc_remedies.proofs.EndsOfAll.{AreEndsAt, all_from_places}
use Rattle.boc_remedies.specs.Questions.{asked}
use Rattle.boc_remedies.proofs.ends.all_ends.Goals as goal

-- the closure's `requires` at each remedy
pub collect-requires-clause-ready : goal.collect-requires-clause-ready
collect-requires-clause-ready g c κs within =
    let ends = c.into_par_iter.ensures in
    let remedies : List Remedy = c.args.remedies.now in
    let inside = nat_range-All (λ (place : ℕ). place < length remedies) 0 (length remedies) (λ place low high. high) in
    rw (c.map.ensures.base, c.map.ensures.f, c.with_min_len.ensures.base, ends.0, ends.1)
    (λ k d lt. ((inside k d lt, c.requires.defs, c.requires.few), λ y p. tt))

pub returns : goal.returns
returns g c =
    let ends = c.into_par_iter.ensures in
    let remedies : List Remedy = c.args.remedies.now in
    let At : ℕ → Ends → Type 0 = λ (place : ℕ) (own : Ends). AreEndsAt (asked c.args.question.now) remedies place own in
    let count : ℕ = length remedies in
    let whole : count - 0 ≡ count = omega arith in
    let h = c.in_ok-collect.ensures in
    let chain = rw (c.map.ensures.base, c.map.ensures.f, c.with_min_len.ensures.base) at h.1 in
    let places = chain.1 ∙ (λ i. nat_range (ends.0 i) (ends.1 i)) ∙ ap (range_with_len 0) whole in
    let each = subst (λ (l : List ℕ). AllZip (λ (place : ℕ) (r : Result Ends AllocError). IfOk r (At place)) l h.0) places chain.2 in
    IfOk-then c.in_ok-collect.field-0 _ _ (gathered At _ h.0 c.in_ok-collect.field-0 each h.2)
    (λ v z. all_from_places (asked c.args.question.now) remedies v.items z)
