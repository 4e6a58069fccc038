use Rattle.std.proofs.Common.{◌≡◌, ℕ, ◌-◌, ◌*◌, ◌<◌, ◌∙◌, List, length, ap, subst, arith, IfOk}
use Rattle.std.specs.List.{AllZip, range_with_len}
use Rattle.std.specs.declared.alloc.AllocError.{AllocError}
use Rattle.std.specs.declared.result.Result.{Result}
use Rattle.rayon.specs.Numbers.{nat_range}
use Rattle.rayon.proofs.ListFacts.{IfOk-then}
use Rattle.rayon.proofs.ToStd.{nat_range-All}
use Rattle.boc_plans.proofs.Numbered.{gathered}
use Rattle.boc_sweep.specs.declared.lanes.TheConstants.{LANES}
use Rattle.boc_sweep.specs.Passes.{AreSpansOfGroup}
use Rattle.boc_sweep.proofs.Passing.{groups_of}
use Rattle.boc_sweep.proofs.freed.group_spans.Goals as goal

-- the closure's `requires` at each group
pub collect-requires-clause-ready : goal.collect-requires-clause-ready
collect-requires-clause-ready g c κs within =
    let ends = c.into_par_iter.ensures in
    let h = c.div_ceil.ensures in
    let inside = nat_range-All (λ (group : ℕ). group * LANES < length c.args.cowns.now) 0 c.div_ceil.result (λ group low high. omega (arith, high, h)) in
    rw (c.map.ensures.base, c.map.ensures.f, c.with_min_len.ensures.base, ends.0, ends.1)
    (λ k d lt. ((inside k d lt, c.requires.shape, c.requires.written), λ y p. tt))

pub returns : goal.returns
returns g c =
    let ends = c.into_par_iter.ensures in
    let rows = c.args.rows.now in
    let cowns : List ℕ = c.args.cowns.now in
    let count : ℕ = c.div_ceil.result in
    let whole : count - 0 ≡ count = omega arith in
    let h = c.in_ok-collect.ensures in
    let chain = rw (c.map.ensures.base, c.map.ensures.f, c.with_min_len.ensures.base) at h.1 in
    let places = chain.1 ∙ (λ i. nat_range (ends.0 i) (ends.1 i)) ∙ ap (range_with_len 0) whole in
    let Each = λ (group : ℕ) (r : Result (List ℕ) AllocError). IfOk r (AreSpansOfGroup rows cowns group) in
    let each = subst (λ (l : List ℕ). AllZip Each l h.0) places chain.2 in
    IfOk-then c.in_ok-collect.field-0 _ _
    (gathered (AreSpansOfGroup rows cowns) _ h.0 c.in_ok-collect.field-0 each h.2)
    (λ v z. groups_of rows cowns count v.items (omega (arith, c.div_ceil.ensures)) z)
