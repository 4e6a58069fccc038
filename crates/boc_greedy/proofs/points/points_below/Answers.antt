use Rattle.std.proofs.Common.{◌≡◌, ℕ, ◌<◌, ◌≤◌, ◌+◌, ◌-◌, ◌∙◌, List, ap, subst, arith, IfOk}
use Rattle.std.specs.List.{AllZip, range_with_len}
use Rattle.std.specs.declared.alloc.AllocError.{AllocError}
use Rattle.std.specs.declared.result.Result.{Result}
use Rattle.rayon.specs.Numbers.{nat_range}
use Rattle.rayon.proofs.ListFacts.{IfOk-then}
use Rattle.rayon.proofs.ToStd.{nat_range-All}
use Rattle.boc_plans.proofs.Numbered.{gathered}
use Rattle.boc_greedy.specs.declared.points.CurvePoint.{CurvePoint}
use Rattle.boc_greedy.specs.Curves.{IsCurvePoint}
use Rattle.boc_greedy.proofs.Curving.{curve_of}
use Rattle.boc_greedy.proofs.points.points_below.Goals as goal

-- the closure's `requires` at each number of workers
pub collect-requires-clause-ready : goal.collect-requires-clause-ready
collect-requires-clause-ready g c κs within =
    let ends = c.into_par_iter.ensures in
    let inside = nat_range-All (λ (p : ℕ). (0 < p) × (p ≤ 64)) 1 c.args.most (λ p low high. (omega (arith, low), omega (arith, high, c.requires.few))) in
    rw (c.map.ensures.base, c.map.ensures.f, c.with_min_len.ensures.base, ends.0, ends.1)
    (λ k d lt. ((let b = inside k d lt in (b.0, b.1, c.requires.known)), λ y p. tt))

pub returns : goal.returns
returns g c =
    let ends = c.into_par_iter.ensures in
    let rows : List _ = c.args.rows.now in
    let h = c.in_ok-collect.ensures in
    let chain = rw (c.map.ensures.base, c.map.ensures.f, c.with_min_len.ensures.base) at h.1 in
    let places = chain.1 ∙ (λ i. nat_range (ends.0 i) (ends.1 i)) in
    let each = subst (λ (l : List ℕ). AllZip (λ (p : ℕ) (r : Result CurvePoint AllocError). IfOk r (IsCurvePoint rows p)) l h.0) places chain.2 in
    IfOk-then c.in_ok-collect.field-0 _ _ (gathered (λ (p : ℕ) (point : CurvePoint). IsCurvePoint rows p point) _ h.0 c.in_ok-collect.field-0 each h.2)
    (λ v z. curve_of rows (c.args.most - 1) v.items z)
