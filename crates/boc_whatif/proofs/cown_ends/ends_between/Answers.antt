use Rattle.std.proofs.Common.{ℕ, ◌<◌, ◌∙◌, List, subst, arith, IfOk}
use Rattle.std.specs.List.{AllZip}
use Rattle.std.specs.declared.alloc.AllocError.{AllocError}
use Rattle.std.specs.declared.result.Result.{Result}
use Rattle.rayon.specs.Numbers.{nat_range}
use Rattle.rayon.proofs.ListFacts.{IfOk-then}
use Rattle.rayon.proofs.ToStd.{nat_range-All}
use Rattle.boc_program.specs.declared.limits.TheConstants.{MOST_COWNS}
use Rattle.boc_runs.specs.declared.rows.Row.{Row}
use Rattle.boc_runs.specs.Changes.{without}
use Rattle.boc_plans.specs.Sweeps.{IsGreedyEnd}
use Rattle.boc_plans.proofs.Numbered.{gathered}
use Rattle.boc_whatif.proofs.FreedEnds.{stretch_without}
use Rattle.boc_whatif.proofs.cown_ends.ends_between.Goals as goal

-- the closure's `requires` at each cown
pub collect-requires-clause-ready : goal.collect-requires-clause-ready
collect-requires-clause-ready g c κs within =
    let ends = c.into_par_iter.ensures in
    let inside = nat_range-All (λ (cown : ℕ). cown < MOST_COWNS) c.args.from c.args.to (λ cown low high. omega (arith, high, c.requires.few)) in
    rw (c.map.ensures.base, c.map.ensures.f, c.with_min_len.ensures.base, ends.0, ends.1)
    (λ k d lt. ((inside k d lt, c.requires.shape, c.requires.known), λ y p. tt))

pub returns : goal.returns
returns g c =
    let ends = c.into_par_iter.ensures in
    let rows : List Row = c.args.rows.now in
    let p : ℕ = c.args.workers in
    let h = c.in_ok-collect.ensures in
    let chain = rw (c.map.ensures.base, c.map.ensures.f, c.with_min_len.ensures.base) at h.1 in
    let places = chain.1 ∙ (λ i. nat_range (ends.0 i) (ends.1 i)) in
    let each = subst (λ (l : List ℕ). AllZip (λ (cown : ℕ) (r : Result ℕ AllocError). IfOk r (IsGreedyEnd (without cown rows) p)) l h.0) places chain.2 in
    IfOk-then c.in_ok-collect.field-0 _ _
    (gathered (λ (cown end : ℕ). IsGreedyEnd (without cown rows) p end) _ h.0 c.in_ok-collect.field-0 each h.2)
    (λ v z. stretch_without rows p c.args.from c.args.to v.items c.requires.order z)
