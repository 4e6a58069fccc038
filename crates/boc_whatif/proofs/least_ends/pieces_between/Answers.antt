use Rattle.std.proofs.Common.{◌≡◌, ℕ, ◌+◌, ◌-◌, ◌*◌, ◌<◌, ◌∙◌, List, ap, subst, arith, IfOk}
use Rattle.std.specs.List.{AllZip, range_with_len}
use Rattle.std.specs.declared.alloc.AllocError.{AllocError}
use Rattle.std.specs.declared.alloc.Global.{Global}
use Rattle.std.specs.declared.result.Result.{Result}
use Rattle.std.specs.declared.vec.Vec.{Vec}
use Rattle.std.proofs.lemmas.Grind.{div_ceil_times}
use Rattle.rayon.specs.Numbers.{nat_range}
use Rattle.rayon.proofs.ListFacts.{IfOk-then}
use Rattle.rayon.proofs.ToStd.{nat_range-All}
use Rattle.boc_runs.specs.declared.rows.Row.{Row}
use Rattle.boc_plans.specs.Seen.{seen}
use Rattle.boc_plans.proofs.Numbered.{gathered}
use Rattle.boc_whatif.specs.declared.least_ends.TheConstants.{PIECE}
use Rattle.boc_whatif.specs.Pieces.{IsPiece}
use Rattle.boc_whatif.proofs.Ends.{pieces_of}
use Rattle.boc_whatif.proofs.least_ends.pieces_between.Goals as goal

-- the closure's `requires` at each piece
pub collect-requires-clause-ready : goal.collect-requires-clause-ready
collect-requires-clause-ready g c κs within =
    let ends = c.into_par_iter.ensures in
    let enough = div_ceil_times (c.args.to - c.args.from) PIECE (omega arith) in
    let inside = nat_range-All (λ (piece : ℕ). c.args.from + piece * PIECE < c.args.to) 0 c.div_ceil-count.result
    (λ piece low high. omega (arith, high, c.div_ceil-count.ensures, enough.1)) in
    rw (c.map.ensures.base, c.map.ensures.f, c.with_min_len.ensures.base, ends.0, ends.1)
    (λ k d lt. ((inside k d lt, c.requires.there, c.requires.parts, c.requires.course), λ y p. tt))

pub returns : goal.returns
returns g c =
    let ends = c.into_par_iter.ensures in
    let from : ℕ = c.args.from in
    let to : ℕ = c.args.to in
    let p : ℕ = c.args.parts.now.workers in
    let all : List Row = seen c.args.parts.now.sharing c.args.parts.now.rows.now in
    let count : ℕ = c.div_ceil-count.result in
    let whole : count - 0 ≡ count = omega arith in
    let enough = div_ceil_times (to - from) PIECE (omega arith) in
    let h = c.in_ok-collect.ensures in
    let numbers = rw (c.map.ensures.base, c.with_min_len.ensures.base) at h.1.1 in
    let found = rw c.map.ensures.f at h.1.2 in
    let places = numbers ∙ (λ i. nat_range (ends.0 i) (ends.1 i)) ∙ ap (range_with_len 0) whole in
    let each = subst (λ (l : List ℕ). AllZip (λ (piece : ℕ) (r : Result (Vec ℕ Global) AllocError). IfOk r (λ v. IsPiece all p from to piece v.items)) l h.0)
    places found in
    IfOk-then c.in_ok-collect.field-0 _ _
    (gathered (λ (piece : ℕ) (v : Vec ℕ Global). IsPiece all p from to piece v.items) _ h.0 c.in_ok-collect.field-0 each h.2)
    (λ v z. pieces_of all p from to count v.items (omega (arith, c.div_ceil-count.ensures, enough.0)) z)
