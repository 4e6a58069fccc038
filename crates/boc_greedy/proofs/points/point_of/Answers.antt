use Rattle.std.proofs.Common.{◌≡◌, ℕ, ◌+◌, ◌-◌, ◌/◌, refl, ◌∙◌, ap, arith}
use Rattle.std.specs.Prelude.{max}
use Rattle.std.proofs.Math.Nat.{div-le_self}
use Rattle.boc_plans.specs.Plans.{work_of}
use Rattle.boc_greedy.specs.Curves.{rounded_up}
use Rattle.boc_greedy.proofs.Bound.{work_high, span_le_work}
use Rattle.boc_greedy.proofs.points.point_of.Goals as goal

pub overflow_add-share : goal.overflow_add-share
overflow_add-share c =
    let known = c.requires.known in
    omega (arith, known.work_is, work_high _ known.shape, c.from.ensures, c.requires.few)

pub overflow_add-bound : goal.overflow_add-bound
overflow_add-bound c =
    let known = c.requires.known in
    let g = c.in_ok-end.ensures in
    omega (
      arith,
      known.work_is,
      work_high _ known.shape,
      div-le_self c.args.work c.from-3.result,
      span_le_work _ known.shape _ c.requires.some _ _ g.greedy _ g.ends c.args.span known.span_is,
    )

pub returns : goal.returns
returns c =
    let known = c.requires.known in
    let span : ℕ = c.args.span in
    let work : ℕ = c.args.work in
    let p : ℕ = c.args.p in
    let low : max span ((work + c.from.result) / c.from-2.result) ≡ max span (rounded_up (work_of c.args.rows.now) p) =
    ap (λ (x : ℕ). max span ((work + x) / c.from-2.result)) c.from.ensures ∙ ap (λ (x : ℕ). max span ((work + (p - 1)) / x)) c.from-2.ensures
    ∙ ap (λ (x : ℕ). max span ((x + (p - 1)) / p)) known.work_is in
    let bound : work / c.from-3.result + span ≡ work_of c.args.rows.now / p + span =
    ap (λ (x : ℕ). work / x + span) c.from-3.ensures ∙ ap (λ (x : ℕ). x / p + span) known.work_is in
    record {
      asked = refl;
      is_end = c.in_ok-end.ensures;
      is_low = record { span = span; is_span = known.span_is; is = c.max.ensures ∙ low };
      is_bound = record { span = span; is_span = known.span_is; is = bound };
    }
