use Rattle.std.proofs.Common.{◌≡◌, ℕ, ◌+◌, ◌-◌, List, [], ◌∷◌, ◌++◌, sym, subst, arith}
use Rattle.boc_greedy.specs.declared.points.CurvePoint.{CurvePoint}
use Rattle.boc_greedy.specs.Curves.{IsCurve, IsCurvePoint}
use Rattle.boc_greedy.proofs.Curving.{curve_more}
use Rattle.boc_greedy.proofs.points.curve_over.Goals as goal

pub loop-p-init : goal.loop-p-init
loop-p-init g c = c.in_ok-points.ensures

pub loop-p-preserved : goal.loop-p-preserved
loop-p-preserved g c =
    let rows = c.args.rows.now in
    let p : ℕ = c.loop-p.p in
    let old : List CurvePoint = c.loop-p.points.items in
    let point : CurvePoint = c.in_ok-point_of.field-0 in
    let next : p ≡ p - 1 + 1 = omega (arith, c.loop-p.auto.p, c.in_ok-end.ensures.used.0) in
    let now : p - 1 + 1 ≡ p + 1 - 1 = omega (arith, next) in
    let more : IsCurve rows (p - 1 + 1) (old ++ point ∷ []) =
    curve_more rows (p - 1) old point c.loop-p.invariant (subst (λ (n : ℕ). IsCurvePoint rows n point) next c.in_ok-point_of.ensures) in
    subst (λ (n : ℕ). IsCurve rows n c.push.new.self.items) now (subst (IsCurve rows (p - 1 + 1)) (sym c.in_ok-push.ensures.items) more)

pub returns : goal.returns
returns g c =
    let low = c.in_ok-end.ensures.used.1 in
    let end = c.loop-p.auto.p-end (omega (arith, low)) in
    let whole : c.loop-p.p - 1 ≡ c.args.most = omega (arith, c.loop-p-test.false, end, c.number-most.ensures.value) in
    subst (λ (n : ℕ). IsCurve c.args.rows.now n c.loop-p.points.items) whole c.loop-p.invariant
