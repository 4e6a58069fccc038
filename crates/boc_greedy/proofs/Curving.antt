-- What the points of a curve lie between, and that there is one of each.
use Rattle.std.proofs.Common.{◌≡◌, ℕ, zero, suc, ◌+◌, ◌-◌, ◌*◌, ◌/◌, ◌<◌, ◌≤◌, List, [], ◌∷◌, ◌++◌, length, get_or, refl, sym, ◌∙◌, ap, subst, inl, inr, arith}
use Rattle.std.specs.Prelude.{max, slice_get, Some}
use Rattle.std.specs.List.{AllZip, range_with_len}
use Rattle.std.proofs.Math.Nat.{mul-le-mul_left}
use Rattle.std.proofs.lemmas.Bool.{cases_lt}
use Rattle.std.proofs.Math.ListN.{get_or-append}
use Rattle.std.proofs.Math.Seq.{get_or-append_seam}
use Rattle.std.proofs.lemmas.List.{ext_get_or, length-append}
use Rattle.std.proofs.lemmas.Option.{slice_get-get_or, get_or_from_slice_get, slice_get_past, slice_get_read, slice_get_within}
use Rattle.boc_runs.specs.declared.rows.Row.{Row}
use Rattle.boc_runs.specs.Changes.{without}
use Rattle.boc_runs.proofs.Freeing.{rows_without}
use Rattle.boc_runs.specs.Rows.{IsRows, edited}
use Rattle.boc_runs.proofs.Editing.{one_last, least_fits, rows_edited}
use Rattle.boc_plans.specs.Plans.{work_of, IsEnd, Keeps}
use Rattle.boc_plans.specs.Greedy.{IsForWorkers}
use Rattle.boc_plans.specs.Sweeps.{IsGreedyCownSweep, IsGreedyEnd, IsLeastGreedyEnd, IsGreedySweep}
use Rattle.boc_plans.proofs.Numbered.{range_long, range_at}
use Rattle.boc_order.proofs.Alone.{one_end, one_span, one_bound}
use Rattle.boc_greedy.specs.declared.points.CurvePoint.{CurvePoint}
use Rattle.boc_greedy.specs.Curves.{rounded_up, IsLowBound, IsCurvePoint, IsCurve}
use Rattle.boc_order.proofs.Totals.{total-most}
use Rattle.boc_greedy.proofs.Busy.{busy, busy-work, busy_few}
use Rattle.boc_greedy.proofs.Bound.{end_within, greedy_keeps, greedy_for_workers, greedy_close}
use Rattle.boc_greedy.proofs.Alone.{one_greedy_plan}

-- rows have one greedy end
pub one_greedy_end : (rows : List Row) → IsRows rows → (p end other : ℕ) → IsGreedyEnd rows p end → IsGreedyEnd rows p other → end ≡ other
one_greedy_end rows hr p end other a b =
    let same : a.plan ≡ b.plan = (one_greedy_plan rows hr p a.plan a.workers b.plan b.workers a.greedy b.greedy).0 in
    one_end rows b.plan end other (subst (λ (plan : List ℕ). IsEnd rows plan end) same a.ends) b.ends

one_least_end : (rows : List Row) → IsRows rows → (p row end other : ℕ) → row < length rows → IsLeastGreedyEnd rows p row end
    → IsLeastGreedyEnd rows p row other → end ≡ other
one_least_end rows hr p row end other there s t =
    let last : s.is_least.last ≡ t.is_least.last = one_last rows (length rows) row _ _ s.is_least.is_last t.is_least.is_last in
    let least : s.least ≡ t.least = s.is_least.is ∙ ap (max 1) last ∙ sym t.is_least.is in
    let fits = least_fits rows hr row t.is_least.last t.least there t.is_least.is_last t.is_least.is in
    one_greedy_end (edited rows row t.least) (rows_edited rows hr row t.least fits) p end other
    (subst (λ (ticks : ℕ). IsGreedyEnd (edited rows row ticks) p end) least s.is_end) t.is_end

-- and one list of these ends with one row after another at its least ticks
pub one_greedy_sweep : (rows : List Row) → IsRows rows → (p : ℕ) (ends others : List ℕ) → IsGreedySweep rows p ends → IsGreedySweep rows p others
    → ends ≡ others
one_greedy_sweep rows hr p ends others s t = ext_get_or 0 ends others (s.whole ∙ sym t.whole)
    (λ row h. (let there : row < length rows = omega (arith, h, s.whole) in one_least_end rows hr p row _ _ there (s.at row there) (t.at row there)))

pub one_greedy_cown_sweep : (rows : List Row) → IsRows rows → (p count : ℕ) (ends others : List ℕ) → IsGreedyCownSweep rows p count ends
    → IsGreedyCownSweep rows p count others → ends ≡ others
one_greedy_cown_sweep rows hr p count ends others s t = ext_get_or 0 ends others (s.whole ∙ sym t.whole)
    (λ cown h. (let below : cown < count = omega (arith, h, s.whole) in
    one_greedy_end (without cown rows) (rows_without cown rows hr) p _ _ (s.at cown below) (t.at cown below)))

one_low : (rows : List Row) (p low other : ℕ) → IsLowBound rows p low → IsLowBound rows p other → low ≡ other
one_low rows p low other a b =
    a.is ∙ ap (λ (span : ℕ). max span (rounded_up (work_of rows) p)) (one_span rows a.span b.span a.is_span b.is_span) ∙ sym b.is

-- a point is known by its four numbers
same_point : (a b : CurvePoint) → a.workers ≡ b.workers → a.end ≡ b.end → a.low ≡ b.low → a.bound ≡ b.bound → a ≡ b
same_point a b workers end low bound = λ i. record { workers = workers i; end = end i; low = low i; bound = bound i }

one_point : (rows : List Row) → IsRows rows → (p : ℕ) (a b : CurvePoint) → IsCurvePoint rows p a → IsCurvePoint rows p b → a ≡ b
one_point rows hr p a b s t = same_point a b (s.asked ∙ sym t.asked) (one_greedy_end rows hr p _ _ s.is_end t.is_end) (one_low rows p _ _ s.is_low t.is_low)
    (one_bound rows p _ _ s.is_bound t.is_bound)

-- rows have one curve
pub one_curve : (rows : List Row) → IsRows rows → (most : ℕ) (points others : List CurvePoint) → IsCurve rows most points → IsCurve rows most others
    → points ≡ others
one_curve rows hr most points others s t =
    let none : CurvePoint = record { workers = 0; end = 0; low = 0; bound = 0 } in
    ext_get_or none points others (s.whole ∙ sym t.whole)
    (λ i h. one_point rows hr (i + 1) _ _ (s.at i _ (slice_get-get_or points i none h))
    (t.at i _ (slice_get-get_or others i none (omega (arith, h, s.whole, t.whole)))))

-- the points, from the numbers of workers
pub curve_of : (rows : List Row) (most : ℕ) (points : List CurvePoint)
    → AllZip (λ (p : ℕ) (point : CurvePoint). IsCurvePoint rows p point) (range_with_len 1 most) points → IsCurve rows most points
curve_of rows most points h = record {
  whole = whole;
  at = λ i point there. elim (cases_lt i most) [
    | inl lt ↦ (
        let e : 1 + i ≡ i + 1 = omega arith in
        let x : CurvePoint = get_or points i point in
        let is : x ≡ point = get_or_from_slice_get points i point point there in
        subst (λ (k : ℕ). IsCurvePoint rows k point) e (subst (λ (y : CurvePoint). IsCurvePoint rows (1 + i) y) is
        (range_at (λ (p : ℕ) (y : CurvePoint). IsCurvePoint rows p y) point 1 most points h i lt)))
    | inr ge ↦ absurd (none i point ge there)
  ];
}
  where
    whole : length points ≡ most
    whole = range_long (λ (p : ℕ) (point : CurvePoint). IsCurvePoint rows p point) 1 most points h

    none : (i : ℕ) (point : CurvePoint) → most ≤ i → slice_get points i ≡ Some point → ⊥
    none i point ge there = let past = slice_get_past points i (omega (arith, ge, whole)) in cc

-- and with the point of one worker more
pub curve_more : (rows : List Row) (n : ℕ) (points : List CurvePoint) (point : CurvePoint) → IsCurve rows n points → IsCurvePoint rows (n + 1) point
    → IsCurve rows (n + 1) (points ++ point ∷ [])
curve_more rows n points point c more = record {
  whole = length-append points (point ∷ []) ∙ ap (λ (k : ℕ). k + 1) c.whole;
  at = λ place x there. (
      let is : get_or (points ++ point ∷ []) place x ≡ x = get_or_from_slice_get (points ++ point ∷ []) place x x there in
      elim (cases_lt place (length points)) [
        | inl lt ↦ c.at place x (slice_get_read points (length points) place x refl lt (sym is ∙ get_or-append points (point ∷ []) x place lt))
        | inr ge ↦ (
            let within = slice_get_within (points ++ point ∷ []) place x there in
            let last : place ≡ length points = omega (arith, ge, within, length-append points (point ∷ [])) in
            let same : point ≡ x = sym (get_or-append_seam points point [] x) ∙ ap (λ (k : ℕ). get_or (points ++ point ∷ []) k x) (sym last) ∙ is in
            let n_is : n + 1 ≡ place + 1 = omega (arith, last, c.whole) in
            subst (λ (k : ℕ). IsCurvePoint rows k x) n_is (subst (IsCurvePoint rows (n + 1)) same more))
      ]);
}

-- what is at most so many times p is so many, or less, when it is divided and rounded up
rounded_low : (p work last : ℕ) → 0 < p → work ≤ last * p → rounded_up work p ≤ last
rounded_low zero work last some le = absurd (omega (arith, some))
rounded_low (suc q) work last some le = elim (cases_lt last (rounded_up work (suc q))) [
  | inl above ↦ (
      let less : suc q - 1 ≡ q = omega arith in
      let more : suc q * (last + 1) ≤ suc q * rounded_up work (suc q) = mul-le-mul_left (suc q) (omega arith) in
      let whole : suc q * ((work + q) / suc q) ≤ work + q = omega arith in
      absurd (omega (arith, rw less at more, whole, le)))
  | inr ge ↦ ge
]

-- no plan for p workers that keeps ends before the low bound
pub none_ends_before : (rows : List Row) (p low last : ℕ) (plan workers : List ℕ) → 0 < p → IsLowBound rows p low → Keeps rows plan
    → IsForWorkers rows p plan workers → IsEnd rows plan last → low ≤ last
none_ends_before rows p low last plan workers some l keeps for end =
    let (r, there, at) = l.is_span.ends.reached in
    let after : l.span ≤ last = omega (arith, at, l.is_span.earliest.least plan keeps r there, end.none_later r there) in
    let few = total-most (busy rows plan) p last (λ t h. busy_few rows plan workers t p for) in
    let share : rounded_up (work_of rows) p ≤ last = rounded_low p (work_of rows) last some (omega (arith, few, busy-work rows plan last end)) in
    omega (arith, l.is, after, share)

-- the greedy plan ends between its bounds
pub point_between : (rows : List Row) → IsRows rows → (p : ℕ) (point : CurvePoint) → 0 < p → IsCurvePoint rows p point
    → (point.low ≤ point.end) × (point.end ≤ point.bound)
point_between rows hr p point some c =
    let g = c.is_end in
    let keeps = greedy_keeps rows hr p some g.plan g.workers g.greedy in
    let for = greedy_for_workers rows hr p some g.plan g.workers g.greedy in
    let close = greedy_close rows hr p some g.plan g.workers g.greedy point.end g.ends c.is_bound.span c.is_bound.is_span in (
      none_ends_before rows p point.low point.end g.plan g.workers some c.is_low keeps for g.ends,
      omega (arith, end_within p (work_of rows) c.is_bound.span point.end some close, c.is_bound.is),
    )
