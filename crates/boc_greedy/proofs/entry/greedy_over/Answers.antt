use Rattle.std.proofs.Common.{arith, ◌≡◌, ◌+◌, ◌/◌, ℕ, refl, ◌∙◌, sym, ap}
use Rattle.std.proofs.Math.Nat.{div-le_self}
use Rattle.boc_plans.specs.Plans.{IsEnd, work_of}
use Rattle.boc_greedy.specs.Plans.{IsClose}
use Rattle.boc_greedy.proofs.Bound.{work_high, greatest_is_end, end_within, greedy_keeps, greedy_for_workers, span_le_work, greedy_close, greedy_twice}
use Rattle.boc_greedy.proofs.FewMoments.{few_moments}
use Rattle.boc_greedy.proofs.entry.greedy_over.Goals as goal
use Rattle.boc_greedy.proofs.entry.greedy_over.Goals.{After-drop-simulation-5}

pub ends_of-requires-clause-low : goal.ends_of-requires-clause-low
ends_of-requires-clause-low c =
    let d = c.in_ok-simulation.ensures in
    rw c.deref.ensures.value (λ r h. omega (arith, d.low r h, c.requires.shape.ticks_high r h))

pub overflow_add-result : goal.overflow_add-result
overflow_add-result c =
    let d = c.in_ok-simulation.ensures in
    let end = greatest_is_end _ _ _ _ (rw c.deref.ensures.value at c.in_ok-ends.ensures)
    (rw c.deref-2.ensures.value at c.last_end-ends_at.ensures.none_later) (rw c.deref-2.ensures.value at c.last_end-ends_at.ensures.reached) in
    omega (
      arith,
      c.requires.work,
      work_high _ c.requires.shape,
      div-le_self c.args.work c.from.result,
      span_le_work _ c.requires.shape _
          (rw c.number-p.ensures.value c.number-p.ensures.some) _ _ d.greedy _ end c.args.span c.requires.span,
    )

-- the greatest of the ends is the end of the plan
is_end : (c : After-drop-simulation-5) → IsEnd c.args.rows.now c.in_ok-simulation.simulation.starts.items c.last_end-ends_at.result
is_end c = greatest_is_end _ _ _ _ (rw c.deref.ensures.value at c.in_ok-ends.ensures)
    (rw c.deref-2.ensures.value at c.last_end-ends_at.ensures.none_later) (rw c.deref-2.ensures.value at c.last_end-ends_at.ensures.reached)

-- the plan is close for every span
close : (c : After-drop-simulation-5) → IsClose c.args.rows.now c.number-p.result c.last_end-ends_at.result
close c = λ span s. greedy_close _ c.requires.shape _ (rw c.number-p.ensures.value c.number-p.ensures.some) _ _ c.in_ok-simulation.ensures.greedy _
    (is_end c) span s

-- the bound that is answered
bound_is : (c : After-drop-simulation-5) → c.args.work / c.from.result + c.args.span ≡ work_of c.args.rows.now / c.number-p.result + c.args.span
bound_is c = ap (λ (x : ℕ). x / c.from.result + c.args.span) c.requires.work ∙ ap (λ (x : ℕ). work_of c.args.rows.now / x + c.args.span) c.from.ensures

pub returns : goal.returns
returns c =
    let d = c.in_ok-simulation.ensures in
    rw (sym c.number-p.ensures.value) (record {
      asked = refl;
      greedy = d.greedy;
      ends = rw c.deref.ensures.value at c.in_ok-ends.ensures;
      ends_at = is_end c;
      bound = record { span = c.args.span; is_span = c.requires.span; is = bound_is c };
      moments = d.moments;
      few_moments = few_moments _ _ _ c.requires.shape.not_empty d.moments;
      keeps = greedy_keeps _ c.requires.shape _ (rw c.number-p.ensures.value c.number-p.ensures.some) _ _ d.greedy;
      workers = greedy_for_workers _ c.requires.shape _ (rw c.number-p.ensures.value c.number-p.ensures.some) _ _ d.greedy;
      close = close c;
      within = rw (bound_is c) (end_within _ _ _ _ (rw c.number-p.ensures.value c.number-p.ensures.some) (close c c.args.span c.requires.span));
      twice = greedy_twice _ c.requires.shape _ (rw c.number-p.ensures.value c.number-p.ensures.some) _ _ d.greedy _ (is_end c);
      few = omega (arith, d.greedy.whole, c.requires.shape.not_many);
    })
