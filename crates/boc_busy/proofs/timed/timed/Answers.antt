use Rattle.std.proofs.Common.{◌≡◌, ◌+◌, ◌/◌, ℕ, true, false, true≢false, refl, sym, ap, ◌∙◌, arith}
use Rattle.boc_plans.specs.Plans.{work_of, HasEnds, IsEnd, Keeps}
use Rattle.boc_plans.specs.Greedy.{IsBound, IsSpan}
use Rattle.boc_greedy.proofs.Bound.{greatest_is_end}
use Rattle.boc_busy.proofs.Lasting.{bound_low, span_first, timed_ends}
use Rattle.boc_busy.proofs.timed.timed.Goals as goal

pub overflow_add-bound : goal.overflow_add-bound
overflow_add-bound c =
    let rows = c.args.rows.now in
    let starts = c.args.starts.items in
    let last = c.last_end-ends_at.result in
    let end : IsEnd rows starts last = greatest_is_end rows starts c.in_ok-ends.ends.items last (rw c.deref.ensures.value at c.in_ok-ends.ensures)
    (rw c.deref-7.ensures.value at c.last_end-ends_at.ensures.none_later) (rw c.deref-7.ensures.value at c.last_end-ends_at.ensures.reached) in
    let keep : c.all_keep.result ≡ true = cc in
    let keeps : Keeps rows starts = rw c.deref-2.ensures.value at c.all_keep.ensures.0 keep in
    let is_span : IsSpan rows c.span.result = c.span.ensures rows c.requires.shape c.in_ok-waits.ensures.placed in
    omega (
      arith,
      bound_low rows starts last end c.requires.shape keeps.whole c.requires.low c.from.result c.args.work c.span.result c.requires.work
          (span_first rows starts last end keeps c.span.result is_span),
    )

pub returns-then-not-is_in_time-clause-untimed : goal.returns-then-not-is_in_time-clause-untimed
returns-then-not-is_in_time-clause-untimed c = λ _ t are.
    let rows = c.args.rows.now in
    let starts = c.args.starts.items in
    let last = c.last_end-ends_at.result in
    let end : IsEnd rows starts last = greatest_is_end rows starts c.in_ok-ends.ends.items last (rw c.deref.ensures.value at c.in_ok-ends.ensures)
    (rw c.deref-7.ensures.value at c.last_end-ends_at.ensures.none_later) (rw c.deref-7.ensures.value at c.last_end-ends_at.ensures.reached) in
    let bound : ℕ = c.args.work / c.from.result + c.span.result in
    let is_bound : IsBound rows c.args.p bound = record {
      span = c.span.result;
      is_span = c.span.ensures rows c.requires.shape c.in_ok-waits.ensures.placed;
      is = ap (λ (x : ℕ). x / c.from.result + c.span.result) c.requires.work ∙ ap (λ (x : ℕ). work_of rows / x + c.span.result) c.from.ensures;
    } in
    let yes : c.is_in_time.result ≡ true =
    c.is_in_time.ensures.1 (timed_ends rows starts last end c.args.p c.args.work bound c.args.workers.items c.requires.work is_bound t are) in
    let no : c.is_in_time.result ≡ false = cc in
    true≢false (sym yes ∙ no)

pub returns-clause-timed : goal.returns-clause-timed
returns-clause-timed c =
    let rows = c.args.rows.now in
    let starts = c.args.starts.items in
    let last = c.last_end-ends_at.result in
    let ends : HasEnds rows starts c.in_ok-ends.ends.items = rw c.deref.ensures.value at c.in_ok-ends.ensures in
    let end : IsEnd rows starts last = greatest_is_end rows starts c.in_ok-ends.ends.items last ends
    (rw c.deref-7.ensures.value at c.last_end-ends_at.ensures.none_later) (rw c.deref-7.ensures.value at c.last_end-ends_at.ensures.reached) in
    let keep : c.all_keep.result ≡ true = cc in
    let keeps : Keeps rows starts = rw c.deref-2.ensures.value at c.all_keep.ensures.0 keep in
    let fit : c.in_ok-are_for_workers.field-0 ≡ true = cc in
    let in_time : c.is_in_time.result ≡ true = cc in
    let own = c.is_in_time.ensures.0 in_time in
    record {
      p_is = refl;
      starts_are = refl;
      workers_are = refl;
      keeps = keeps;
      for_workers = rw (c.deref-4.ensures.value, c.deref-6.ensures.value) at c.in_ok-are_for_workers.ensures.0 fit;
      ends_are = ends;
      last_is = end;
      bound_is = record {
        span = c.span.result;
        is_span = c.span.ensures rows c.requires.shape c.in_ok-waits.ensures.placed;
        is = ap (λ (x : ℕ). x / c.from.result + c.span.result) c.requires.work ∙ ap (λ (x : ℕ). work_of rows / x + c.span.result) c.from.ensures;
      };
      late = span_first rows starts last end keeps;
      in_time = record { within = own.within; alone = λ e. own.alone e ∙ c.requires.work };
    }
