-- The ends of greedy plans without some cowns, stretch by stretch.
use Rattle.std.proofs.Common.{◌≡◌, ℕ, ◌+◌, ◌-◌, ◌<◌, ◌≤◌, List, [], ◌++◌, length, subst, sym, inl, inr, arith, length-append}
use Rattle.std.specs.Prelude.{slice_index}
use Rattle.std.specs.List.{AllZip, range_with_len}
use Rattle.std.proofs.lemmas.Bool.{cases_lt}
use Rattle.std.proofs.lemmas.List.{get_or_append_left, get_or-append-add}
use Rattle.boc_runs.specs.declared.rows.Row.{Row}
use Rattle.boc_runs.specs.Changes.{without}
use Rattle.boc_plans.specs.Sweeps.{IsGreedyEnd, IsGreedyCownSweep}
use Rattle.boc_plans.proofs.Numbered.{range_long, range_at}
use Rattle.boc_whatif.specs.Freed.{AreEndsWithout}

-- before the first stretch
pub none_without : (rows : List Row) (p : ℕ) (ends : List ℕ) → ends ≡ [] → AreEndsWithout rows p 0 0 ends
none_without rows p ends e = rw e (record { whole = omega arith; at = λ place h. absurd (omega (arith, h)) })

-- ends, and those for the cowns behind theirs
pub both_without : (rows : List Row) (p a b c : ℕ) (xs ys : List ℕ) → AreEndsWithout rows p a b xs → AreEndsWithout rows p b c ys
    → AreEndsWithout rows p a c (xs ++ ys)
both_without rows p a b c xs ys first next = record {
  whole = omega (arith, length-append xs ys, first.whole, next.whole);
  at = λ place h. elim (cases_lt place (length xs)) [
    | inl lt ↦ subst (λ (end : ℕ). IsGreedyEnd (without (a + place) rows) p end) (sym (get_or_append_left xs ys 0 place lt)) (first.at place lt)
    | inr ge ↦ (
        let j : ℕ = place - length xs in
        let is : length xs + j ≡ place = omega (arith, ge) in
        let lt : j < length ys = omega (arith, h, length-append xs ys, ge) in
        let cown : b + j ≡ a + place = omega (arith, first.whole, ge) in
        let end_is : slice_index (xs ++ ys) (length xs + j) ≡ slice_index ys j = get_or-append-add xs ys j 0 in
        subst (λ (i : ℕ). IsGreedyEnd (without (a + place) rows) p (slice_index (xs ++ ys) i)) is
        (subst (λ (end : ℕ). IsGreedyEnd (without (a + place) rows) p end) (sym end_is)
        (subst (λ (c : ℕ). IsGreedyEnd (without c rows) p (slice_index ys j)) cown (next.at j lt))))
  ];
}

-- the ends for a stretch, from the numbers of its cowns
pub stretch_without : (rows : List Row) (p from to : ℕ) (ends : List ℕ) → from ≤ to
    → AllZip (λ (cown end : ℕ). IsGreedyEnd (without cown rows) p end) (range_with_len from (to - from)) ends → AreEndsWithout rows p from to ends
stretch_without rows p from to ends order z =
    let P = λ (cown end : ℕ). IsGreedyEnd (without cown rows) p end in
    let long : length ends ≡ to - from = range_long P from (to - from) ends z in
    record { whole = omega (arith, long, order); at = λ place h. range_at P 0 from (to - from) ends z place (omega (arith, h, long)) }

-- the ends for all cowns
pub all_without : (rows : List Row) (p to count : ℕ) (ends : List ℕ) → AreEndsWithout rows p 0 to ends → to ≡ count → IsGreedyCownSweep rows p count ends
all_without rows p to count ends are all = record {
  whole = omega (arith, are.whole, all);
  at = λ cown h. (
      let e : 0 + cown ≡ cown = omega arith in
      subst (λ (c : ℕ). IsGreedyEnd (without c rows) p (slice_index ends cown)) e (are.at cown (omega (arith, h, are.whole, all))));
}
