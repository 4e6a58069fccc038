-- The next children, found from the last row to the first.
use Rattle.std.proofs.Common.{◌≡◌, ◌≢◌, ℕ, ◌+◌, ◌<◌, ◌≤◌, List, length, refl, sym, ap, subst, inl, inr, arith}
use Rattle.std.specs.Prelude.{slice_index}
use Rattle.std.proofs.lemmas.Bool.{cases_eq}
use Rattle.boc_runs.specs.declared.rows.Row.{Row}
use Rattle.boc_runs.specs.Rows.{IsRows, parent_of, offset_of}
use Rattle.boc_plans.specs.Plans.{IsChild}
use Rattle.boc_greedy.specs.Families.{IsNextChild, IsTimed, AreTimed}
use Rattle.boc_greedy.proofs.Puts.{Puts}
use Rattle.boc_greedy.proofs.Timing.{timed_after}

-- the children from a row on are found
pub record Found (rows : List Row) (first times next next_times : List ℕ) (from : ℕ) : Type 0 where
  pub first_whole : length first ≡ length rows
  pub next_whole : length next ≡ length rows
  pub some : 0 < from
  pub within : from ≤ length rows
  pub first_child : (a : ℕ) → a < length rows → IsNextChild rows a from (slice_index first a)
  pub next_child : (b : ℕ) → from ≤ b → b < length rows → IsNextChild rows (parent_of rows b) (b + 1) (slice_index next b)
  pub are_timed : AreTimed rows first times
  pub next_timed : (b : ℕ) → from ≤ b → b < length rows → IsTimed rows (parent_of rows b) (slice_index next b) (slice_index next_times b)

module _ (rows : List Row) (hr : IsRows rows) (first times next next_times first' times' next' next_times' : List ℕ) (from row parent : ℕ)
    (f : Found rows first times next next_times from) (row_is : row + 1 ≡ from) (pos : 0 < row) (parent_is : parent_of rows row ≡ parent)
    (pf : Puts first first' parent row) (pt : Puts times times' parent (offset_of rows row))
    (pn : Puts next next' row (slice_index first parent)) (pnt : Puts next_times next_times' row (slice_index times parent)) where
  there : row < length rows
  there = omega (arith, row_is, f.within)

  is_child : IsChild rows parent row
  is_child = record { not_main = pos; there = there; parent = parent_is }

  own : IsNextChild rows parent row row
  own = record { above = omega arith; below = omega (arith, there); child = λ l. is_child; none_between = λ c ge lt d. omega (arith, ge, lt) }

  other : (a : ℕ) → a ≢ parent → (b : ℕ) → IsNextChild rows a from b → IsNextChild rows a row b
  other a ne b n = record {
    above = omega (arith, n.above, row_is);
    below = n.below;
    child = n.child;
    none_between = λ c ge lt d. elim (cases_eq c row) [
      | inl e ↦ ne (let s : parent_of rows c ≡ parent_of rows row = ap (parent_of rows) e in omega (arith, s, d.parent, parent_is))
      | inr nc ↦ n.none_between c (omega (arith, ge, nc, row_is)) lt d
    ];
  }

  parent_there : parent < length rows
  parent_there = omega (arith, parent_is, hr.parent_before row pos there, there)

  pub found_more : Found rows first' times' next' next_times' row
  found_more = record {
    first_whole = omega (arith, pf.whole, f.first_whole);
    next_whole = omega (arith, pn.whole, f.next_whole);
    some = pos;
    within = omega (arith, there);
    first_child = λ a h. elim (cases_eq a parent) [
      | inl e ↦ subst (λ (x : ℕ). IsNextChild rows x row (slice_index first' x)) (sym e) (rw pf.at own)
      | inr ne ↦ rw (pf.others a ne) (other a ne (slice_index first a) (f.first_child a h))
    ];
    next_child = λ b ge h. elim (cases_eq b row) [
      | inl e ↦ subst (λ (x : ℕ). IsNextChild rows (parent_of rows x) (x + 1) (slice_index next' x)) (sym e)
          (rw (pn.at, parent_is, row_is) (f.first_child parent parent_there))
      | inr ne ↦ rw (pn.others b ne) (f.next_child b (omega (arith, ge, ne, row_is)) h)
    ];
    are_timed = timed_after rows first first' times times' parent row (offset_of rows row) f.are_timed pf pt
        (record { spawns = λ l. refl; ends = λ ge. absurd (omega (arith, ge, there)) });
    next_timed = λ b ge h. elim (cases_eq b row) [
      | inl e ↦ subst (λ (x : ℕ). IsTimed rows (parent_of rows x) (slice_index next' x) (slice_index next_times' x)) (sym e)
          (rw (pn.at, pnt.at, parent_is) (f.are_timed parent parent_there))
      | inr ne ↦ rw (pn.others b ne, pnt.others b ne) (f.next_timed b (omega (arith, ge, ne, row_is)) h)
    ];
  }
