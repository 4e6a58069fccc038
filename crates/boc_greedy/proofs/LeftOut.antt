-- The families of rows of which a cown is left out.
use Rattle.std.proofs.Common.{ℕ, ◌+◌, List, sym, ◌∙◌, subst, arith}
use Rattle.std.specs.Prelude.{slice_index}
use Rattle.boc_runs.specs.declared.rows.Row.{Row}
use Rattle.boc_runs.specs.Rows.{parent_of}
use Rattle.boc_runs.specs.Changes.{without}
use Rattle.boc_runs.proofs.Freeing.{length-without, parent_of-without, offset_of-without, ticks_of-without}
use Rattle.boc_plans.specs.Plans.{IsChild}
use Rattle.boc_greedy.specs.Families.{IsNextChild, IsTimed, IsFamily}

module _ (cown : ℕ) (rows : List Row) where
  still_child : (a b : ℕ) → IsChild rows a b → IsChild (without cown rows) a b
  still_child a b c = record {
    not_main = c.not_main;
    there = omega (arith, c.there, length-without cown rows);
    parent = parent_of-without cown rows b ∙ c.parent;
  }

  was_child : (a b : ℕ) → IsChild (without cown rows) a b → IsChild rows a b
  was_child a b c = record {
    not_main = c.not_main;
    there = omega (arith, c.there, length-without cown rows);
    parent = sym (parent_of-without cown rows b) ∙ c.parent;
  }

  next_child : (a from b : ℕ) → IsNextChild rows a from b → IsNextChild (without cown rows) a from b
  next_child a from b n = record {
    above = n.above;
    below = omega (arith, n.below, length-without cown rows);
    child = λ h. still_child a b (n.child (omega (arith, h, length-without cown rows)));
    none_between = λ c low high is. n.none_between c low high (was_child a c is);
  }

  timed : (a child after : ℕ) → IsTimed rows a child after → IsTimed (without cown rows) a child after
  timed a child after t = record {
    spawns = λ h. t.spawns (omega (arith, h, length-without cown rows)) ∙ sym (offset_of-without cown rows child);
    ends = λ h. t.ends (omega (arith, h, length-without cown rows)) ∙ sym (ticks_of-without cown rows a);
  }

  pub family_without : (first first_times next next_times : List ℕ) → IsFamily rows first first_times next next_times
      → IsFamily (without cown rows) first first_times next next_times
  family_without first first_times next next_times f = record {
    whole = omega (arith, f.whole, length-without cown rows);
    child = λ a h. next_child a 1 (slice_index first a) (f.child a (omega (arith, h, length-without cown rows)));
    are_timed = λ a h. timed a (slice_index first a) (slice_index first_times a) (f.are_timed a (omega (arith, h, length-without cown rows)));
    are_next = record {
      whole = omega (arith, f.are_next.whole, length-without cown rows);
      child = λ b pos h. subst (λ (p : ℕ). IsNextChild (without cown rows) p (b + 1) (slice_index next b)) (sym (parent_of-without cown rows b))
          (next_child (parent_of rows b) (b + 1) (slice_index next b) (f.are_next.child b pos (omega (arith, h, length-without cown rows))));
      timed = λ b pos h. subst (λ (p : ℕ). IsTimed (without cown rows) p (slice_index next b) (slice_index next_times b)) (sym (parent_of-without cown rows b))
          (timed (parent_of rows b) (slice_index next b) (slice_index next_times b) (f.are_next.timed b pos (omega (arith, h, length-without cown rows))));
    };
  }
