-- What follows the spawns of children, where one row takes other ticks.
use Rattle.std.proofs.Common.{◌≡◌, ◌≢◌, ℕ, ◌+◌, ◌<◌, ◌≤◌, List, length, sym, ◌∙◌, inl, inr, arith}
use Rattle.std.specs.Prelude.{slice_index, slice_set}
use Rattle.std.proofs.lemmas.Bool.{cases_eq, cases_lt}
use Rattle.std.proofs.lemmas.List.{length-map}
use Rattle.boc_runs.specs.declared.rows.Row.{Row}
use Rattle.boc_runs.specs.Rows.{parent_of, edited}
use Rattle.boc_runs.proofs.Editing.{length-edited, parent_of-edited}
use Rattle.boc_plans.specs.Plans.{IsChild}
use Rattle.boc_greedy.specs.declared.children.Change.{Change}
use Rattle.boc_greedy.specs.Families.{IsNextChild, IsTimed, AreNext, children_of, times_of}
use Rattle.boc_greedy.proofs.Copying.{timed_other, timed_spawning, timed_ending}
use Rattle.boc_greedy.proofs.Puts.{Puts}
use Rattle.boc_greedy.proofs.Timing.{puts_child, puts_time}

module _ (rows : List Row) (row ticks : ℕ) where
  child_there : (a b : ℕ) → IsChild rows a b → IsChild (edited rows row ticks) a b
  child_there a b c =
      record { not_main = c.not_main; there = omega (arith, c.there, length-edited rows row ticks); parent = parent_of-edited rows row ticks b ∙ c.parent }

  child_back : (a b : ℕ) → IsChild (edited rows row ticks) a b → IsChild rows a b
  child_back a b c = record {
    not_main = c.not_main;
    there = omega (arith, c.there, length-edited rows row ticks);
    parent = sym (parent_of-edited rows row ticks b) ∙ c.parent;
  }

  -- the next child stays the same
  next_stays : (a from b : ℕ) → IsNextChild rows a from b → IsNextChild (edited rows row ticks) a from b
  next_stays a from b n = record {
    above = n.above;
    below = omega (arith, n.below, length-edited rows row ticks);
    child = λ l. child_there a b (n.child (omega (arith, l, length-edited rows row ticks)));
    none_between = λ c ge lt d. n.none_between c ge lt (child_back a c d);
  }

  module _ (xs : List Change) (are : AreNext rows (children_of xs) (times_of xs)) where
    -- a row without children has no part in it
    pub next_still : (first : ℕ) → IsNextChild rows row 1 first → length rows ≤ first → AreNext (edited rows row ticks) (children_of xs) (times_of xs)
    next_still first n none = record {
      whole = are.whole ∙ sym (length-edited rows row ticks);
      child = λ b pos h. rw (parent_of-edited rows row ticks b) (next_stays _ _ _ (are.child b pos (omega (arith, h, length-edited rows row ticks))));
      timed = λ b pos h. rw (parent_of-edited rows row ticks b) (elim (cases_eq (parent_of rows b) row) [
        | inl e ↦ absurd (n.none_between b pos (omega (arith, none, h, length-edited rows row ticks))
            (record { not_main = pos; there = omega (arith, h, length-edited rows row ticks); parent = e }))
        | inr ne ↦ timed_other rows row ticks _ _ _ ne (are.timed b pos (omega (arith, h, length-edited rows row ticks)))
      ]);
    }

    -- behind its last child the row ends after its ticks
    module _ (last : ℕ) (own : IsChild rows row last) (none : length rows ≤ slice_index (children_of xs) last) (row_there : row < length rows)
        (y : Change) (y_is : y.child ≡ slice_index (children_of xs) last) (after : y.after ≡ ticks) where
      listed : last < length xs
      listed = omega (arith, own.there, simp length-map at are.whole)

      pf : Puts (children_of xs) (children_of (slice_set xs last y)) last y.child
      pf = puts_child xs last y listed

      pt : Puts (times_of xs) (times_of (slice_set xs last y)) last y.after
      pt = puts_time xs last y listed

      -- another child of the row has one behind it
      more : (b : ℕ) → b ≢ last → IsChild rows row b → slice_index (children_of xs) b < length rows
      more b ne c = elim (cases_lt (slice_index (children_of xs) b) (length rows)) [
        | inl l ↦ l
        | inr ge ↦ elim (cases_lt b last) [
          | inl before ↦ absurd ((are.child b c.not_main c.there).none_between last (omega (arith, before)) (omega (arith, ge, own.there))
              (rw c.parent own))
          | inr behind ↦ absurd ((are.child last own.not_main own.there).none_between b (omega (arith, behind, ne)) (omega (arith, none, c.there))
              (rw own.parent c))
        ]
      ]

      timed_now : (b : ℕ) → 0 < b → b < length rows → IsTimed (edited rows row ticks) (parent_of rows b) (slice_index (children_of (slice_set xs last y)) b)
          (slice_index (times_of (slice_set xs last y)) b)
      timed_now b pos h = elim (cases_eq b last) [
        | inl e ↦ rw (e, pf.at, pt.at, own.parent, after) (timed_ending rows row ticks y.child row_there (omega (arith, y_is, none)))
        | inr ne ↦ rw (pf.others b ne, pt.others b ne) (elim (cases_eq (parent_of rows b) row) [
          | inl e ↦ timed_spawning rows row ticks _ _ _ (more b ne (record { not_main = pos; there = h; parent = e })) (are.timed b pos h)
          | inr other ↦ timed_other rows row ticks _ _ _ other (are.timed b pos h)
        ])
      ]

      child_now : (b : ℕ) → 0 < b → b < length rows → IsNextChild rows (parent_of rows b) (b + 1) (slice_index (children_of (slice_set xs last y)) b)
      child_now b pos h = elim (cases_eq b last) [
        | inl e ↦ rw (e, pf.at, y_is) (are.child last own.not_main own.there)
        | inr ne ↦ rw (pf.others b ne) (are.child b pos h)
      ]

      pub next_anew : AreNext (edited rows row ticks) (children_of (slice_set xs last y)) (times_of (slice_set xs last y))
      next_anew = record {
        whole = omega (arith, pf.whole, are.whole, length-edited rows row ticks);
        child = λ b pos h. rw (parent_of-edited rows row ticks b) (next_stays _ _ _ (child_now b pos (omega (arith, h, length-edited rows row ticks))));
        timed = λ b pos h. rw (parent_of-edited rows row ticks b) (timed_now b pos (omega (arith, h, length-edited rows row ticks)));
      }
