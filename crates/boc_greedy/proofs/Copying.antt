-- What is the same in a copy, and the changes and the queue that are made for it.
use Rattle.std.proofs.Common.{◌≡◌, ◌≢◌, ℕ, ◌+◌, ◌<◌, ◌≤◌, List, [], ◌∷◌, length, get_or, sym, ◌∙◌, subst, inl, inr, arith}
use Rattle.std.specs.Prelude.{◌↔◌, slice_index, slice_set}
use Rattle.std.specs.List.Sorted.{IsPermutation}
use Rattle.std.specs.BinaryHeap.{IsHeap}
use Rattle.std.proofs.lemmas.Bool.{cases_eq}
use Rattle.boc_runs.specs.declared.rows.Row.{Row}
use Rattle.boc_runs.specs.Rows.{edited}
use Rattle.boc_runs.proofs.Editing.{length-edited, offset_of-edited, ticks_of-edited_same, ticks_of-edited_other}
use Rattle.boc_plans.specs.Plans.{start_of}
use Rattle.boc_greedy.specs.declared.children.Change.{Change}
use Rattle.boc_greedy.specs.declared.frontier.RowState.{RowState}
use Rattle.boc_greedy.specs.declared.frontier.RowState.TheVariants.{UnderWay}
use Rattle.boc_greedy.specs.declared.row_set.RowSet.{RowSet}
use Rattle.boc_greedy.specs.Courses.{HoldsChanges}
use Rattle.boc_greedy.specs.Families.{IsTimed, AreTimed, children_of, times_of}
use Rattle.boc_greedy.specs.Frontier.{IsKeptBut}
use Rattle.boc_greedy.specs.Queues.{Entry, entry_order, IsIn}
use Rattle.boc_greedy.specs.RowSets.{IsRowSet, Has}
use Rattle.boc_greedy.specs.RowStates.{IsAt}
use Rattle.boc_greedy.proofs.Puts.{Puts}
use Rattle.boc_greedy.proofs.Queued.{none_counts, Pushed, pushed}
use Rattle.boc_greedy.proofs.Queueing.{queued, queued_set, queued_only, queued_each}
use Rattle.boc_greedy.proofs.Timing.{child_at, time_at, puts_child, puts_time}

-- ---- the frontier

pub frontier_copied : (rows : List Row) (waits followers : List (List ℕ)) (states states' : List RowState) (unmet unmet' : List ℕ) (ready ready' : RowSet) →
    states' ≡ states → unmet' ≡ unmet → (IsRowSet ready → IsRowSet ready') → ((r : ℕ) → Has ready' r ↔ Has ready r) →
    IsKeptBut rows [] waits followers states unmet ready → IsKeptBut rows [] waits followers states' unmet' ready'
frontier_copied rows waits followers states states' unmet unmet' ready ready' same_states same_unmet set has k = rw (same_states, same_unmet) (record {
  in_turn = k.in_turn;
  are_waits = k.are_waits;
  are_followers = k.are_followers;
  are_counted = k.are_counted;
  are_ready = queued [] _ ready' (set (queued_set [] _ ready k.are_ready)) (λ r h. queued_only [] _ ready k.are_ready r ((has r).0 h))
      (λ r m. inl ((has r).1 ((queued_each _ ready k.are_ready r).1 m)));
})

-- ---- the changes

module _ (rows : List Row) (row ticks : ℕ) where
  pub timed_other : (a child after : ℕ) → a ≢ row → IsTimed rows a child after → IsTimed (edited rows row ticks) a child after
  timed_other a child after ne i = record {
    spawns = λ l. omega (arith, offset_of-edited rows row ticks child, i.spawns (omega (arith, l, length-edited rows row ticks)));
    ends = λ ge. omega (arith, ticks_of-edited_other rows row ticks a ne, i.ends (omega (arith, ge, length-edited rows row ticks)));
  }

  pub timed_spawning : (a child after : ℕ) → child < length rows → IsTimed rows a child after → IsTimed (edited rows row ticks) a child after
  timed_spawning a child after there i = record {
    spawns = λ l. omega (arith, offset_of-edited rows row ticks child, i.spawns there);
    ends = λ ge. absurd (omega (arith, ge, there, length-edited rows row ticks));
  }

  pub timed_ending : (child : ℕ) → row < length rows → length rows ≤ child → IsTimed (edited rows row ticks) row child ticks
  timed_ending child there none = record {
    spawns = λ l. absurd (omega (arith, l, none, length-edited rows row ticks));
    ends = λ ge. sym (ticks_of-edited_same rows row ticks there);
  }

  module _ (xs ys : List Change) (x : Change) (there : row < length rows) (h : row < length xs) (read : x ≡ get_or xs row x)
      (are : AreTimed rows (children_of xs) (times_of xs)) where
    was : IsTimed rows row x.child x.after
    was = rw (child_at xs row x h read, time_at xs row x h read) at (are row there)

    -- where a child is left, nothing changes
    pub timed_still : x.child < length rows → ys ≡ xs → AreTimed (edited rows row ticks) (children_of ys) (times_of ys)
    timed_still left is = rw is (λ a below. elim (cases_eq a row) [
      | inl e ↦ subst (λ (r : ℕ). IsTimed (edited rows row ticks) r (slice_index (children_of xs) r) (slice_index (times_of xs) r)) (sym e)
          (rw (child_at xs row x h read, time_at xs row x h read) (timed_spawning row x.child x.after left was))
      | inr ne ↦ timed_other a _ _ ne (are a (omega (arith, below, length-edited rows row ticks)))
    ])

    -- where none is left, the row ends after its ticks
    module _ (y : Change) (y_is : y.child ≡ x.child) (is : ys ≡ slice_set xs row y) where
      pf : Puts (children_of xs) (children_of (slice_set xs row y)) row y.child
      pf = puts_child xs row y h

      pt : Puts (times_of xs) (times_of (slice_set xs row y)) row y.after
      pt = puts_time xs row y h

      pub same_children : (a : ℕ) → slice_index (children_of ys) a ≡ slice_index (children_of xs) a
      same_children a = rw is (elim (cases_eq a row) [
        | inl e ↦ rw e (pf.at ∙ y_is ∙ sym (child_at xs row x h read))
        | inr ne ↦ pf.others a ne
      ])

      pub timed_anew : length rows ≤ x.child → y.after ≡ ticks → AreTimed (edited rows row ticks) (children_of ys) (times_of ys)
      timed_anew none after = rw is (λ a below. elim (cases_eq a row) [
        | inl e ↦ subst (λ (r : ℕ). IsTimed (edited rows row ticks) r (slice_index (children_of (slice_set xs row y)) r)
            (slice_index (times_of (slice_set xs row y)) r)) (sym e) (rw (pf.at, pt.at, y_is, after) (timed_ending x.child there none))
        | inr ne ↦ rw (pf.others a ne, pt.others a ne) (timed_other a _ _ ne (are a (omega (arith, below, length-edited rows row ticks))))
      ])

-- ---- the queue

module _ (n : ℕ) (states : List RowState) (starts times : List ℕ) (queue : List Entry) (holds : HoldsChanges n states starts times queue) where
  -- a row that is not under way has no change
  pub holds_same : (IsAt states n UnderWay → ⊥) → HoldsChanges (n + 1) states starts times queue
  holds_same out = record {
    is_queue = holds.is_queue;
    all = λ r lt e. elim (cases_eq r n) [
      | inl same ↦ absurd (out (subst (λ (x : ℕ). IsAt states x UnderWay) same e))
      | inr ne ↦ holds.all r (omega (arith, lt, ne)) e
    ];
    only = λ change r i. (let x = holds.only change r i in
        record { before = omega (arith, x.before); under_way = x.under_way; change_is = x.change_is });
  }

  -- one that is goes in
  module _ (more : List Entry) (tick : ℕ) (on : IsAt states n UnderWay) (tick_is : tick ≡ start_of starts n + slice_index times n)
      (heap : IsHeap entry_order more) (moved : IsPermutation (record { 0 = (tick, n) } ∷ queue) more) where
    none : (change q : ℕ) → IsIn queue change q → q ≢ n
    none change q i e = omega (arith, (holds.only change q i).before, e)

    pq : Pushed queue more tick n
    pq = pushed queue more tick n holds.is_queue.once (none_counts queue n none) heap moved

    pub holds_more : HoldsChanges (n + 1) states starts times more
    holds_more = record {
      is_queue = pq.is_queue;
      all = λ r lt e. elim (cases_eq r n) [
        | inl same ↦ rw same (subst (λ (x : ℕ). IsIn more x n) tick_is pq.here)
        | inr ne ↦ pq.stays _ r (holds.all r (omega (arith, lt, ne)) e)
      ];
      only = λ change r i. elim (pq.was change r i) [
        | inl e ↦ record { before = omega (arith, e.1); under_way = rw e.1 on; change_is = rw e.1 (e.0 ∙ tick_is) }
        | inr m ↦ (let x = holds.only change r m in
            record { before = omega (arith, x.before); under_way = x.under_way; change_is = x.change_is })
      ];
    }
