-- Rows of which one is spawned at another tick: the order stays, and all links but the row's spawn, so the cut before the row's start has the span.
use Rattle.std.proofs.Common.{◌≡◌, ◌≢◌, ℕ, ◌+◌, ◌-◌, ◌*◌, ◌<◌, ◌≤◌, ◌⊎◌, List, length, Option, inl, inr, refl, ap, sym, ◌∙◌, subst, arith}
use Rattle.std.specs.Prelude.{slice_index}
use Rattle.std.proofs.lemmas.Bool.{cases_eq}
use Rattle.boc_runs.specs.declared.rows.Row.{Row}
use Rattle.boc_runs.specs.Rows.{IsRows, parent_of, offset_of, ticks_of, cowns_of, written_of}
use Rattle.boc_runs.specs.Changes.{FitsAt, moved}
use Rattle.boc_runs.proofs.Moving.{length-moved, parent_of-moved, ticks_of-moved, cowns_of-moved, written_of-moved}
use Rattle.boc_runs.proofs.Moving.{offset_of-moved_other, offset_of-moved_same, rows_moved}
use Rattle.boc_plans.specs.Plans.{start_of, end_of, IsChild, IsEnd, Ordered}
use Rattle.boc_plans.specs.Greedy.{IsSpan}
use Rattle.boc_order.specs.Placed.{ArePlaced}
use Rattle.boc_order.specs.Waits.{Covers, IsNear, HasWaits}
use Rattle.boc_sweep.specs.declared.sweeping.Cut.TheVariants.{Before}
use Rattle.boc_sweep.specs.Ways.{ChangesAt, IsHeaviest}
use Rattle.boc_sweep.specs.Links.{Node, start, stop, finish, number_of, Links, tick_of}
use Rattle.boc_sweep.specs.Cuts.{HasTails, tail_of, Crosses}
use Rattle.boc_sweep.specs.Spawns.{IsReadyAt}
use Rattle.boc_sweep.proofs.Nearest.{near_covers}
use Rattle.boc_sweep.proofs.RowLinks.{heaviest_is_span, same_over_cut}

-- rows with the same cowns are in the same order
ordered_same : (rows other : List Row) → ((r : ℕ) → cowns_of other r ≡ cowns_of rows r) → ((r : ℕ) → written_of other r ≡ written_of rows r) →
    (a b : ℕ) → Ordered rows a b → Ordered other a b
ordered_same rows other cowns written a b o =
    let c = o.shared.1 in
    record {
      before = o.before;
      shared = (o.shared.0, record { first = rw (cowns a) c.first; second = rw (cowns b) c.second; wrote = rw (written a, written b) c.wrote });
    }

covers_moved : (rows : List Row) (Waits : ℕ → ℕ → Type 0) (row offset : ℕ) → Covers rows Waits → Covers (moved rows row offset) Waits
covers_moved rows Waits row offset c = record {
  there = λ a b w. omega (arith, c.there a b w, length-moved rows row offset);
  sound = λ a b w. to a b (c.sound a b w);
  complete = λ a b there o. elim (c.complete a b (omega (arith, there, length-moved rows row offset)) (back a b o)) [
    | inl w ↦ inl w
    | inr (k, p, q) ↦ inr (k, to a k p, to k b q)
  ];
}
  where
    to : (a b : ℕ) → Ordered rows a b → Ordered (moved rows row offset) a b
    to = ordered_same rows (moved rows row offset) (cowns_of-moved rows row offset) (written_of-moved rows row offset)

    back : (a b : ℕ) → Ordered (moved rows row offset) a b → Ordered rows a b
    back = ordered_same (moved rows row offset) rows (λ r. sym (cowns_of-moved rows row offset r)) (λ r. sym (written_of-moved rows row offset r))

-- all links but the spawn of one row stay
module _ (rows other : List Row) (Waits : ℕ → ℕ → Type 0) (row : ℕ) (len : length other ≡ length rows)
    (parents : (r : ℕ) → parent_of other r ≡ parent_of rows r) (ticks : (r : ℕ) → ticks_of other r ≡ ticks_of rows r)
    (offsets : (r : ℕ) → r ≢ row → offset_of other r ≡ offset_of rows r) (before : (a : ℕ) → IsChild rows a row → a < row) where
  links_kept : (count : ℕ) (x y : Node) (w : ℕ) → (number_of count y ≤ 2 * row - 1) ⊎ (2 * row - 1 < number_of count x) → Links rows Waits x y w
      → Links other Waits x y w
  links_kept count (start a) (start b) w k l = (
    record { not_main = l.0.not_main; there = omega (arith, l.0.there, len); parent = parents b ∙ l.0.parent },
    l.1 ∙ sym (offsets b beside),
  )
    where
      beside : b ≢ row
      beside e = elim k [
        | inl h ↦ omega (arith, h, e, l.0.not_main)
        | inr h ↦ omega (arith, h, before a (subst (λ (x : ℕ). IsChild rows a x) e l.0))
      ]
  links_kept count (start a) (stop b) w k l = (omega (arith, l.0, len), l.1, l.2 ∙ sym (ticks a))
  links_kept count (start a) finish w k l = absurd l
  links_kept count (stop a) (start b) w k l = l
  links_kept count (stop a) (stop b) w k l = absurd l
  links_kept count (stop a) finish w k l = (omega (arith, l.0, len), l.1)
  links_kept count finish y w k l = absurd l

module _ (rows : List Row) (hr : IsRows rows) (Waits : ℕ → ℕ → Type 0) (row offset : ℕ) (there : row < length rows) where
  len : length (moved rows row offset) ≡ length rows
  len = length-moved rows row offset

  before : (a : ℕ) → IsChild rows a row → a < row
  before a child = omega (arith, hr.parent_before row child.not_main there, child.parent)

  before' : (a : ℕ) → IsChild (moved rows row offset) a row → a < row
  before' a child = omega (arith, hr.parent_before row child.not_main there, child.parent, parent_of-moved rows row offset row)

  to : (x y : Node) (w : ℕ) → (number_of (length rows) y ≤ 2 * row - 1) ⊎ (2 * row - 1 < number_of (length rows) x) → Links rows Waits x y w
      → Links (moved rows row offset) Waits x y w
  to = links_kept rows (moved rows row offset) Waits row len (parent_of-moved rows row offset) (ticks_of-moved rows row offset)
      (offset_of-moved_other rows row offset) before (length rows)

  back : (x y : Node) (w : ℕ) → (number_of (length rows) y ≤ 2 * row - 1) ⊎ (2 * row - 1 < number_of (length rows) x)
      → Links (moved rows row offset) Waits x y w → Links rows Waits x y w
  back = links_kept (moved rows row offset) rows Waits row (sym len) (λ r. sym (parent_of-moved rows row offset r))
      (λ r. sym (ticks_of-moved rows row offset r)) (λ r ne. sym (offset_of-moved_other rows row offset r ne)) before' (length rows)

  links_change : ChangesAt (number_of (length rows)) (Links rows Waits) (Links (moved rows row offset) Waits) (2 * row - 1)
  links_change = record {
    to_low = λ x y w k l. to x y w (inl k) l;
    from_low = λ x y w k l. back x y w (inl k) l;
    to_high = λ x y w k l. to x y w (inr k) l;
    from_high = λ x y w k l. back x y w (inr k) l;
  }

-- what the sweep finds at a row is the span
module _ (rows : List Row) (hr : IsRows rows) (starts ends : List ℕ) (after : List (Option ℕ)) (from_starts from_ends : List ℕ)
    (placed : ArePlaced rows starts ends after (length rows)) (last : ℕ) (ended : IsEnd rows starts last) (has_tails : HasTails rows from_starts from_ends)
    (row offset : ℕ) (f : FitsAt rows row offset) (waits : List ℕ) (has_waits : HasWaits rows row waits) (ready : ℕ)
    (is_ready : IsReadyAt (start_of starts (parent_of rows row) + offset) waits ends ready) (most : ℕ) where
  len' : length (moved rows row offset) ≡ length rows
  len' = length-moved rows row offset

  over : (a : ℕ) → IsNear rows a row → slice_index ends a ≡ end_of rows starts a
  over a near = (placed.placed a (omega (arith, near.near.before, f.there))).ends_then

  -- the row is ready no earlier than a row that it waits for is over
  after_wait : (a : ℕ) → IsNear rows a row → end_of rows starts a ≤ ready
  after_wait a near = omega (arith, over a near, is_ready.after_waits a (has_waits.complete a near))

  beside : (a b : ℕ) → b ≢ row → IsChild (moved rows row offset) a b → IsChild rows a b
  beside a b ne child = record {
    not_main = child.not_main;
    there = omega (arith, child.there, len');
    parent = sym (parent_of-moved rows row offset b) ∙ child.parent;
  }

  all_links : ((w : ℕ) → Crosses Before rows starts from_starts row w → w ≤ most) → ready + slice_index from_starts row ≤ most →
      (x y : Node) (w : ℕ) → number_of (length rows) x ≤ 2 * row - 1 → 2 * row - 1 < number_of (length rows) y →
      Links (moved rows row offset) (IsNear rows) x y w → tick_of rows starts last x + w + tail_of from_starts from_ends y ≤ most
  all_links cross own (start a) (start b) w low high l = elim (cases_eq b row) [
    | inl e ↦ (
        let is_a : a ≡ parent_of rows row = sym l.0.parent ∙ parent_of-moved rows row offset b ∙ ap (parent_of rows) e in
        let is_w : w ≡ offset = l.1 ∙ ap (offset_of (moved rows row offset)) e ∙ offset_of-moved_same rows row offset f.there in
        rw (is_a, is_w, e) (omega (arith, own, is_ready.after_spawn)))
    | inr ne ↦ cross (start_of starts a + w + slice_index from_starts b) (inl (
      a,
      b,
      omega (arith, low, f.child),
      omega (arith, high, ne),
      beside a b ne l.0,
      omega (arith, l.1, offset_of-moved_other rows row offset b ne),
    ))
  ]
  all_links cross own (start a) (stop b) w low high l = absurd (omega (arith, low, high, l.1, f.child))
  all_links cross own (start a) finish w low high l = absurd l
  all_links cross own (stop a) (start b) w low high l = elim (cases_eq b row) [
    | inl e ↦ (
        let near : IsNear rows a row = subst (λ (x : ℕ). IsNear rows a x) e l.0 in
        rw (l.1, e) (omega (arith, own, after_wait a near)))
    | inr ne ↦ cross (end_of rows starts a + w + slice_index from_starts b)
        (inr (inl (a, b, omega (arith, low, f.child), omega (arith, high, ne), l.0, omega (arith, l.1))))
  ]
  all_links cross own (stop a) (stop b) w low high l = absurd l
  all_links cross own (stop a) finish w low high l = cross (end_of rows starts a + w + 0) (inr (inr (a, omega (arith, low, f.child), omega (arith, l.1))))
  all_links cross own finish y w low high l = absurd l

  abbrev Found : Type 0
  Found = (x : Node) × (y : Node) × (w : ℕ) × (number_of (length rows) x ≤ 2 * row - 1) × (2 * row - 1 < number_of (length rows) y) ×
      Links (moved rows row offset) (IsNear rows) x y w × (tick_of rows starts last x + w + tail_of from_starts from_ends y ≡ most)

  child_still : (a b : ℕ) → IsChild rows a b → IsChild (moved rows row offset) a b
  child_still a b child = record {
    not_main = child.not_main;
    there = omega (arith, child.there, len');
    parent = parent_of-moved rows row offset b ∙ child.parent;
  }

  -- by the row's new spawn, or by one of its waits
  found_own : ready + slice_index from_starts row ≡ most → Found
  found_own e = elim is_ready.reached [
    | inl spawned ↦ (
      start (parent_of rows row),
      start row,
      offset,
      omega (arith, hr.parent_before row f.child f.there),
      omega (arith, f.child),
      (
        child_still (parent_of rows row) row (record { not_main = f.child; there = f.there; parent = refl }),
        sym (offset_of-moved_same rows row offset f.there),
      ),
      omega (arith, e, spawned),
    )
    | inr (a, k, is) ↦ (
        let near : IsNear rows a row = has_waits.sound a k in (
          stop a,
          start row,
          0,
          omega (arith, near.near.before),
          omega (arith, f.child),
          (near, refl),
          omega (arith, e, is, over a near),
        ))
  ]

  found_other : Crosses Before rows starts from_starts row most → Found
  found_other (inl (a, b, low, high, child, e)) = (
    start a,
    start b,
    offset_of rows b,
    omega (arith, low),
    omega (arith, high),
    (child_still a b child, sym (offset_of-moved_other rows row offset b (λ q. omega (arith, q, high)))),
    e,
  )
  found_other (inr (inl (a, b, low, high, near, e))) = (stop a, start b, 0, omega (arith, low), omega (arith, high), (near, refl), omega (arith, e))
  found_other (inr (inr (a, low, e))) = (
    stop a,
    finish,
    0,
    omega (arith, low),
    omega (arith, f.there),
    (omega (arith, low, f.there, len'), refl),
    omega (arith, e),
  )

  found : (ready + slice_index from_starts row ≡ most) ⊎ Crosses Before rows starts from_starts row most → Found
  found (inl own) = found_own own
  found (inr other) = found_other other

  pub early_is_span : ((w : ℕ) → Crosses Before rows starts from_starts row w → w ≤ most) → ready + slice_index from_starts row ≤ most →
      (ready + slice_index from_starts row ≡ most) ⊎ Crosses Before rows starts from_starts row most → IsSpan (moved rows row offset) most
  early_is_span cross own reached =
      heaviest_is_span rows hr (IsNear rows) starts ends after last (tail_of from_starts from_ends)
      (record { covers = near_covers rows; placed = placed; ended = ended; tails = has_tails.tails }) (moved rows row offset) (rows_moved rows hr row offset f)
      (covers_moved rows (IsNear rows) row offset (near_covers rows)) len' (2 * row - 1) (omega (arith, f.there))
      (links_change rows hr (IsNear rows) row offset f.there) most
      (record { none_heavier = all_links cross own; reached = found reached })

  -- with nothing changed, the span is the heaviest way over the cut before the row's start
  heaviest : IsHeaviest (number_of (length rows)) (Links rows (IsNear rows)) (tick_of rows starts last) (tail_of from_starts from_ends) (2 * row - 1) last
  heaviest = same_over_cut rows hr (IsNear rows) starts ends after last (tail_of from_starts from_ends)
      (record { covers = near_covers rows; placed = placed; ended = ended; tails = has_tails.tails }) (2 * row - 1) (omega (arith, f.there))

  crosses_low : (w : ℕ) → Crosses Before rows starts from_starts row w → w ≤ last
  crosses_low w (inl (a, b, low, high, child, e)) =
      omega (arith, e, heaviest.none_heavier (start a) (start b) (offset_of rows b) (omega (arith, low)) (omega (arith, high)) (child, refl))
  crosses_low w (inr (inl (a, b, low, high, near, e))) =
      omega (arith, e, heaviest.none_heavier (stop a) (start b) 0 (omega (arith, low)) (omega (arith, high)) (near, refl))
  crosses_low w (inr (inr (a, low, e))) =
      omega (arith, e, heaviest.none_heavier (stop a) finish 0 (omega (arith, low)) (omega (arith, f.there)) (omega (arith, low, f.there), refl))

  spawn_low : start_of starts (parent_of rows row) + offset_of rows row + slice_index from_starts row ≤ last
  spawn_low = heaviest.none_heavier (start (parent_of rows row)) (start row) (offset_of rows row) (omega (arith, hr.parent_before row f.child f.there))
      (omega (arith, f.child)) (record { not_main = f.child; there = f.there; parent = refl }, refl)

  wait_low : (a : ℕ) → IsNear rows a row → end_of rows starts a + slice_index from_starts row ≤ last
  wait_low a near = omega (arith, heaviest.none_heavier (stop a) (start row) 0 (omega (arith, near.near.before)) (omega (arith, f.child)) (near, refl))

  ready_low : offset ≤ offset_of rows row → ready + slice_index from_starts row ≤ last
  ready_low falls = elim is_ready.reached [
    | inl e ↦ omega (arith, e, falls, spawn_low)
    | inr (a, k, e) ↦ (let near = has_waits.sound a k in omega (arith, e, over a near, wait_low a near))
  ]

  abbrev Heaviest : Type 0
  Heaviest = (start_of starts (parent_of rows row) + offset_of rows row + slice_index from_starts row ≡ last)
      ⊎ ((last ≤ ready + slice_index from_starts row) ⊎ Crosses Before rows starts from_starts row last)

  own_or_cross : (x y : Node) (w : ℕ) → number_of (length rows) x ≤ 2 * row - 1 → 2 * row - 1 < number_of (length rows) y → Links rows (IsNear rows) x y w
      → tick_of rows starts last x + w + tail_of from_starts from_ends y ≡ last → Heaviest
  own_or_cross (start a) (start b) w low high l e = elim (cases_eq b row) [
    | inl q ↦ (
        let is_a : a ≡ parent_of rows row = sym l.0.parent ∙ ap (parent_of rows) q in
        let is_w : w ≡ offset_of rows row = l.1 ∙ ap (offset_of rows) q in
        inl (rw (is_a, is_w, q) at e))
    | inr ne ↦ inr (inr (inl (a, b, omega (arith, low, f.child), omega (arith, high, ne), l.0, omega (arith, l.1, e))))
  ]
  own_or_cross (start a) (stop b) w low high l e = absurd (omega (arith, low, high, l.1, f.child))
  own_or_cross (start a) finish w low high l e = absurd l
  own_or_cross (stop a) (start b) w low high l e = elim (cases_eq b row) [
    | inl q ↦ (
        let near : IsNear rows a row = subst (λ (x : ℕ). IsNear rows a x) q l.0 in
        inr (inl (omega (arith, e, l.1, ap (slice_index from_starts) q, after_wait a near))))
    | inr ne ↦ inr (inr (inr (inl (a, b, omega (arith, low, f.child), omega (arith, high, ne), l.0, omega (arith, l.1, e)))))
  ]
  own_or_cross (stop a) (stop b) w low high l e = absurd l
  own_or_cross (stop a) finish w low high l e = inr (inr (inr (inr (a, omega (arith, low, f.child), omega (arith, l.1, e)))))
  own_or_cross finish y w low high l e = absurd l

  -- the span stays where the row can be spawned no earlier, or no heaviest way leads over its spawn
  module _ (is_last : most ≡ last) where
    pub early_same : offset ≤ offset_of rows row
        → (offset_of rows row ≤ offset) ⊎ (start_of starts (parent_of rows row) + offset_of rows row + slice_index from_starts row < last)
        → IsSpan (moved rows row offset) most
    early_same falls left =
        let h = heaviest.reached in
        let reached : (ready + slice_index from_starts row ≡ most) ⊎ Crosses Before rows starts from_starts row most =
        elim (own_or_cross h.0 h.1 h.2 h.3 h.4 h.5 h.6) [
          | inl spawn ↦ elim left [
            | inl none ↦ inl (omega (arith, spawn, none, is_last, is_ready.after_spawn, ready_low falls))
            | inr less ↦ absurd (omega (arith, spawn, less))
          ]
          | inr (inl own) ↦ inl (omega (arith, own, is_last, ready_low falls))
          | inr (inr other) ↦ inr (subst (λ (w : ℕ). Crosses Before rows starts from_starts row w) (sym is_last) other)
        ] in
        early_is_span (λ w k. omega (arith, is_last, crosses_low w k)) (omega (arith, is_last, ready_low falls)) reached
