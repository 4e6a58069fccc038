-- The earliest plan as heads of the links between rows, and the cut of a row.
use Rattle.std.proofs.Common.{◌≡◌, ◌≢◌, ℕ, ◌+◌, ◌*◌, ◌<◌, ◌≤◌, ◌⊎◌, List, length, Option, Some, None, inl, inr, refl, ap, sym, ◌∙◌, subst, arith}
use Rattle.std.specs.Prelude.{slice_index_or, MatchOption}
use Rattle.std.proofs.lemmas.Bool.{cases_eq}
use Rattle.boc_runs.specs.declared.rows.Row.{Row}
use Rattle.boc_runs.specs.Rows.{IsRows, offset_of, ticks_of, edited, Fits}
use Rattle.boc_plans.specs.Plans.{start_of, IsChild, IsEnd}
use Rattle.boc_plans.specs.Chains.{IsSpawnTight, IsOrderTight}
use Rattle.boc_plans.specs.Greedy.{IsSpan}
use Rattle.boc_plans.proofs.EditedOrder.{ordered_edited, ordered_back}
use Rattle.boc_runs.proofs.Editing.{length-edited, parent_of-edited, offset_of-edited, ticks_of-edited_other, edited_back, rows_edited}
use Rattle.boc_order.specs.Placed.{ArePlaced}
use Rattle.boc_order.proofs.Chaining.{placed_earliest}
use Rattle.boc_sweep.specs.Ways.{AreHeads, ChangesAt, IsHeaviest}
use Rattle.boc_order.specs.Waits.{Covers}
use Rattle.boc_sweep.specs.Links.{Node, start, stop, finish, number_of, IsNode, Links, tick_of}
use Rattle.boc_sweep.specs.Cuts.{AreWays, IsMostAt}
use Rattle.boc_sweep.proofs.Cut.{cut_heaviest, tail_is_last, cut_same}
use Rattle.boc_sweep.proofs.Standing.{stands, has_end}

module _ (rows : List Row) (hr : IsRows rows) (Waits : ℕ → ℕ → Type 0) (covers : Covers rows Waits) where
  parent_first : (a b : ℕ) → IsChild rows a b → a < b
  parent_first a b child = omega (arith, hr.parent_before b child.not_main child.there, child.parent)

  pub links_rise : (x y : Node) (w : ℕ) → Links rows Waits x y w → number_of (length rows) x < number_of (length rows) y
  links_rise (start a) (start b) w l = omega (arith, parent_first a b l.0)
  links_rise (start a) (stop b) w l = omega (arith, l.1)
  links_rise (start a) finish w l = absurd l
  links_rise (stop a) (start b) w l = omega (arith, (covers.sound a b l.0).before)
  links_rise (stop a) (stop b) w l = absurd l
  links_rise (stop a) finish w l = omega (arith, l.0)
  links_rise finish y w l = absurd l

  pub links_inside : (x y : Node) (w : ℕ) → Links rows Waits x y w → IsNode (length rows) x × IsNode (length rows) y
  links_inside (start a) (start b) w l = (omega (arith, parent_first a b l.0, l.0.there), l.0.there)
  links_inside (start a) (stop b) w l = (l.0, omega (arith, l.0, l.1))
  links_inside (start a) finish w l = absurd l
  links_inside (stop a) (start b) w l = (omega (arith, (covers.sound a b l.0).before, covers.there a b l.0), covers.there a b l.0)
  links_inside (stop a) (stop b) w l = absurd l
  links_inside (stop a) finish w l = (l.0, tt)
  links_inside finish y w l = absurd l

  -- the earliest plan is the heads
  module _ (starts ends : List ℕ) (after : List (Option ℕ)) (placed : ArePlaced rows starts ends after (length rows)) (last : ℕ) (end : IsEnd rows starts last)
    where
      ticks_keep : (x y : Node) (w : ℕ) → Links rows Waits x y w → tick_of rows starts last x + w ≤ tick_of rows starts last y
      ticks_keep (start a) (start b) w l = omega (arith, (placed.placed b l.0.there).spawned a l.0, l.1)
      ticks_keep (start a) (stop b) w l = rw l.1 (omega (arith, l.2))
      ticks_keep (start a) finish w l = absurd l
      ticks_keep (stop a) (start b) w l = omega (arith, (placed.placed b (covers.there a b l.0)).in_order a (covers.sound a b l.0), l.1)
      ticks_keep (stop a) (stop b) w l = absurd l
      ticks_keep (stop a) finish w l = omega (arith, end.none_later a l.0, l.1)
      ticks_keep finish y w l = absurd l

      -- the row that a row waits for is one that it has a link from
      wait_is_link : (a b : ℕ) → b < length rows → IsOrderTight rows starts a b → Waits a b
      wait_is_link a b there t = elim (covers.complete a b there t.0) [
        | inl w ↦ w
        | inr (c, o, p) ↦ absurd (
            let c_there : c < length rows = omega (arith, p.before, there) in
            omega (arith, t.1, (placed.placed c c_there).in_order a o, (placed.placed b there).in_order c p, hr.ticks_low c c_there))
      ]

      tight_by : (b : ℕ) → b < length rows → (o : Option ℕ) → MatchOption o (IsSpawnTight rows starts b)
          (λ a. (IsSpawnTight rows starts b → ⊥) × IsOrderTight rows starts a b × ((other : ℕ) → IsOrderTight rows starts other b → a ≤ other)) →
          (x : Node) × (w : ℕ) × IsNode (length rows) x × Links rows Waits x (start b) w × (tick_of rows starts last x + w ≡ start_of starts b)
      tight_by b there None (a, child, e) = (start a, offset_of rows b, omega (arith, parent_first a b child, there), (child, refl), e)
      tight_by b there (Some a) t = (stop a, 0, omega (arith, t.1.0.before, there), (wait_is_link a b there t.1, refl), omega (arith, t.1.1))

      ticks_tight : (y : Node) → IsNode (length rows) y → (y ≡ start 0)
          ⊎ ((x : Node) × (w : ℕ) × IsNode (length rows) x × Links rows Waits x y w × (tick_of rows starts last x + w ≡ tick_of rows starts last y))
      ticks_tight (start b) there = elim (cases_eq b 0) [
        | inl e ↦ inl (ap start e)
        | inr ne ↦ inr (tight_by b there (slice_index_or after b None) ((placed.placed b there).tight (omega arith)))
      ]
      ticks_tight (stop b) there = inr (start b, ticks_of rows b, there, (there, refl, refl), refl)
      ticks_tight finish there = inr (stop end.reached.0, 0, end.reached.1, (end.reached.1, refl), omega (arith, end.reached.2))

      pub plan_is_heads : AreHeads (IsNode (length rows)) (Links rows Waits) (start 0) (tick_of rows starts last)
      plan_is_heads = record { at_source = (placed.placed 0 hr.not_empty).main refl; keeps = ticks_keep; tight = ticks_tight }

-- the order stays
covers_edited : (rows : List Row) (Waits : ℕ → ℕ → Type 0) (row ticks : ℕ) → Covers rows Waits → Covers (edited rows row ticks) Waits
covers_edited rows Waits row ticks c = record {
  there = λ a b w. omega (arith, c.there a b w, length-edited rows row ticks);
  sound = λ a b w. ordered_edited rows row ticks a b (c.sound a b w);
  complete = λ a b there o. elim (c.complete a b (omega (arith, there, length-edited rows row ticks)) (ordered_back rows row ticks a b o)) [
    | inl w ↦ inl w
    | inr (k, p, q) ↦ inr (k, ordered_edited rows row ticks a k p, ordered_edited rows row ticks k b q)
  ];
}

-- all links but the row's own stay
links_edited : (rows : List Row) (Waits : ℕ → ℕ → Type 0) (row ticks count : ℕ) (x y : Node) (w : ℕ)
    → (number_of count y ≤ 2 * row) ⊎ (2 * row < number_of count x) →
    Links rows Waits x y w → Links (edited rows row ticks) Waits x y w
links_edited rows Waits row ticks count (start a) (start b) w k l = (
  record {
    not_main = l.0.not_main;
    there = omega (arith, l.0.there, length-edited rows row ticks);
    parent = parent_of-edited rows row ticks b ∙ l.0.parent;
  },
  omega (arith, l.1, offset_of-edited rows row ticks b),
)
links_edited rows Waits row ticks count (start a) (stop b) w k l = (
  omega (arith, l.0, length-edited rows row ticks),
  l.1,
  (let other : a ≢ row = λ e. elim k [ inl h ↦ omega (arith, h, e, l.1) | inr h ↦ omega (arith, h, e) ] in
      l.2 ∙ sym (ticks_of-edited_other rows row ticks a other)),
)
links_edited rows Waits row ticks count (start a) finish w k l = absurd l
links_edited rows Waits row ticks count (stop a) (start b) w k l = l
links_edited rows Waits row ticks count (stop a) (stop b) w k l = absurd l
links_edited rows Waits row ticks count (stop a) finish w k l = (omega (arith, l.0, length-edited rows row ticks), l.1)
links_edited rows Waits row ticks count finish y w k l = absurd l

links_back : (rows : List Row) (Waits : ℕ → ℕ → Type 0) (row ticks count : ℕ) (x y : Node) (w : ℕ)
    → (number_of count y ≤ 2 * row) ⊎ (2 * row < number_of count x) →
    Links (edited rows row ticks) Waits x y w → Links rows Waits x y w
links_back rows Waits row ticks count x y w k l =
    subst (λ (xs : List Row). Links xs Waits x y w) (edited_back rows row ticks)
    (links_edited (edited rows row ticks) Waits row (ticks_of rows row) count x y w k l)

node_low : (count : ℕ) (x : Node) → IsNode count x → number_of count x ≤ 2 * count
node_low count (start r) i = omega (arith, i)
node_low count (stop r) i = omega (arith, i)
node_low count finish i = omega arith

-- THE SWEEP: where the links of other rows differ only in those that cross a cut, their span is the heaviest way over the cut
module _ (rows : List Row) (hr : IsRows rows) (Waits : ℕ → ℕ → Type 0) (starts ends : List ℕ) (after : List (Option ℕ)) (last : ℕ) (tail : Node → ℕ)
    (ways : AreWays rows Waits starts ends after last tail) (other : List Row) (hr' : IsRows other) (covers' : Covers other Waits)
    (same : length other ≡ length rows) (cut : ℕ) (within : cut < 2 * length rows)
    (change : ChangesAt (number_of (length rows)) (Links rows Waits) (Links other Waits) cut) where
  inside' : (x y : Node) (w : ℕ) → Links other Waits x y w → IsNode (length rows) x × IsNode (length rows) y
  inside' x y w l = rw same at (links_inside other hr' Waits covers' x y w l)

  rises' : (x y : Node) (w : ℕ) → Links other Waits x y w → number_of (length rows) x < number_of (length rows) y
  rises' x y w l = rw same at (links_rise other hr' Waits covers' x y w l)

  -- of any earliest plan of the other rows
  span_by : (starts' ends' : List ℕ) (after' : List (Option ℕ)) (last' : ℕ) → ArePlaced other starts' ends' after' (length other) →
      IsEnd other starts' last' → (most : ℕ) → IsHeaviest (number_of (length rows)) (Links other Waits) (tick_of rows starts last) tail cut most →
      IsSpan other most
  span_by starts' ends' after' last' placed' end' most m =
      let heads' : AreHeads (IsNode (length rows)) (Links other Waits) (start 0) (tick_of other starts' last') =
      subst (λ (n : ℕ). AreHeads (IsNode n) (Links other Waits) (start 0) (tick_of other starts' last')) same
      (plan_is_heads other hr' Waits covers' starts' ends' after' placed' last' end') in
      let is : last' ≡ most = cut_heaviest (IsNode (length rows)) (number_of (length rows)) (Links rows Waits) (Links other Waits) (start 0) finish
      (tick_of rows starts last) tail (tick_of other starts' last') cut
      (links_inside rows hr Waits ways.covers) inside' (links_rise rows hr Waits ways.covers) rises'
      (λ x i. node_low (length rows) x i) tt (omega arith) within
      (plan_is_heads rows hr Waits ways.covers starts ends after ways.placed last ways.ended) ways.tails heads' change most m in
      record {
        plan = starts';
        earliest = placed_earliest other hr' starts' ends' after' placed';
        ends = subst (λ (n : ℕ). IsEnd other starts' n) is end';
      }

  pub heaviest_is_span : (most : ℕ) → IsHeaviest (number_of (length rows)) (Links other Waits) (tick_of rows starts last) tail cut most → IsSpan other most
  heaviest_is_span most m =
      let n : ℕ = length other in
      let s = stands other hr' n (omega arith) in
      let e = has_end other hr' s.starts in
      span_by s.starts s.ends s.after e.0 s.placed e.1 most m

-- with a row's ticks changed, the span is the heaviest way over the row's cut
module _ (rows : List Row) (hr : IsRows rows) (Waits : ℕ → ℕ → Type 0) (starts ends : List ℕ) (after : List (Option ℕ)) (last : ℕ) (tail : Node → ℕ)
    (ways : AreWays rows Waits starts ends after last tail) (row ticks : ℕ) (f : Fits rows row ticks) where
  change : ChangesAt (number_of (length rows)) (Links rows Waits) (Links (edited rows row ticks) Waits) (2 * row)
  change = record {
    to_low = λ x y w k l. links_edited rows Waits row ticks (length rows) x y w (inl k) l;
    from_low = λ x y w k l. links_back rows Waits row ticks (length rows) x y w (inl k) l;
    to_high = λ x y w k l. links_edited rows Waits row ticks (length rows) x y w (inr k) l;
    from_high = λ x y w k l. links_back rows Waits row ticks (length rows) x y w (inr k) l;
  }

  pub cut_is_span : (most : ℕ) → IsMostAt rows Waits starts last tail row ticks most → IsSpan (edited rows row ticks) most
  cut_is_span most m = heaviest_is_span rows hr Waits starts ends after last tail ways (edited rows row ticks) (rows_edited rows hr row ticks f)
      (covers_edited rows Waits row ticks ways.covers) (length-edited rows row ticks) (2 * row) (omega (arith, f.there)) change most m

-- with nothing changed, the span is the heaviest way over each cut, and the weight of the heaviest way from the start of main
module _ (rows : List Row) (hr : IsRows rows) (Waits : ℕ → ℕ → Type 0) (starts ends : List ℕ) (after : List (Option ℕ)) (last : ℕ) (tail : Node → ℕ)
    (ways : AreWays rows Waits starts ends after last tail) where
  pub last_is_tail : tail (start 0) ≡ last
  last_is_tail = tail_is_last (IsNode (length rows)) (number_of (length rows)) (Links rows Waits) (start 0) finish (tick_of rows starts last) tail
      (links_inside rows hr Waits ways.covers) (links_rise rows hr Waits ways.covers) (λ x i. node_low (length rows) x i) tt
      (plan_is_heads rows hr Waits ways.covers starts ends after ways.placed last ways.ended) ways.tails

  pub same_over_cut : (cut : ℕ) → cut < 2 * length rows → IsHeaviest (number_of (length rows)) (Links rows Waits) (tick_of rows starts last) tail cut last
  same_over_cut cut within = cut_same (IsNode (length rows)) (number_of (length rows)) (Links rows Waits) (start 0) finish (tick_of rows starts last) tail
      (links_inside rows hr Waits ways.covers) (links_rise rows hr Waits ways.covers) (λ x i. node_low (length rows) x i) tt
      (plan_is_heads rows hr Waits ways.covers starts ends after ways.placed last ways.ended) ways.tails cut (omega arith) within
