-- What holds of a simulation that stands at a tick.
use Rattle.std.proofs.Common.{◌≡◌, ◌≢◌, ℕ, ◌+◌, ◌<◌, ◌≤◌, ◌⊎◌, List, length, refl, sym, ◌∙◌, ap, subst, inl, inr, arith}
use Rattle.boc_program.specs.declared.limits.TheConstants.{MOST_TICKS}
use Rattle.std.specs.Prelude.{slice_index}
use Rattle.std.specs.Int.{bit_at}
use Rattle.std.proofs.lemmas.Option.{slice_get_within}
use Rattle.std.proofs.lemmas.Bool.{cases_lt, cases_eq}
use Rattle.boc_runs.specs.declared.rows.Row.{Row}
use Rattle.boc_runs.specs.Rows.{IsRows, parent_of, offset_of, ticks_of}
use Rattle.boc_plans.specs.Plans.{start_of, end_of, IsChild}
use Rattle.boc_plans.specs.Greedy.{IsReady, IsFree, IsTaken, IsGreedyAt}
use Rattle.boc_greedy.specs.declared.frontier.RowState.{RowState}
use Rattle.boc_greedy.specs.declared.frontier.RowState.TheVariants.{Unspawned, UnderWay, Over}
use Rattle.boc_greedy.specs.RowStates.{IsAt, CanStart}
use Rattle.boc_greedy.specs.Queues.{Entry, IsIn}
use Rattle.boc_greedy.specs.Simulating.{IsBusy, Kept, Given, HasPassed, IsFull}
use Rattle.boc_greedy.proofs.Puts.{at_state}

module _ (rows : List Row) (hr : IsRows rows) (p end : ℕ) (starts workers : List ℕ) (states : List RowState) (first : List ℕ) (queue : List Entry) (idle t : ℕ)
    (k : Kept rows p end starts workers states first queue idle t) where
  pub there : (r : ℕ) (s : RowState) → IsAt states r s → r < length rows
  there r s e = omega (arith, slice_get_within states r s e, k.states_are.states_whole)

  -- a row that starts before the last tick has started
  pub started : (r : ℕ) → r < length rows → start_of starts r < end → IsAt states r UnderWay ⊎ IsAt states r Over
  started r h lt = elim (at_state states r (omega (arith, k.states_are.states_whole))) [
    | inl e ↦ absurd (omega (arith, k.states_are.unspawned r e))
    | inr (inl e) ↦ absurd (omega (arith, k.states_are.waiting r e))
    | inr (inr x) ↦ x
  ]

  pub start_low : (r : ℕ) → r < length rows → start_of starts r < end → start_of starts r ≤ t
  start_low r h lt = elim (started r h lt) [
    | inl e ↦ (k.under_way r e).begun
    | inr e ↦ omega (arith, k.over r e)
  ]

  -- what changes next for a row that is under way
  pub its_change : (r : ℕ) (e : IsAt states r UnderWay) → IsBusy rows starts states t r (slice_index first r) (k.under_way r e).change
  its_change r e = k.busy _ r (k.under_way r e).queued

  pub offset_low : (a b : ℕ) → IsChild rows a b → offset_of rows b ≤ ticks_of rows a
  offset_low a b c = subst (λ (x : ℕ). offset_of rows b ≤ ticks_of rows x) c.parent (hr.ticks_cover b c.not_main c.there)

  -- a change comes no later than the end of the row
  pub change_low : (r change : ℕ) → IsBusy rows starts states t r (slice_index first r) change → change ≤ end_of rows starts r
  change_low r change y = elim (cases_lt (slice_index first r) (length rows)) [
    | inl l ↦ omega (arith, y.spawns l, offset_low r _ ((k.states_are.left r (there r UnderWay y.under_way)).child_is l))
    | inr ge ↦ omega (arith, y.ends ge)
  ]

  -- and within 1,000,000 ticks
  pub change_soon : (change r : ℕ) → IsIn queue change r → change ≤ t + MOST_TICKS
  change_soon change r i =
      let y = k.busy change r i in
      omega (arith, change_low r change y, (k.under_way r y.under_way).begun, hr.ticks_high r (there r UnderWay y.under_way))

  -- nor than the spawn of a child that isn't spawned yet
  pub change_first : (r change : ℕ) → IsBusy rows starts states t r (slice_index first r) change → (b : ℕ) → IsChild rows r b → IsAt states b Unspawned →
      change ≤ start_of starts r + offset_of rows b
  change_first r change y b c e =
      let left = k.states_are.left r (there r UnderWay y.under_way) in
      elim (cases_lt b (slice_index first r)) [
        | inl l ↦ absurd (left.before b c l e)
        | inr ge ↦ (
            let in_rows : slice_index first r < length rows = omega (arith, ge, c.there) in
            let d = left.child_is in_rows in
            elim (cases_eq (slice_index first r) b) [
              | inl same ↦ (let o : offset_of rows (slice_index first r) ≡ offset_of rows b = ap (offset_of rows) same in omega (arith, y.spawns in_rows))
              | inr ne ↦ omega (arith, y.spawns in_rows, hr.offsets_rise _ b d.not_main (omega (arith, ge, ne)) c.there (d.parent ∙ sym c.parent))
            ])
      ]

  -- a parent that has started, of a child that isn't spawned, is under way
  pub parent_under_way : (a b : ℕ) → IsChild rows a b → IsAt states b Unspawned → a < length rows → start_of starts a < end → IsAt states a UnderWay
  parent_under_way a b c e h lt = elim (started a h lt) [ inl u ↦ u | inr o ↦ absurd (k.states_are.all_spawned a b c o e) ]

  pub parent_there : (a b : ℕ) → IsChild rows a b → a < b
  parent_there a b c = omega (arith, c.parent, hr.parent_before b c.not_main c.there)

  -- nothing changes up to tick u, so a row that is ready there can start now
  module _ (u : ℕ) (now : t ≤ u) (low : u < end) (passed : HasPassed queue u) where
    pub can_start : (b : ℕ) → IsReady rows starts u b → u < start_of starts b → CanStart rows states b
    can_start b i lt = record {
      waits = elim (at_state states b (omega (arith, k.states_are.states_whole, i.there))) [
        | inl e ↦ absurd (elim (cases_lt 0 b) [
          | inl pos ↦ (
              let c : IsChild rows (parent_of rows b) b = record { not_main = pos; there = i.there; parent = refl } in
              let s = i.spawned (parent_of rows b) c in
              let h : parent_of rows b < length rows = omega (arith, parent_there (parent_of rows b) b c, i.there) in
              let w = parent_under_way (parent_of rows b) b c e h (omega (arith, s)) in
              omega (arith, s, change_first _ _ (its_change (parent_of rows b) w) b c e, passed _ _ (k.under_way (parent_of rows b) w).queued))
          | inr ge ↦ (let z : b ≡ 0 = omega (arith, ge) in k.states_are.not_main (subst (λ (x : ℕ). IsAt states x Unspawned) z e))
        ])
        | inr (inl e) ↦ e
        | inr (inr (inl e)) ↦ absurd (omega (arith, lt, (k.under_way b e).begun))
        | inr (inr (inr e)) ↦ absurd (omega (arith, lt, k.over b e))
      ];
      clear = λ a o. (
          let s = i.in_order a o in
          elim (started a (omega (arith, o.before, i.there)) (omega (arith, s))) [
            | inl e ↦ absurd (omega (arith, s, change_low _ _ (its_change a e), passed _ _ (k.under_way a e).queued))
            | inr e ↦ e
          ]);
    }

    -- a worker that has a row gets no other before it ends
    pub busy_taken : (w : ℕ) → bit_at idle w ≢ 1 → IsFree rows p starts workers u w → IsTaken rows starts workers u w
    busy_taken w out f =
        let (r, on, stands) = k.states_are.held w f.below out in
        elim (cases_lt (start_of starts r) u) [
          | inl l ↦ absurd (omega (arith, f.idle r (there r UnderWay on) stands l, change_low _ _ (its_change r on), passed _ _ (k.under_way r on).queued))
          | inr ge ↦ (r, there r UnderWay on, omega (arith, ge, (k.under_way r on).begun), stands)
        ]

    -- the plan is greedy where no more row can start
    pub greedy_now : IsFull rows states idle → Given rows p starts workers states idle t → IsGreedyAt rows p starts workers u
    greedy_now full g = record {
      ready = λ r h e. rw (same r h e) (g.ready r h (omega (arith, same r h e, e)));
      free = λ r h e. rw (same r h e) (g.free r h (omega (arith, same r h e, e)));
      rising = λ a b lt h ea eb. g.rising a b lt h (omega (arith, ea, same b h eb)) (omega (arith, eb, same b h eb));
      least_rows = λ a b i lt h e. g.least_rows a b h (omega (arith, e, same a h e)) (can_start b i lt);
      none_idle = λ b w i lt f. busy_taken w (full b w (can_start b i lt)) f;
      least_workers = λ r w h e f lt. elim (cases_eq (bit_at idle w) 1) [
        | inl is ↦ absurd (omega (arith, lt, g.least_workers r w h (omega (arith, e, same r h e)) is))
        | inr out ↦ busy_taken w out f
      ];
    }
      where
        same : (r : ℕ) → r < length rows → start_of starts r ≡ u → u ≡ t
        same r h e = omega (arith, e, now, low, start_low r h (omega (arith, e, low)))
