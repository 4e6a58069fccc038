-- A row that is under way spawns its next child.
use Rattle.std.proofs.Common.{◌≡◌, ◌≢◌, ℕ, ◌+◌, ◌<◌, ◌≤◌, List, length, sym, ap, ◌∙◌, inl, inr, arith}
use Rattle.std.specs.Prelude.{slice_index}
use Rattle.std.proofs.lemmas.Bool.{cases_lt, cases_eq}
use Rattle.boc_runs.specs.declared.rows.Row.{Row}
use Rattle.boc_runs.specs.Rows.{IsRows, parent_of, offset_of, ticks_of}
use Rattle.boc_plans.specs.Plans.{start_of, IsChild}
use Rattle.boc_greedy.specs.declared.frontier.RowState.{RowState}
use Rattle.boc_greedy.specs.declared.frontier.RowState.TheVariants.{Unspawned, Waiting, UnderWay, Over}
use Rattle.boc_greedy.specs.RowStates.{IsAt}
use Rattle.boc_greedy.specs.Families.{IsNextChild}
use Rattle.boc_greedy.specs.Queues.{Entry, IsIn, IsPutOff}
use Rattle.boc_greedy.specs.Simulating.{IsOn, IsBusy, AreLeft, Kept}
use Rattle.boc_greedy.proofs.Puts.{Puts, ChangesState, other_state, state_stays, not_same, left_same}
use Rattle.boc_greedy.proofs.Standing.{there, offset_low}

module _ (rows : List Row) (hr : IsRows rows) (p end : ℕ) (starts workers : List ℕ) (states : List RowState) (first : List ℕ) (queue : List Entry) (idle t : ℕ)
    (k : Kept rows p end starts workers states first queue idle t)
    (r c child change : ℕ) (states' : List RowState) (first' : List ℕ) (queue' : List Entry)
    (due : IsIn queue t r) (c_is : slice_index first r ≡ c) (c_there : c < length rows) (sg : ChangesState states states' c Waiting)
    (pf : Puts first first' r child)
    (po : IsPutOff queue r change queue') (next : IsNextChild rows (parent_of rows c) (c + 1) child)
    (spawns : child < length rows → change ≡ start_of starts r + offset_of rows child)
    (ends : length rows ≤ child → change ≡ start_of starts r + ticks_of rows r) where
  is_busy : IsBusy rows starts states t r c t
  is_busy = rw c_is at (k.busy t r due)

  were_left : AreLeft rows states r c
  were_left = rw c_is at (k.states_are.left r (there rows hr p end starts workers states first queue idle t k r UnderWay is_busy.under_way))

  c_child : IsChild rows r c
  c_child = were_left.child_is c_there

  c_unspawned : IsAt states c Unspawned
  c_unspawned = were_left.after c c_child (omega arith)

  next_is : IsNextChild rows r (c + 1) child
  next_is = rw c_child.parent at next

  change_from : t ≤ change
  change_from = elim (cases_lt child (length rows)) [
    | inl l ↦ (
        let d = next_is.child l in
        omega (
          arith,
          spawns l,
          is_busy.spawns c_there,
          hr.offsets_rise c child c_child.not_main (omega (arith, next_is.above)) d.there
              (c_child.parent ∙ sym d.parent),
        ))
    | inr ge ↦ omega (arith, ends ge, is_busy.spawns c_there, offset_low rows hr p end starts workers states first queue idle t k r c c_child)
  ]

  was : (b : ℕ) → IsAt states' b Unspawned → (b ≢ c) × IsAt states b Unspawned
  was b e = other_state states states' c Waiting sg b Unspawned (λ d. (cc)) e

  stays : (b : ℕ) → b ≢ c → IsAt states b Unspawned → IsAt states' b Unspawned
  stays b ne e = state_stays states states' c Waiting sg b Unspawned ne e

  ran : (a : ℕ) → IsAt states' a UnderWay → IsAt states a UnderWay
  ran a e = (other_state states states' c Waiting sg a UnderWay (λ d. (cc)) e).1

  runs_on : (a : ℕ) → IsAt states a UnderWay → IsAt states' a UnderWay
  runs_on a e = state_stays states states' c Waiting sg a UnderWay (not_same states c Unspawned c_unspawned a UnderWay (λ d. (cc)) e) e

  parent_is_r : (q b : ℕ) → IsChild rows q b → b ≡ c → q ≡ r
  parent_is_r q b d e = sym d.parent ∙ ap (parent_of rows) e ∙ c_child.parent

  left_after : (q : ℕ) → q < length rows → AreLeft rows states' q (slice_index first' q)
  left_after q h = elim (cases_eq q r) [
    | inl same ↦ rw (same, pf.at) (record {
      child_is = next_is.child;
      before = λ b d lt e. (let o = was b e in elim (cases_lt b c) [
        | inl l ↦ were_left.before b d l o.1
        | inr ge ↦ next_is.none_between b (omega (arith, ge, o.0)) lt d
      ]);
      after = λ b d ge. stays b (λ e. omega (arith, e, ge, next_is.above)) (were_left.after b d (omega (arith, ge, next_is.above)));
    })
    | inr ne ↦ rw (pf.others q ne)
        (left_same rows states states' q _ (λ b e. (was b e).1) (λ b d. stays b (λ e. ne (parent_is_r q b d e))) (k.states_are.left q h))
  ]

  on_after : (a : ℕ) → IsOn p starts workers queue idle t a → IsOn p starts workers queue' idle t a
  on_after a o = elim (cases_eq a r) [
    | inl same ↦ record { begun = o.begun; below = o.below; taken = o.taken; change = change; queued = rw same po.here }
    | inr ne ↦ record { begun = o.begun; below = o.below; taken = o.taken; change = o.change; queued = po.stays o.change a ne o.queued }
  ]

  busy_after : (at q : ℕ) → IsIn queue' at q → IsBusy rows starts states' t q (slice_index first' q) at
  busy_after at q i = elim (po.was at q i) [
    | inl e ↦ rw (e.0, e.1, pf.at) (record { under_way = runs_on r is_busy.under_way; ahead = change_from; spawns = spawns; ends = ends })
    | inr m ↦ (
        let y = k.busy at q m.0 in
        rw (pf.others q m.1) (record { under_way = runs_on q y.under_way; ahead = y.ahead; spawns = y.spawns; ends = y.ends }))
  ]

  waiting_after : (b : ℕ) → IsAt states' b Waiting → start_of starts b ≡ end
  waiting_after b e = elim (cases_eq b c) [
    | inl same ↦ rw same (k.states_are.unspawned c c_unspawned)
    | inr ne ↦ k.states_are.waiting b (sym (sg.others b ne) ∙ e)
  ]

  spawned_after : (a b : ℕ) → IsChild rows a b → (IsAt states' b Unspawned → ⊥) → start_of starts a + offset_of rows b ≤ t
  spawned_after a b d out = elim (cases_eq b c) [
    | inl same ↦ rw (parent_is_r a b d same, same) (omega (arith, is_busy.spawns c_there))
    | inr ne ↦ k.spawned a b d (λ e. out (stays b ne e))
  ]

  pub kept_after : Kept rows p end starts workers states' first' queue' idle t
  kept_after = record {
    states_are = record {
      starts_whole = k.states_are.starts_whole;
      workers_whole = k.states_are.workers_whole;
      states_whole = omega (arith, sg.whole, k.states_are.states_whole);
      first_whole = omega (arith, pf.whole, k.states_are.first_whole);
      few = k.states_are.few;
      unspawned = λ b e. k.states_are.unspawned b (was b e).1;
      not_main = λ e. k.states_are.not_main (was 0 e).1;
      waiting = waiting_after;
      all_spawned = λ a b d o e. k.states_are.all_spawned a b d (other_state states states' c Waiting sg a Over (λ d. (cc)) o).1 (was b e).1;
      left = left_after;
      apart = λ a b ea eb. k.states_are.apart a b (ran a ea) (ran b eb);
      held = λ w h out. (let (q, on, at) = k.states_are.held w h out in (q, runs_on q on, at));
      idle_below = k.states_are.idle_below;
    };
    early = k.early;
    under_way = λ a e. on_after a (k.under_way a (ran a e));
    over = λ a e. k.over a (other_state states states' c Waiting sg a Over (λ d. (cc)) e).1;
    spawned = spawned_after;
    busy = busy_after;
    greedy = k.greedy;
  }
