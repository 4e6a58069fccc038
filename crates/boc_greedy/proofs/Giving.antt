-- A row starts on an idle worker.
use Rattle.std.proofs.Common.{◌≡◌, ◌≢◌, ℕ, ◌+◌, ◌<◌, ◌≤◌, List, length, refl, sym, ap, ◌∙◌, inl, inr, arith}
use Rattle.std.specs.Prelude.{slice_index}
use Rattle.std.specs.Int.{bit_at}
use Rattle.std.proofs.lemmas.Bool.{cases_lt, cases_eq}
use Rattle.boc_runs.specs.declared.rows.Row.{Row}
use Rattle.boc_runs.specs.Rows.{IsRows, offset_of, ticks_of}
use Rattle.boc_plans.specs.Plans.{start_of}
use Rattle.boc_plans.specs.Greedy.{worker_of, IsReady, IsFree}
use Rattle.boc_greedy.specs.declared.frontier.RowState.{RowState}
use Rattle.boc_greedy.specs.declared.frontier.RowState.TheVariants.{Unspawned, Waiting, UnderWay, Over}
use Rattle.boc_greedy.specs.RowStates.{IsAt, CanStart}
use Rattle.boc_greedy.specs.Queues.{Entry, IsIn}
use Rattle.boc_greedy.specs.Simulating.{IsOn, IsBusy, Kept, Given, HasPassed}
use Rattle.boc_greedy.proofs.Puts.{Puts, ChangesState, other_state, state_stays, not_same, left_same}
use Rattle.boc_greedy.proofs.Queued.{Pushed}
use Rattle.boc_greedy.proofs.Agreeing.{Agree, ready_there, free_there, greedy_there}
use Rattle.boc_greedy.proofs.Standing.{there, started}

module _ (rows : List Row) (hr : IsRows rows) (p end : ℕ) (starts workers : List ℕ) (states : List RowState) (first : List ℕ) (queue : List Entry) (idle t : ℕ)
    (k : Kept rows p end starts workers states first queue idle t)
    (x w change : ℕ) (starts' workers' : List ℕ) (states' : List RowState) (queue' : List Entry) (idle' : ℕ)
    (ps : Puts starts starts' x t) (pw : Puts workers workers' x w) (sg : ChangesState states states' x UnderWay) (pq : Pushed queue queue' change x)
    (can : CanStart rows states x) (is_idle : bit_at idle w ≡ 1) (cleared : bit_at idle' w ≡ 0) (others : (v : ℕ) → v ≢ w → bit_at idle' v ≡ bit_at idle v)
    (spawns : slice_index first x < length rows → change ≡ t + offset_of rows (slice_index first x))
    (ends : length rows ≤ slice_index first x → change ≡ t + ticks_of rows x) where
  x_there : x < length rows
  x_there = there rows hr p end starts workers states first queue idle t k x Waiting can.waits

  x_waits : start_of starts x ≡ end
  x_waits = k.states_are.waiting x can.waits

  change_above : t < change
  change_above = elim (cases_lt (slice_index first x) (length rows)) [
    | inl l ↦ (let c = (k.states_are.left x x_there).child_is l in omega (arith, spawns l, hr.offset_above _ c.not_main c.there))
    | inr ge ↦ omega (arith, ends ge, hr.ticks_low x x_there)
  ]

  -- a row that has started by now is another, as is one that started before now
  not_x : (r : ℕ) → start_of starts r ≤ t → r ≢ x
  not_x r h e = (let s : start_of starts r ≡ start_of starts x = ap (start_of starts) e in omega (arith, s, x_waits, h, k.early))

  before_x : (r : ℕ) → start_of starts' r < t → r ≢ x
  before_x r h e = (let s : start_of starts' r ≡ start_of starts' x = ap (start_of starts') e in omega (arith, s, ps.at, h))

  pub agree : Agree t starts starts' workers workers'
  agree = record {
    there = λ r h. (ps.others r (not_x r (omega (arith, h))), pw.others r (not_x r (omega (arith, h))));
    back = λ r h. (ps.others r (before_x r h), pw.others r (before_x r h));
  }

  -- unspawned before and after
  was_unspawned : (b : ℕ) → IsAt states' b Unspawned → IsAt states b Unspawned
  was_unspawned b e = (other_state states states' x UnderWay sg b Unspawned (λ d. (cc)) e).1

  stays_unspawned : (b : ℕ) → IsAt states b Unspawned → IsAt states' b Unspawned
  stays_unspawned b e = state_stays states states' x UnderWay sg b Unspawned (not_same states x Waiting can.waits b Unspawned (λ d. (cc)) e) e

  -- other rows that are under way stay so, on other workers
  other_on : (r : ℕ) → IsAt states r UnderWay → (r ≢ x) × IsAt states' r UnderWay
  other_on r e = (let n = not_same states x Waiting can.waits r UnderWay (λ d. (cc)) e in (n, state_stays states states' x UnderWay sg r UnderWay n e))

  was_on : (r : ℕ) → r ≢ x → IsAt states' r UnderWay → IsOn p starts workers queue idle t r
  was_on r ne e = k.under_way r (sym (sg.others r ne) ∙ e)

  other_worker : (r : ℕ) → r ≢ x → IsAt states' r UnderWay → worker_of workers' r ≢ w
  other_worker r ne e at = (was_on r ne e).taken (rw (sym (pw.others r ne) ∙ at) is_idle)

  on_after : (r : ℕ) → IsAt states' r UnderWay → IsOn p starts' workers' queue' idle' t r
  on_after r e = elim (cases_eq r x) [
    | inl same ↦ rw same (record {
      begun = omega (arith, ps.at);
      below = rw pw.at (k.states_are.idle_below w is_idle);
      taken = rw pw.at (λ is. omega (arith, is, cleared));
      change = change;
      queued = pq.here;
    })
    | inr ne ↦ (
        let o = was_on r ne e in
        let moved : worker_of workers' r ≡ worker_of workers r = pw.others r ne in
        record {
          begun = omega (arith, ps.others r ne, o.begun);
          below = omega (arith, moved, o.below);
          taken = λ is. o.taken (rw moved at (sym (others _ (other_worker r ne e)) ∙ is));
          change = o.change;
          queued = pq.stays o.change r o.queued;
        })
  ]

  busy_after : (at r : ℕ) → IsIn queue' at r → IsBusy rows starts' states' t r (slice_index first r) at
  busy_after at r i = elim (pq.was at r i) [
    | inl e ↦ rw (e.0, e.1) (record {
      under_way = sg.at;
      ahead = omega (arith, change_above);
      spawns = λ l. omega (arith, spawns l, ps.at);
      ends = λ ge. omega (arith, ends ge, ps.at);
    })
    | inr old ↦ (
        let y = k.busy at r old in
        let o = other_on r y.under_way in
        record {
          under_way = o.1;
          ahead = y.ahead;
          spawns = λ l. omega (arith, y.spawns l, ps.others r o.0);
          ends = λ ge. omega (arith, y.ends ge, ps.others r o.0);
        })
  ]

  apart_after : (a b : ℕ) → IsAt states' a UnderWay → IsAt states' b UnderWay → worker_of workers' a ≡ worker_of workers' b → a ≡ b
  apart_after a b ea eb same = elim (cases_eq a x) [
    | inl ax ↦ elim (cases_eq b x) [
      | inl bx ↦ ax ∙ sym bx
      | inr nb ↦ absurd (other_worker b nb eb (sym same ∙ ap (worker_of workers') ax ∙ pw.at))
    ]
    | inr na ↦ elim (cases_eq b x) [
      | inl bx ↦ absurd (other_worker a na ea (same ∙ ap (worker_of workers') bx ∙ pw.at))
      | inr nb ↦ k.states_are.apart a b (sym (sg.others a na) ∙ ea) (sym (sg.others b nb) ∙ eb) (sym (pw.others a na) ∙ same ∙ pw.others b nb)
    ]
  ]

  held_after : (v : ℕ) → v < p → bit_at idle' v ≢ 1 → (r : ℕ) × IsAt states' r UnderWay × (worker_of workers' r ≡ v)
  held_after v h out = elim (cases_eq v w) [
    | inl e ↦ (x, sg.at, pw.at ∙ sym e)
    | inr ne ↦ (let (r, on, at) = k.states_are.held v h (λ is. out (others v ne ∙ is)) in let o = other_on r on in (r, o.1, pw.others r o.0 ∙ at))
  ]

  -- a worker that is idle is another, and was idle
  was_idle : (v : ℕ) → bit_at idle' v ≡ 1 → (v ≢ w) × (bit_at idle v ≡ 1)
  was_idle v is = (let ne : v ≢ w = λ e. omega (arith, is, cleared, ap (bit_at idle') e) in (ne, sym (others v ne) ∙ is))

  pub kept_after : Kept rows p end starts' workers' states' first queue' idle' t
  kept_after = record {
    states_are = record {
      starts_whole = omega (arith, ps.whole, k.states_are.starts_whole);
      workers_whole = omega (arith, pw.whole, k.states_are.workers_whole);
      states_whole = omega (arith, sg.whole, k.states_are.states_whole);
      first_whole = k.states_are.first_whole;
      few = k.states_are.few;
      unspawned = λ r e. (let o = other_state states states' x UnderWay sg r Unspawned (λ d. (cc)) e in
          omega (arith, ps.others r o.0, k.states_are.unspawned r o.1));
      not_main = λ e. k.states_are.not_main (was_unspawned 0 e);
      waiting = λ r e. (let o = other_state states states' x UnderWay sg r Waiting (λ d. (cc)) e in omega (arith, ps.others r o.0, k.states_are.waiting r o.1));
      all_spawned = λ a b c o e. k.states_are.all_spawned a b c (other_state states states' x UnderWay sg a Over (λ d. (cc)) o).1 (was_unspawned b e);
      left = λ r h. left_same rows states states' r _ was_unspawned (λ b c. stays_unspawned b) (k.states_are.left r h);
      apart = apart_after;
      held = held_after;
      idle_below = λ v is. k.states_are.idle_below v (was_idle v is).1;
    };
    early = k.early;
    under_way = on_after;
    over = λ r e. (let o = other_state states states' x UnderWay sg r Over (λ d. (cc)) e in omega (arith, ps.others r o.0, k.over r o.1));
    spawned = λ a b c out. (
        let s = k.spawned a b c (λ e. out (stays_unspawned b e)) in
        omega (arith, s, ps.others a (not_x a (omega (arith, s)))));
    busy = busy_after;
    greedy = λ u lt. greedy_there rows hr p t starts starts' workers workers' agree u lt (k.greedy u lt);
  }

  pub passed_after : HasPassed queue t → HasPassed queue' t
  passed_after h at r i = elim (pq.was at r i) [ inl e ↦ omega (arith, e.0, change_above) | inr old ↦ h at r old ]

  -- the row and the worker are the least
  module _ (g : Given rows p starts workers states idle t)
      (least : (b : ℕ) → CanStart rows states b → x ≤ b) (least_idle : (v : ℕ) → v < w → bit_at idle v ≡ 0) where
    can_before : (b : ℕ) → CanStart rows states' b → (b ≢ x) × CanStart rows states b
    can_before b c = (let o = other_state states states' x UnderWay sg b Waiting (λ d. (cc)) c.waits in
        (o.0, record { waits = o.1; clear = λ a before. (other_state states states' x UnderWay sg a Over (λ d. (cc)) (c.clear a before)).1 }))

    x_ready : IsReady rows starts t x
    x_ready = record {
      there = x_there;
      waits = omega (arith, x_waits, k.early);
      spawned = λ a c. k.spawned a x c (λ e. not_same states x Waiting can.waits x Unspawned (λ d. (cc)) e refl);
      in_order = λ a o. k.over a (can.clear a o);
    }

    -- an idle worker has no row that isn't over
    w_free : IsFree rows p starts workers t w
    w_free = record {
      below = k.states_are.idle_below w is_idle;
      idle = λ r h on lt. elim (started rows hr p end starts workers states first queue idle t k r h (omega (arith, lt, k.early))) [
        | inl e ↦ absurd ((k.under_way r e).taken (rw on is_idle))
        | inr e ↦ k.over r e
      ];
    }

    was : (r : ℕ) → r ≢ x → start_of starts' r ≡ t → start_of starts r ≡ t
    was r ne e = omega (arith, e, ps.others r ne)

    ready_before : (r : ℕ) → r < length rows → start_of starts' r ≡ t → IsReady rows starts t r
    ready_before r h e = elim (cases_eq r x) [ inl same ↦ rw same x_ready | inr ne ↦ g.ready r h (was r ne e) ]

    free_before : (r : ℕ) → r < length rows → start_of starts' r ≡ t → IsFree rows p starts workers t (worker_of workers' r)
    free_before r h e = elim (cases_eq r x) [
      | inl same ↦ rw (ap (worker_of workers') same ∙ pw.at) w_free
      | inr ne ↦ rw (pw.others r ne) (g.free r h (was r ne e))
    ]

    given_rising : (a b : ℕ) → a < b → b < length rows → start_of starts' a ≡ t → start_of starts' b ≡ t → worker_of workers' a < worker_of workers' b
    given_rising a b lt h ea eb = elim (cases_eq a x) [
      | inl sa ↦ absurd (let nb : b ≢ x = λ sb. omega (arith, sa, sb, lt) in omega (arith, g.least_rows b x h (was b nb eb) can, sa, lt))
      | inr na ↦ elim (cases_eq b x) [
        | inl sb ↦ omega (arith, ap (worker_of workers') sb, pw.at, pw.others a na, g.least_workers a w (omega (arith, lt, h)) (was a na ea) is_idle)
        | inr nb ↦ omega (arith, pw.others a na, pw.others b nb, g.rising a b lt h (was a na ea) (was b nb eb))
      ]
    ]

    given_rows : (a b : ℕ) → a < length rows → start_of starts' a ≡ t → CanStart rows states' b → a < b
    given_rows a b h e c =
        let o = can_before b c in
        elim (cases_eq a x) [
          | inl same ↦ omega (arith, same, least b o.1, o.0)
          | inr ne ↦ g.least_rows a b h (was a ne e) o.1
        ]

    given_workers : (r v : ℕ) → r < length rows → start_of starts' r ≡ t → bit_at idle' v ≡ 1 → worker_of workers' r < v
    given_workers r v h e is =
        let o = was_idle v is in
        elim (cases_eq r x) [
          | inl same ↦ elim (cases_lt v w) [
            | inl l ↦ absurd (omega (arith, least_idle v l, o.1))
            | inr ge ↦ omega (arith, ap (worker_of workers') same, pw.at, ge, o.0)
          ]
          | inr ne ↦ omega (arith, pw.others r ne, g.least_workers r v h (was r ne e) o.1)
        ]

    pub given_after : Given rows p starts' workers' states' idle' t
    given_after = record {
      ready = λ r h e. ready_there rows hr p t starts starts' workers workers' agree t (omega arith) r (omega (arith, e)) (ready_before r h e);
      free = λ r h e. free_there rows hr p t starts starts' workers workers' agree t (omega arith) _ (free_before r h e);
      rising = given_rising;
      least_rows = given_rows;
      least_workers = given_workers;
    }
