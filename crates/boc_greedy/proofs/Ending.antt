-- A row that is under way ends.
use Rattle.std.proofs.Common.{◌≡◌, ◌≢◌, ℕ, ◌<◌, ◌≤◌, List, length, sym, ap, ◌∙◌, subst, inl, inr, arith}
use Rattle.std.specs.Prelude.{slice_index}
use Rattle.std.specs.Int.{bit_at}
use Rattle.std.proofs.lemmas.Bool.{cases_eq}
use Rattle.boc_runs.specs.declared.rows.Row.{Row}
use Rattle.boc_runs.specs.Rows.{IsRows}
use Rattle.boc_plans.specs.Plans.{end_of, IsChild}
use Rattle.boc_plans.specs.Greedy.{worker_of}
use Rattle.boc_greedy.specs.declared.frontier.RowState.{RowState}
use Rattle.boc_greedy.specs.declared.frontier.RowState.TheVariants.{Unspawned, Waiting, UnderWay, Over}
use Rattle.boc_greedy.specs.RowStates.{IsAt}
use Rattle.boc_greedy.specs.Queues.{Entry, IsIn}
use Rattle.boc_greedy.specs.Simulating.{IsOn, IsBusy, Kept}
use Rattle.boc_greedy.proofs.Puts.{ChangesState, other_state, state_stays, not_same, left_same}
use Rattle.boc_greedy.proofs.Queued.{Taken}
use Rattle.boc_greedy.proofs.Standing.{there}

module _ (rows : List Row) (hr : IsRows rows) (p end : ℕ) (starts workers : List ℕ) (states : List RowState) (first : List ℕ) (queue : List Entry) (idle t : ℕ)
    (k : Kept rows p end starts workers states first queue idle t)
    (r : ℕ) (states' : List RowState) (rest : List Entry) (idle' : ℕ) (due : IsIn queue t r) (none_left : length rows ≤ slice_index first r)
    (sg : ChangesState states states' r Over) (po : Taken queue rest r) (is_set : bit_at idle' (worker_of workers r) ≡ 1)
    (others : (v : ℕ) → v ≢ worker_of workers r → bit_at idle' v ≡ bit_at idle v) where
  is_busy : IsBusy rows starts states t r (slice_index first r) t
  is_busy = k.busy t r due

  was : (b : ℕ) → IsAt states' b Unspawned → IsAt states b Unspawned
  was b e = (other_state states states' r Over sg b Unspawned (λ d. (cc)) e).1

  stays : (b : ℕ) → IsAt states b Unspawned → IsAt states' b Unspawned
  stays b e = state_stays states states' r Over sg b Unspawned (not_same states r UnderWay is_busy.under_way b Unspawned (λ d. (cc)) e) e

  ran : (a : ℕ) → IsAt states' a UnderWay → (a ≢ r) × IsAt states a UnderWay
  ran a e = other_state states states' r Over sg a UnderWay (λ d. (cc)) e

  runs_on : (a : ℕ) → a ≢ r → IsAt states a UnderWay → IsAt states' a UnderWay
  runs_on a ne e = state_stays states states' r Over sg a UnderWay ne e

  on_after : (a : ℕ) → IsAt states' a UnderWay → IsOn p starts workers rest idle' t a
  on_after a e =
      let old = ran a e in
      let o = k.under_way a old.1 in
      let other : worker_of workers a ≢ worker_of workers r = λ same. old.0 (k.states_are.apart a r old.1 is_busy.under_way same) in
      record {
        begun = o.begun;
        below = o.below;
        taken = λ is. o.taken (sym (others _ other) ∙ is);
        change = o.change;
        queued = po.stays o.change a old.0 o.queued;
      }

  busy_after : (at q : ℕ) → IsIn rest at q → IsBusy rows starts states' t q (slice_index first q) at
  busy_after at q i =
      let m = po.was at q i in
      let y = k.busy at q m.0 in
      record { under_way = runs_on q m.1 y.under_way; ahead = y.ahead; spawns = y.spawns; ends = y.ends }

  over_after : (a : ℕ) → IsAt states' a Over → end_of rows starts a ≤ t
  over_after a e = elim (cases_eq a r) [
    | inl same ↦ rw same (omega (arith, is_busy.ends none_left))
    | inr ne ↦ k.over a (sym (sg.others a ne) ∙ e)
  ]

  all_after : (a b : ℕ) → IsChild rows a b → IsAt states' a Over → IsAt states' b Unspawned → ⊥
  all_after a b d o e = elim (cases_eq a r) [
    | inl same ↦ (k.states_are.left r (there rows hr p end starts workers states first queue idle t k r UnderWay is_busy.under_way)).before b
        (subst (λ (x : ℕ). IsChild rows x b) same d)
        (omega (arith, d.there, none_left)) (was b e)
    | inr ne ↦ k.states_are.all_spawned a b d (sym (sg.others a ne) ∙ o) (was b e)
  ]

  held_after : (v : ℕ) → v < p → bit_at idle' v ≢ 1 → (q : ℕ) × IsAt states' q UnderWay × (worker_of workers q ≡ v)
  held_after v h out =
      let other : v ≢ worker_of workers r = λ e. out (rw e is_set) in
      let (q, on, at) = k.states_are.held v h (λ is. out (others v other ∙ is)) in
      (q, runs_on q (λ e. other (sym at ∙ ap (worker_of workers) e)) on, at)

  idle_after : (v : ℕ) → bit_at idle' v ≡ 1 → v < p
  idle_after v is = elim (cases_eq v (worker_of workers r)) [
    | inl e ↦ rw e (k.under_way r is_busy.under_way).below
    | inr ne ↦ k.states_are.idle_below v (sym (others v ne) ∙ is)
  ]

  pub kept_after : Kept rows p end starts workers states' first rest idle' t
  kept_after = record {
    states_are = record {
      starts_whole = k.states_are.starts_whole;
      workers_whole = k.states_are.workers_whole;
      states_whole = omega (arith, sg.whole, k.states_are.states_whole);
      first_whole = k.states_are.first_whole;
      few = k.states_are.few;
      unspawned = λ b e. k.states_are.unspawned b (was b e);
      not_main = λ e. k.states_are.not_main (was 0 e);
      waiting = λ b e. k.states_are.waiting b (other_state states states' r Over sg b Waiting (λ d. (cc)) e).1;
      all_spawned = all_after;
      left = λ q h. left_same rows states states' q _ was (λ b d. stays b) (k.states_are.left q h);
      apart = λ a b ea eb. k.states_are.apart a b (ran a ea).1 (ran b eb).1;
      held = held_after;
      idle_below = idle_after;
    };
    early = k.early;
    under_way = on_after;
    over = over_after;
    spawned = λ a b d out. k.spawned a b d (λ e. out (stays b e));
    busy = busy_after;
    greedy = k.greedy;
  }
