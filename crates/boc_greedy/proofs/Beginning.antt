-- A simulation begins.
use Rattle.std.proofs.Common.{◌≡◌, ℕ, zero, suc, ◌+◌, ◌-◌, ◌*◌, ◌/◌, ◌^◌, ◌<◌, ◌≤◌, List, [], ◌∷◌, length, replicate, refl, ap, inl, inr, arith}
use Rattle.boc_program.specs.declared.limits.TheConstants.{MOST_TICKS}
use Rattle.std.specs.Prelude.{pred}
use Rattle.std.specs.Int.{bit_at}
use Rattle.std.proofs.lemmas.Bool.{cases_lt}
use Rattle.std.proofs.lemmas.Nat.Bits.{bit_at_ones, bit_at_ones_above, ones_shr}
use Rattle.std.proofs.lemmas.List.{length-replicate, get_or-replicate}
use Rattle.std.proofs.lemmas.List.Sums.{sum_by-cons}
use Rattle.std.proofs.lemmas.List.Folds.{sum_by-replicate}
use Rattle.boc_runs.specs.declared.rows.Row.{Row}
use Rattle.boc_runs.specs.Rows.{IsRows}
use Rattle.boc_plans.specs.Plans.{start_of}
use Rattle.boc_program.proofs.ChangedItems.{item_at, place_below}
use Rattle.boc_greedy.specs.declared.frontier.RowState.{RowState}
use Rattle.boc_greedy.specs.declared.frontier.RowState.TheVariants.{Unspawned, Waiting, UnderWay, Over}
use Rattle.boc_greedy.specs.RowStates.{IsAt}
use Rattle.boc_greedy.specs.Families.{IsFamily}
use Rattle.boc_greedy.specs.Queues.{Entry, IsIn}
use Rattle.boc_greedy.specs.Simulating.{Kept, Given, IsFresh, HasPassed, steps_left, steps_of_all}
use Rattle.boc_greedy.proofs.Waking.{main_alone, none_else}

-- where no row starts at a tick, nothing was given
pub given_fresh : (rows : List Row) (p : ℕ) (starts workers : List ℕ) (states : List RowState) (idle t : ℕ) → IsFresh rows starts t
    → Given rows p starts workers states idle t
given_fresh rows p starts workers states idle t fresh = record {
  ready = λ r h e. absurd (fresh r h e);
  free = λ r h e. absurd (fresh r h e);
  rising = λ a b l h e f. absurd (fresh b h f);
  least_rows = λ a b h e c. absurd (fresh a h e);
  least_workers = λ r v h e is. absurd (fresh r h e);
}

module _ (rows : List Row) (hr : IsRows rows) (p end : ℕ) (few : p ≤ 64) (early : MOST_TICKS < end) (starts workers : List ℕ) (states : List RowState)
    (first times next next_times : List ℕ) (queue : List Entry) (idle : ℕ)
    (starts_is : starts ≡ replicate (length rows) end) (workers_is : workers ≡ replicate (length rows) 0)
    (states_is : states ≡ Waiting ∷ replicate (pred (length rows)) Unspawned) (family : IsFamily rows first times next next_times) (queue_is : queue ≡ [])
    (set : (w : ℕ) → w < p → bit_at idle w ≡ 1) (clear : (w : ℕ) → p ≤ w → bit_at idle w ≡ 0) where
  states_whole : length states ≡ length rows
  states_whole = rw states_is (omega (arith, length-replicate (pred (length rows)) Unspawned, one_less (length rows) hr.not_empty))
    where
      one_less : (n : ℕ) → 0 < n → pred n + 1 ≡ n
      one_less zero h = absurd (omega (arith, h))
      one_less (suc n) h = omega arith

  start_at : (r : ℕ) → r < length rows → start_of starts r ≡ end
  start_at r h = rw starts_is (get_or-replicate (length rows) r end 0 h)

  there : (r : ℕ) (s : RowState) → IsAt states r s → r < length rows
  there r s e = omega (arith, place_below states r s e, states_whole)

  unspawned_at : (r : ℕ) → 0 < r → r < length rows → IsAt states r Unspawned
  unspawned_at r pos h = by_state (item_at states r (omega (arith, h, states_whole))).0 (item_at states r (omega (arith, h, states_whole))).1
    where
      by_state : (s : RowState) → IsAt states r s → IsAt states r Unspawned
      by_state s e = elim (main_alone (pred (length rows)) r s (rw states_is at e)) [ inl q ↦ absurd (omega (arith, pos, q.0)) | inr same ↦ rw same e ]

  none_at : (s : RowState) → (Waiting ≡ s → ⊥) → (Unspawned ≡ s → ⊥) → (r : ℕ) → IsAt states r s → ⊥
  none_at s not_main not_other r e = none_else (pred (length rows)) s not_main not_other r (rw states_is at e)

  none_in : (at r : ℕ) → IsIn queue at r → ⊥
  none_in at r i = omega (arith, i.1, ap length queue_is)

  pub kept_first : Kept rows p end starts workers states first queue idle 0
  kept_first = record {
    states_are = record {
      starts_whole = rw starts_is (length-replicate (length rows) end);
      workers_whole = rw workers_is (length-replicate (length rows) 0);
      states_whole = states_whole;
      first_whole = family.whole;
      few = few;
      unspawned = λ r e. start_at r (there r Unspawned e);
      not_main = λ e. (let m : IsAt states 0 Waiting = rw states_is refl in cc);
      waiting = λ r e. start_at r (there r Waiting e);
      all_spawned = λ a b c o e. none_at Over (λ d. (cc)) (λ d. (cc)) a o;
      left = λ r h. (let n = family.child r h in record {
        child_is = n.child;
        before = λ b c lt e. n.none_between b (omega (arith, c.not_main)) lt c;
        after = λ b c ge. unspawned_at b c.not_main c.there;
      });
      apart = λ a b ea eb same. absurd (none_at UnderWay (λ d. (cc)) (λ d. (cc)) a ea);
      held = λ w h out. absurd (out (set w h));
      idle_below = λ w is. elim (cases_lt w p) [ inl l ↦ l | inr ge ↦ absurd (omega (arith, is, clear w ge)) ];
    };
    early = omega (arith, early);
    under_way = λ r e. absurd (none_at UnderWay (λ d. (cc)) (λ d. (cc)) r e);
    over = λ r e. absurd (none_at Over (λ d. (cc)) (λ d. (cc)) r e);
    spawned = λ a b c out. absurd (out (unspawned_at b c.not_main c.there));
    busy = λ at r i. absurd (none_in at r i);
    greedy = λ u lt. absurd (omega (arith, lt));
  }

  pub given_first : Given rows p starts workers states idle 0
  given_first = given_fresh rows p starts workers states idle 0 (λ r h e. omega (arith, start_at r h, e, early))

  pub passed_first : HasPassed queue 0
  passed_first at r i = absurd (none_in at r i)

-- the lowest bits of a word, so many of them
low_bits : (count : ℕ) → count ≤ 64 → (2 ^ 64 - 1) / 2 ^ (64 - count) ≡ 2 ^ count - 1
low_bits count few = (let left : 64 - (64 - count) ≡ count = omega (arith, few) in rw left at (ones_shr 64 (64 - count) (omega arith)))

pub all_set : (count : ℕ) → count ≤ 64 → (w : ℕ) → w < count → bit_at ((2 ^ 64 - 1) / 2 ^ (64 - count)) w ≡ 1
all_set count few w h = rw (low_bits count few) (bit_at_ones count w h)

pub others_clear : (count : ℕ) → count ≤ 64 → (w : ℕ) → count ≤ w → bit_at ((2 ^ 64 - 1) / 2 ^ (64 - count)) w ≡ 0
others_clear count few w h = rw (low_bits count few) (bit_at_ones_above count w h)

-- main has two steps before it, and each other row three
pub steps_first : (n : ℕ) (states : List RowState) → 0 < n → states ≡ Waiting ∷ replicate (pred n) Unspawned → steps_of_all states + 1 ≡ n * 3
steps_first zero states some is = absurd (omega (arith, some))
steps_first (suc n) states some is = rw is (omega (arith, sum_by-cons steps_left Waiting (replicate n Unspawned), sum_by-replicate steps_left n Unspawned))
