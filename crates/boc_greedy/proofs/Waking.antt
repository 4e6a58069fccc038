-- The frontier as a row is spawned, starts or ends, and at the beginning.
use Rattle.std.proofs.Common.{◌≡◌, ◌≢◌, ℕ, zero, suc, ◌+◌, ◌-◌, ◌<◌, ◌⊎◌, List, [], ◌∷◌, length, refl, sym, subst, inl, inr, arith, replicate, length-set}
use Rattle.std.proofs.Common.{get_or-set_same, get_or-set_other}
use Rattle.std.specs.Prelude.{slice_index, slice_set, pred, Some, None, ◌↔◌}
use Rattle.std.specs.List.{Contains}
use Rattle.std.proofs.lemmas.Bool.{cases_eq, cases_lt}
use Rattle.std.proofs.lemmas.List.{length-replicate}
use Rattle.std.proofs.lemmas.Option.{slice_get_within}
use Rattle.boc_runs.specs.declared.rows.Row.{Row}
use Rattle.boc_order.specs.Waits.{links_of, times, AreWaits, AreFollowers}
use Rattle.boc_order.proofs.Near.{has}
use Rattle.boc_greedy.specs.declared.frontier.RowState.{RowState}
use Rattle.boc_greedy.specs.declared.frontier.RowState.TheVariants.{Unspawned, Waiting, UnderWay, Over}
use Rattle.boc_greedy.specs.declared.row_set.RowSet.{RowSet}
use Rattle.boc_greedy.specs.RowSets.{IsRowSet, Has}
use Rattle.boc_greedy.specs.RowStates.{IsAt, CanStart}
use Rattle.boc_greedy.specs.Frontier.{AwaitsWorker, CountsReady, AreCountedBut, IsKeptBut}
use Rattle.boc_greedy.proofs.Counted.{all_over, none_unmet, unmet_same, unmet_ended, unmet_all}
use Rattle.boc_greedy.proofs.Followed.{follower_waits, waiter_follows, link_there, some_times, times-first, times-other}
use Rattle.boc_greedy.proofs.Puts.{not_same}
use Rattle.boc_greedy.proofs.Queueing.{queued, queued_each, queued_more, queued_woken, queued_pop}
use Rattle.boc_greedy.proofs.Starting.{moved_same, ready_can, can_ready, stay_in_turn, ready_stays, was_ready}

-- by its count a row is ready where it waits for nothing but a worker, unless it is left
module _ (waits : List (List ℕ)) (states : List RowState) (unmet left : List ℕ) (are : AreCountedBut left waits states unmet) (row : ℕ)
    (there : row < length states) where
  pub counts_awaits : CountsReady states unmet row → AwaitsWorker waits states row
  counts_awaits is = record { waiting = is.waiting; over = all_over states (links_of waits row) (omega (arith, are.count row there, is.none_unmet)) }

  pub awaits_counts : AwaitsWorker waits states row → CountsReady states unmet row ⊎ Contains left row
  awaits_counts is = elim (cases_lt 0 (times row left)) [
    | inl some ↦ inr (some_times row left some)
    | inr none ↦ inl (record { waiting = is.waiting; none_unmet = omega (arith, are.count row there, none_unmet states (links_of waits row) is.over, none) })
  ]

-- a row that goes on to another state before its end leaves the counts as they are
counts_stay : (waits : List (List ℕ)) (states : List RowState) (unmet : List ℕ) (row : ℕ) (from to : RowState) → IsAt states row from → (from ≡ Over → ⊥)
    → (to ≡ Over → ⊥) →
    AreCountedBut [] waits states unmet → AreCountedBut [] waits (slice_set states row to) unmet
counts_stay waits states unmet row from to was lives goes_on are = record {
  whole = simp length-set are.whole;
  waits_whole = simp length-set are.waits_whole;
  count = λ r h. (let h' : r < length states = omega (arith, h, length-set states row to) in
      omega (arith, are.count r h', unmet_same states row from to was lives goes_on (links_of waits r)));
}

module _ (rows : List Row) (waits followers : List (List ℕ)) (states : List RowState) (unmet : List ℕ) (ready : RowSet) where
  -- a row is spawned
  pub spawned : (row : ℕ) (ready' : RowSet) → IsKeptBut rows [] waits followers states unmet ready → IsAt states row Unspawned → IsRowSet ready' →
      ((r : ℕ) → Has ready' r ↔ (Has ready r ⊎ ((r ≡ row) × CountsReady (slice_set states row Waiting) unmet row))) →
      IsKeptBut rows [] waits followers (slice_set states row Waiting) unmet ready'
  spawned row ready' is was set each = record {
    in_turn = stay_in_turn rows states row Unspawned Waiting was (λ e. (cc)) (λ other. absurd (other refl)) is.in_turn;
    are_waits = is.are_waits;
    are_followers = is.are_followers;
    are_counted = counted;
    are_ready = queued_woken (AwaitsWorker waits (slice_set states row Waiting)) (CountsReady (slice_set states row Waiting) unmet row) row [] ready ready'
        (queued_more (AwaitsWorker waits states) (AwaitsWorker waits (slice_set states row Waiting)) (row ∷ []) ready is.are_ready
        (λ r m. ready_stays rows states row Unspawned Waiting was (λ e. (cc)) waits r (not_same states row Unspawned was r Waiting (λ e. (cc)) m.waiting) m)
        (λ r m. elim (cases_eq r row) [
          | inl e ↦ inr (0, omega arith, sym e)
          | inr n ↦ inl (was_ready rows states row Unspawned Waiting was (λ e. (cc)) waits r n (λ e. absurd (cc)) m)
        ]))
        set each (counts_awaits waits _ unmet [] counted row there) (awaits_counts waits _ unmet [] counted row there);
  }
    where
      counted : AreCountedBut [] waits (slice_set states row Waiting) unmet
      counted = counts_stay waits states unmet row Unspawned Waiting was (λ e. (cc)) (λ e. (cc)) is.are_counted

      there : row < length (slice_set states row Waiting)
      there = omega (arith, slice_get_within states row Unspawned was, length-set states row Waiting)

  -- the rows in the set are those that can start
  pub had_awaits : (row : ℕ) → IsKeptBut rows [] waits followers states unmet ready → Has ready row → AwaitsWorker waits states row
  had_awaits row is has = (queued_each (AwaitsWorker waits states) ready is.are_ready row).0 has

  pub had_can : (row : ℕ) → IsKeptBut rows [] waits followers states unmet ready → Has ready row → CanStart rows states row
  had_can row is has =
      let m = had_awaits row is has in
      ready_can rows waits states is.are_waits is.in_turn.past row (omega (arith, slice_get_within states row Waiting m.waiting, is.in_turn.whole)) m

  pub can_had : (row : ℕ) → IsKeptBut rows [] waits followers states unmet ready → CanStart rows states row → Has ready row
  can_had row is can = (queued_each (AwaitsWorker waits states) ready is.are_ready row).1
      (can_ready rows waits states is.are_waits row (omega (arith, slice_get_within states row Waiting can.waits, is.in_turn.whole)) can)

  -- a row gets a worker
  pub started : (row : ℕ) (ready' : RowSet) → IsKeptBut rows [] waits followers states unmet ready → Has ready row → IsRowSet ready' →
      ((r : ℕ) → Has ready' r ↔ (Has ready r × (r ≢ row))) → IsKeptBut rows [] waits followers (slice_set states row UnderWay) unmet ready'
  started row ready' is has set less =
      let was : IsAt states row Waiting = (had_awaits row is has).waiting in
      record {
        in_turn = stay_in_turn rows states row Waiting UnderWay was (λ e. (cc)) (λ _. (had_can row is has).clear) is.in_turn;
        are_waits = is.are_waits;
        are_followers = is.are_followers;
        are_counted = counts_stay waits states unmet row Waiting UnderWay was (λ e. (cc)) (λ e. (cc)) is.are_counted;
        are_ready = queued_pop (AwaitsWorker waits states) (AwaitsWorker waits (slice_set states row UnderWay)) row ready ready' is.are_ready set less
            (λ m. not_same (slice_set states row UnderWay) row UnderWay (moved_same states row UnderWay Waiting was) row Waiting (λ e. (cc)) m.waiting refl)
            (ready_stays rows states row Waiting UnderWay was (λ e. (cc)) waits)
            (λ r n. was_ready rows states row Waiting UnderWay was (λ e. (cc)) waits r n (λ e. absurd (cc)));
      }

  -- a row that is under way ends, and those that follow it are left
  pub ended : (row : ℕ) → IsKeptBut rows [] waits followers states unmet ready → IsAt states row UnderWay →
      IsKeptBut rows (links_of followers row) waits followers (slice_set states row Over) unmet ready
  ended row is was = record {
    in_turn = stay_in_turn rows states row UnderWay Over was (λ e. (cc)) (λ _. is.in_turn.turns row was) is.in_turn;
    are_waits = is.are_waits;
    are_followers = is.are_followers;
    are_counted = record {
      whole = simp length-set is.are_counted.whole;
      waits_whole = simp length-set is.are_counted.waits_whole;
      count = λ r h. (let h' : r < length states = omega (arith, h, length-set states row Over) in
          omega (arith, is.are_counted.count r h', unmet_ended states row was (links_of waits r), is.are_followers.same row r (there row is was)));
    };
    are_ready = queued_more (AwaitsWorker waits states) (AwaitsWorker waits (slice_set states row Over)) (links_of followers row) ready is.are_ready
        (λ r m. ready_stays rows states row UnderWay Over was (λ e. (cc)) waits r (not_same states row UnderWay was r Waiting (λ e. (cc)) m.waiting) m)
        (λ r m. elim (has (links_of waits r) row) [
          | inl waits_for ↦ inr (waiter_follows waits followers is.are_followers row r (there row is was) waits_for)
          | inr lacks ↦ inl (was_ready rows states row UnderWay Over was (λ e. (cc)) waits r
              (not_same (slice_set states row Over) row Over (moved_same states row Over UnderWay was) r Waiting (λ e. (cc)) m.waiting) (λ _ has. lacks has) m)
        ]);
  }
    where
      there : (row : ℕ) → IsKeptBut rows [] waits followers states unmet ready → IsAt states row UnderWay → row < length waits
      there row is was = omega (arith, slice_get_within states row UnderWay was, is.are_counted.waits_whole)

  -- of a row that was left one more that it waits for is over, and it was looked at
  pub woken : (row : ℕ) (left unmet' : List ℕ) (ready' : RowSet) → IsKeptBut rows (row ∷ left) waits followers states unmet ready → row < length states →
      unmet' ≡ slice_set unmet row (slice_index unmet row - 1) → IsRowSet ready'
      → ((r : ℕ) → Has ready' r ↔ (Has ready r ⊎ ((r ≡ row) × CountsReady states unmet' row))) →
      IsKeptBut rows left waits followers states unmet' ready'
  woken row left unmet' ready' is there less set each = record {
    in_turn = is.in_turn;
    are_waits = is.are_waits;
    are_followers = is.are_followers;
    are_counted = counted;
    are_ready = queued_woken (AwaitsWorker waits states) (CountsReady states unmet' row) row left ready ready' is.are_ready set each
        (counts_awaits waits states unmet' left counted row there) (awaits_counts waits states unmet' left counted row there);
  }
    where
      was : AreCountedBut (row ∷ left) waits states unmet
      was = is.are_counted

      counted : AreCountedBut left waits states unmet'
      counted = rw less (record {
        whole = simp length-set was.whole;
        waits_whole = was.waits_whole;
        count = λ r h. elim (cases_eq r row) [
          | inl e ↦ rw e (let l : row < length unmet = omega (arith, there, was.whole) in
              rw get_or-set_same (omega (arith, was.count row there, times-first row left)))
          | inr ne ↦ rw get_or-set_other (omega (arith, was.count r h, times-other r row left ne))
        ];
      })

  -- those that follow a row are there
  pub follower_there : (left : List ℕ) (row r : ℕ) → IsKeptBut rows left waits followers states unmet ready → row < length states →
      Contains (links_of followers row) r → r < length states
  follower_there left row r is there has =
      let all : length waits ≡ length states = is.are_counted.waits_whole in
      omega (arith, all, link_there waits r row (follower_waits waits followers is.are_followers row r (omega (arith, all, there)) has))

-- at the beginning main waits, and no other row is spawned
spawned_none : (m k : ℕ) (s : RowState) → IsAt (replicate m Unspawned) k s → Unspawned ≡ s
spawned_none zero k s e = absurd (let f : None ≡ Some s = e in cc)
spawned_none (suc m) zero s e = let f : Some Unspawned ≡ Some s = e in cc
spawned_none (suc m) (suc k) s e = spawned_none m k s e

pub main_alone : (m k : ℕ) (s : RowState) → IsAt (Waiting ∷ replicate m Unspawned) k s → ((k ≡ 0) × (Waiting ≡ s)) ⊎ (Unspawned ≡ s)
main_alone m zero s e = inl (refl, (let f : Some Waiting ≡ Some s = e in cc))
main_alone m (suc k) s e = inr (spawned_none m k s e)

-- and no row is at any other state
pub none_else : (m : ℕ) (s : RowState) → (Waiting ≡ s → ⊥) → (Unspawned ≡ s → ⊥) → (k : ℕ) → IsAt (Waiting ∷ replicate m Unspawned) k s → ⊥
none_else m s not_main not_other k e = elim (main_alone m k s e) [ inl p ↦ not_main p.1 | inr q ↦ not_other q ]

-- what a row waits for is there, before it
pub wait_there : (rows : List Row) (waits : List (List ℕ)) → AreWaits rows waits → (r a : ℕ) → Contains (links_of waits r) a → (a < r) × (r < length rows)
wait_there rows waits are r a has =
    let there : r < length rows = omega (arith, are.whole, link_there waits r a has) in
    (((are.at r there).sound a has).near.before, there)

pub begun : (rows : List Row) (waits followers : List (List ℕ)) (states : List RowState) (unmet : List ℕ) (none ready : RowSet) (m : ℕ) →
    states ≡ Waiting ∷ replicate m Unspawned → m + 1 ≡ length rows → AreWaits rows waits → AreFollowers waits followers → length unmet ≡ length rows →
    ((r : ℕ) → r < length rows → slice_index unmet r ≡ length (links_of waits r)) →
    ((r : ℕ) → Has none r → ⊥) → IsRowSet ready → ((r : ℕ) → Has ready r ↔ (Has none r ⊎ (r ≡ 0))) → IsKeptBut rows [] waits followers states unmet ready
begun rows waits followers states unmet none ready m es all are follow whole counts empty set main = rw es (record {
  in_turn = record {
    whole = so_many;
    turns = λ r u. absurd (none_else m UnderWay (λ e. (cc)) (λ e. (cc)) r u);
    past = λ r o. absurd (none_else m Over (λ e. (cc)) (λ e. (cc)) r o);
  };
  are_waits = are;
  are_followers = follow;
  are_counted = record {
    whole = omega (arith, whole, so_many);
    waits_whole = omega (arith, are.whole, so_many);
    count = λ r h. omega (arith, counts r (omega (arith, h, so_many)), unmet_all first (none_else m Over (λ e. (cc)) (λ e. (cc))) (links_of waits r));
  };
  are_ready = queued [] (AwaitsWorker waits first) ready set
      (λ r h. elim ((main r).0 h) [ inl was ↦ absurd (empty r was) | inr e ↦ subst (AwaitsWorker waits first) (sym e) main_awaits ])
      (λ r h. elim (main_alone m r Waiting h.waiting) [ inl q ↦ inl ((main r).1 (inr q.0)) | inr q ↦ absurd (cc) ]);
})
  where
    first : List RowState
    first = Waiting ∷ replicate m Unspawned

    so_many : length first ≡ length rows
    so_many = omega (arith, all, length-replicate m Unspawned)

    main_awaits : AwaitsWorker waits first 0
    main_awaits = record { waiting = refl; over = λ a has. absurd (omega (arith, (wait_there rows waits are 0 a has).0)) }

-- main is the first of the rows
pub main_waits : (n : ℕ) → 0 < n → (slice_set (replicate n Unspawned) 0 Waiting ≡ Waiting ∷ replicate (pred n) Unspawned) × (pred n + 1 ≡ n)
main_waits zero some = absurd (omega (arith, some))
main_waits (suc n) some = (refl, omega arith)
