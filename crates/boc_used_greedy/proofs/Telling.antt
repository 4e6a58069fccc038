-- The cowns of a row that has just started are taken on, and rows of which it is known when they are ready go into the queue.
use Rattle.std.proofs.Common.{◌≡◌, ◌≢◌, ◌⊎◌, inl, inr, ℕ, ◌+◌, ◌^◌, ◌<◌, ◌≤◌, List, ◌∷◌, length, Option, Some, refl, subst, sym, ap, ◌∙◌, arith}
use Rattle.std.proofs.Common.{length-set}
use Rattle.std.specs.Prelude.{slice_get, slice_index, slice_set}
use Rattle.std.specs.List.{Contains}
use Rattle.std.specs.List.Sorted.{IsPermutation}
use Rattle.std.specs.BinaryHeap.{IsHeap}
use Rattle.std.proofs.lemmas.Bool.{cases_eq}
use Rattle.std.proofs.lemmas.List.{get_or_default}
use Rattle.std.proofs.lemmas.List.Elements.{Contains-get_or}
use Rattle.boc_program.specs.declared.limits.TheConstants.{MOST_COWNS}
use Rattle.boc_program.proofs.ChangedItems.{set_same, set_other}
use Rattle.boc_runs.specs.declared.rows.Row.{Row}
use Rattle.boc_runs.specs.Rows.{cowns_of}
use Rattle.boc_plans.specs.Plans.{start_of}
use Rattle.boc_order.proofs.Found.{among_tells}
use Rattle.boc_greedy.specs.Queues.{Entry, entry_order, IsIn}
use Rattle.boc_greedy.specs.Simulating.{later}
use Rattle.boc_uses.specs.declared.uses.Use.{Use}
use Rattle.boc_turns.proofs.Gathering.{use_has}
use Rattle.boc_used_greedy.specs.declared.fronts.Front.{Front}
use Rattle.boc_used_greedy.specs.Ready.{IsReadyBy, IsReadyFrom}
use Rattle.boc_used_greedy.specs.Fronts.{Notes, Has, IsFront, AreFronts, AreNewlyTold, IsOneMore}
use Rattle.boc_used_greedy.specs.Plans.{NotStarted, IsQueuedMore}
use Rattle.boc_used_greedy.proofs.Fronting.{front_still}
use Rattle.boc_used_greedy.proofs.Heaps.{in_was, in_stays, in_here}

-- ---- rows go into the queue

module _ (rows : List Row) (holds : List (Option Use)) (plan list : List ℕ) (waiting : List Entry) where
  -- the first n rows of the list have been looked at
  pub record AreQueuedTo (n : ℕ) (more : List Entry) : Type 0 where
    pub heap : IsHeap entry_order more
    pub stays : (due r : ℕ) → IsIn waiting due r → IsIn more due r
    pub was : (due r : ℕ) → IsIn more due r → IsIn waiting due r ⊎ (NotStarted rows plan r × IsReadyFrom rows holds plan due r × (due < 2 ^ 63))
    pub all : (t k : ℕ) → t < 2 ^ 63 → k < n → NotStarted rows plan (slice_index list k) → IsReadyBy rows holds plan t (slice_index list k)
        → (due : ℕ) × IsIn more due (slice_index list k)

  pub queued_none : IsHeap entry_order waiting → AreQueuedTo 0 waiting
  queued_none heap = record {
    heap = heap;
    stays = λ due r i. i;
    was = λ due r i. inl i;
    all = λ t k low lt. absurd (omega (arith, lt));
  }

  -- a row that has started, or of which it isn't known when it is ready
  pub queued_skip : (n : ℕ) (more : List Entry) → AreQueuedTo n more
      → ((t : ℕ) → t < 2 ^ 63 → NotStarted rows plan (slice_index list n) → IsReadyBy rows holds plan t (slice_index list n) → ⊥) → AreQueuedTo (n + 1) more
  queued_skip n more q none = record {
    heap = q.heap;
    stays = q.stays;
    was = q.was;
    all = λ t k low lt not by. elim (cases_eq k n) [
      | inl e ↦ absurd (none t low (subst (λ (x : ℕ). NotStarted rows plan (slice_index list x)) e not)
          (subst (λ (x : ℕ). IsReadyBy rows holds plan t (slice_index list x)) e by))
      | inr ne ↦ q.all t k low (omega (arith, lt, ne)) not by
    ];
  }

  pub queued_push : (n : ℕ) (more after : List Entry) (due row : ℕ) → AreQueuedTo n more → row ≡ slice_index list n → NotStarted rows plan row
      → IsReadyFrom rows holds plan due row → due < 2 ^ 63 → IsHeap entry_order after → IsPermutation (record { 0 = (due, row) } ∷ more) after
      → AreQueuedTo (n + 1) after
  queued_push n more after due row q at not from low heap p = record {
    heap = heap;
    stays = λ d r i. in_stays after more (record { 0 = (due, row) }) p _ (q.stays d r i);
    was = λ d r i. elim (in_was after more (record { 0 = (due, row) }) p _ i) [
      | inl e ↦ (
          let same : row ≡ r = ap (λ (x : Entry). x.0.1) e in
          let tick : due ≡ d = ap (λ (x : Entry). x.0.0) e in
          inr (
            subst (NotStarted rows plan) same not,
            subst (λ (x : ℕ). IsReadyFrom rows holds plan x r) tick (subst (IsReadyFrom rows holds plan due) same from),
            omega (arith, tick, low),
          ))
      | inr old ↦ q.was d r old
    ];
    all = λ t k small lt unstarted by. elim (cases_eq k n) [
      | inl e ↦ (
          let same : row ≡ slice_index list k = at ∙ ap (slice_index list) (sym e) in
          (due, subst (IsIn after due) same (in_here after more (record { 0 = (due, row) }) p)))
      | inr ne ↦ (
          let (d, i) = q.all t k small (omega (arith, lt, ne)) unstarted by in
          (d, in_stays after more (record { 0 = (due, row) }) p _ i))
    ];
  }

  pub queued_all : (n : ℕ) (more : List Entry) → length list ≤ n → AreQueuedTo n more → IsQueuedMore rows holds plan list waiting more
  queued_all n more all q = record {
    heap = q.heap;
    stays = q.stays;
    was = q.was;
    all = λ t r low (k, lt, at) not by. (
        let here : slice_index list k ≡ r = get_or_default list k 0 r lt ∙ at in
        let (due, i) = q.all t k low (omega (arith, lt, all)) (subst (NotStarted rows plan) (sym here) not)
        (subst (IsReadyBy rows holds plan t) (sym here) by) in
        (due, subst (IsIn more due) here i));
  }

-- ---- cowns are taken on

-- a cown's front is that of the later starts, and the rows are noted to which the cown is newly told to come
pub record IsTaken (rows : List Row) (holds : List (Option Use)) (starts : List ℕ) (old : List Front) (list : List ℕ) (c : ℕ) (x : Front) : Type 0 where
  pub front : IsFront rows holds starts c x
  pub notes : (y : Front) → slice_get old c ≡ Some y → Notes rows holds starts c y.told x.told list

-- the first n cowns of the row are taken on
pub record AreTakenTo (rows : List Row) (holds : List (Option Use)) (starts : List ℕ) (row : ℕ) (old : List Front) (n : ℕ) (fronts : List Front)
    (list : List ℕ) : Type 0 where
  pub whole : length fronts ≡ MOST_COWNS
  pub taken : (k : ℕ) (x : Front) → k < n → slice_get fronts (slice_index (cowns_of rows row) k) ≡ Some x
      → IsTaken rows holds starts old list (slice_index (cowns_of rows row) k) x
  pub others : (c : ℕ) → ((k : ℕ) → k < n → slice_index (cowns_of rows row) k ≢ c) → slice_get fronts c ≡ slice_get old c

module _ (rows : List Row) (holds : List (Option Use)) (plan starts : List ℕ) (row : ℕ) (one : IsOneMore plan row starts) (old : List Front)
    (f : AreFronts rows holds plan old)
    (distinct : (i j : ℕ) → i < length (cowns_of rows row) → j < length (cowns_of rows row) → i ≢ j
    → slice_index (cowns_of rows row) i ≢ slice_index (cowns_of rows row) j) where
  abbrev cown : ℕ → ℕ
  cown k = slice_index (cowns_of rows row) k

  pub taken_none : (list : List ℕ) → AreTakenTo rows holds starts row old 0 old list
  taken_none list = record { whole = f.whole; taken = λ k x lt. absurd (omega (arith, lt)); others = λ c none. refl }

  pub taken_more : (n : ℕ) (fronts : List Front) (list more : List ℕ) (x : Front) → n < length (cowns_of rows row) → cown n < MOST_COWNS
      → AreTakenTo rows holds starts row old n fronts list → Has more list → IsTaken rows holds starts old more (cown n) x
      → AreTakenTo rows holds starts row old (n + 1) (slice_set fronts (cown n) x) more
  taken_more n fronts list more x low small t has is =
      let there : cown n < length fronts = omega (arith, small, t.whole) in
      record {
        whole = length-set fronts (cown n) x ∙ t.whole;
        taken = λ k y lt at. elim (cases_eq k n) [
          | inl e ↦ (
              let here : slice_get (slice_set fronts (cown n) x) (cown k) ≡ Some x =
              ap (λ (i : ℕ). slice_get (slice_set fronts (cown n) x) (cown i)) e ∙ set_same fronts (cown n) x there in
              let same : x ≡ y = (let s : Some x ≡ Some y = sym here ∙ at in cc) in
              subst (λ (i : ℕ). IsTaken rows holds starts old more (cown i) y) (sym e) (subst (IsTaken rows holds starts old more (cown n)) same is))
          | inr ne ↦ (
              let before : k < n = omega (arith, lt, ne) in
              let apart : cown k ≢ cown n = distinct k n (omega (arith, before, low)) low ne in
              let was = t.taken k y before (sym (set_other fronts (cown n) (cown k) x apart) ∙ at) in
              record { front = was.front; notes = λ z g b ge less s. has b (was.notes z g b ge less s) })
        ];
        others = λ c none. (
            let ne : c ≢ cown n = λ e. none n (omega arith) (sym e) in
            set_other fronts (cown n) c x ne ∙ t.others c (λ k lt. none k (omega (arith, lt))));
      }

  module _ (n : ℕ) (fronts : List Front) (list : List ℕ) (all : length (cowns_of rows row) ≤ n) (le : n ≤ length (cowns_of rows row))
      (t : AreTakenTo rows holds starts row old n fronts list) where
    at_cown : (c : ℕ) (x : Front) → slice_get fronts c ≡ Some x → IsTaken rows holds starts old list c x
    at_cown c x at = elim (among_tells c (cowns_of rows row)) [
      | inl (e, (k, low, is)) ↦ (
          let here : cown k ≡ c = get_or_default (cowns_of rows row) k 0 c low ∙ is in
          subst (λ (d : ℕ). IsTaken rows holds starts old list d x) here (t.taken k x (omega (arith, low, all)) (ap (slice_get fronts) here ∙ at)))
      | inr (e, none) ↦ (
          let was : slice_get old c ≡ Some x = sym (t.others c (λ k lt same. none (subst (Contains (cowns_of rows row)) same
          (Contains-get_or (cowns_of rows row) k 0 (omega (arith, lt, le)))))) ∙ at in
          record {
            front = front_still rows holds c plan starts row x one.not_started one.same (λ h. none (use_has (cowns_of rows row) _ c h.0 h.1)) (f.each c x was);
            notes = λ y g b ge lt s. absurd (
                let same : y ≡ x = (let q : Some y ≡ Some x = sym g ∙ was in cc) in
                omega (arith, ge, lt, ap (λ (z : Front). z.told) same));
          })
    ]

    pub taken_fronts : AreFronts rows holds starts fronts
    taken_fronts = record { whole = t.whole; each = λ c x at. (at_cown c x at).front }

    pub taken_told : AreNewlyTold rows holds starts old fronts list
    taken_told c y x before now = (at_cown c x now).notes y before
