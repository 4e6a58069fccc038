-- The queue, as rows go in and out.
use Rattle.std.proofs.Common.{◌≡◌, ◌≢◌, ℕ, ◌+◌, ◌≤◌, ◌⊎◌, List, [], ◌∷◌, length, get_or, sym, ap, ◌∙◌, inl, inr, arith}
use Rattle.std.specs.Prelude.{slice_index_or, Option, Some, None, IfSome, IfNone}
use Rattle.std.specs.List.Sorted.{IsPermutation}
use Rattle.std.specs.BinaryHeap.{IsHeap, PopsGreatest}
use Rattle.std.proofs.lemmas.Bool.{cases_eq}
use Rattle.std.proofs.lemmas.List.Elements.{Contains-get_or}
use Rattle.std.proofs.lemmas.List.Sorted.{Contains-permutation, IsPermutation-sym, sum_by-IsPermutation}
use Rattle.std.proofs.lemmas.List.Sums.{sum_by-cons, sum_by-le, get_or-le-sum_by}
use Rattle.std.proofs.lemmas.Option.{slice_get_within, get_or_from_slice_get}
use Rattle.boc_order.proofs.Filling.{one_if, one_same, one_other}
use Rattle.boc_order.proofs.Remembering.{contains_head, contains_tail, contains_cases}
use Rattle.boc_greedy.specs.Queues.{Entry, entry_order, entries_of, IsIn, IsOnTop, IsQueue, IsPutOff}

-- what stands on top is in the queue
pub on_top : (queue : List Entry) (tick r : ℕ) → IsOnTop queue tick r → IsIn queue tick r
on_top queue tick r top = (0, slice_get_within queue 0 _ top, get_or_from_slice_get queue 0 _ _ top)

-- a row that is in the queue has an entry, and one that isn't has none
in_counts : (queue : List Entry) (r : ℕ) → entries_of r queue ≡ 0 → (change q : ℕ) → IsIn queue change q → q ≢ r
in_counts queue r none change q i same =
    let one : one_if q r ≤ entries_of r queue = rw i.2 at (get_or-le-sum_by (λ (e : Entry). one_if e.0.1 r) queue i.0 (record { 0 = (change, q) }) i.1) in
    omega (arith, none, one_same q r same)

pub none_counts : (queue : List Entry) (r : ℕ) → ((change q : ℕ) → IsIn queue change q → q ≢ r) → entries_of r queue ≡ 0
none_counts queue r none = omega (
  arith,
  sum_by-le (λ (e : Entry). one_if e.0.1 r) 0 queue (λ k d h. omega (arith, one_other (get_or queue k d).0.1 r (none _ _ (Contains-get_or queue k d h)))),
)

pub empty_queue : (queue : List Entry) → queue ≡ [] → IsHeap entry_order queue → IsQueue queue
empty_queue queue is heap = record { ordered = heap; once = λ r. rw is (omega arith) }

-- what is left of a queue where the entry of row r was taken out
pub record Taken (queue rest : List Entry) (r : ℕ) : Type 0 where
  pub once : (v : ℕ) → entries_of v rest ≤ 1
  pub gone : entries_of r rest ≡ 0
  pub was : (change q : ℕ) → IsIn rest change q → IsIn queue change q × (q ≢ r)
  pub stays : (change q : ℕ) → q ≢ r → IsIn queue change q → IsIn rest change q

-- the top was taken off
pub taken : (queue rest : List Entry) (x : Entry) (tick r : ℕ) → IsQueue queue → IsOnTop queue tick r → x ≡ slice_index_or queue 0 x
    → IsPermutation queue (x ∷ rest) →
    Taken queue rest r
taken queue rest x tick r q top at p = record {
  once = λ v. omega (arith, count v, q.once v);
  gone = gone;
  was = λ change v i. (Contains-permutation (x ∷ rest) queue _ (IsPermutation-sym _ _ p) (contains_tail x _ rest i), in_counts rest r gone change v i);
  stays = λ change v ne i. elim (contains_cases x _ rest (Contains-permutation queue (x ∷ rest) _ p i)) [
    | inl e ↦ absurd (ne (sym (ap (λ (y : Entry). y.0.1) e) ∙ row))
    | inr m ↦ m
  ];
}
  where
    row : x.0.1 ≡ r
    row = ap (λ (e : Entry). e.0.1) (at ∙ get_or_from_slice_get queue 0 _ x top)

    count : (v : ℕ) → one_if x.0.1 v + entries_of v rest ≡ entries_of v queue
    count v = omega (arith, sum_by-IsPermutation (λ (e : Entry). one_if e.0.1 v) queue (x ∷ rest) p, sum_by-cons (λ (e : Entry). one_if e.0.1 v) x rest)

    gone : entries_of r rest ≡ 0
    gone = omega (arith, count r, q.once r, one_same x.0.1 r row)

-- the top was taken off, and what is left is a queue
pub record Popped (queue rest : List Entry) (r : ℕ) : Type 0 where
  pub is_queue : IsQueue rest
  pub taken : Taken queue rest r

pub popped : (queue rest : List Entry) (o : Option Entry) (len tick r : ℕ) → IsQueue queue → IsOnTop queue tick r → len ≡ length queue →
    IfSome o (λ x. x ≡ slice_index_or queue 0 x) → IfSome o (λ x. IsPermutation queue (x ∷ rest)) → IfSome o (λ x. PopsGreatest entry_order queue x rest)
    → IfNone o (len ≡ 0) →
    Popped queue rest r
popped queue rest None len tick r q top is at p heap none = absurd (omega (arith, is, none, slice_get_within queue 0 _ top))
popped queue rest (Some x) len tick r q top is at p heap none =
    let t = taken queue rest x tick r q top at p in
    record { is_queue = record { ordered = (heap q.ordered).0; once = t.once }; taken = t }

-- a queue in which row r has come, with a tick
pub record Pushed (queue more : List Entry) (change r : ℕ) : Type 0 where
  pub is_queue : IsQueue more
  pub here : IsIn more change r
  pub was : (at q : ℕ) → IsIn more at q → ((at ≡ change) × (q ≡ r)) ⊎ IsIn queue at q
  pub stays : (at q : ℕ) → IsIn queue at q → IsIn more at q

pub pushed : (queue more : List Entry) (change r : ℕ) → ((v : ℕ) → entries_of v queue ≤ 1) → entries_of r queue ≡ 0 → IsHeap entry_order more →
    IsPermutation (record { 0 = (change, r) } ∷ queue) more → Pushed queue more change r
pushed queue more change r all_once none heap p = record {
  is_queue = record { ordered = heap; once = once };
  here = Contains-permutation _ more _ p (contains_head _ queue);
  was = λ at v i. elim (contains_cases x _ queue (Contains-permutation more (x ∷ queue) _ (IsPermutation-sym _ _ p) i)) [
    | inl e ↦ inl (sym (ap (λ (y : Entry). y.0.0) e), sym (ap (λ (y : Entry). y.0.1) e))
    | inr m ↦ inr m
  ];
  stays = λ at v i. Contains-permutation _ more _ p (contains_tail x _ queue i);
}
  where
    x : Entry
    x = record { 0 = (change, r) }

    once : (v : ℕ) → entries_of v more ≤ 1
    once v =
        let count : entries_of v more ≡ one_if r v + entries_of v queue =
        omega (arith, sum_by-IsPermutation (λ (e : Entry). one_if e.0.1 v) (x ∷ queue) more p, sum_by-cons (λ (e : Entry). one_if e.0.1 v) x queue) in
        elim (cases_eq r v) [
          | inl e ↦ (let s : entries_of v queue ≡ entries_of r queue = ap (λ (u : ℕ). entries_of u queue) (sym e) in
              omega (arith, one_same r v e))
          | inr ne ↦ omega (arith, one_other r v ne, all_once v)
        ]

-- the top was taken off, and came back with a later tick
pub put_back : (queue rest later : List Entry) (x : Entry) (before tick r : ℕ) → IsQueue queue → IsOnTop queue before r → x ≡ slice_index_or queue 0 x
    → IsPermutation queue (x ∷ rest) →
    IsHeap entry_order later → IsPermutation (record { 0 = (tick, x.0.1) } ∷ rest) later → IsPutOff queue r tick later
put_back queue rest later x before tick r q top at p heap back = record {
  is_queue = pq.is_queue;
  here = pq.here;
  was = λ change v i. elim (pq.was change v i) [ inl e ↦ inl e | inr m ↦ inr (t.was change v m) ];
  stays = λ change v ne i. pq.stays change v (t.stays change v ne i);
}
  where
    t : Taken queue rest r
    t = taken queue rest x before r q top at p

    row : x.0.1 ≡ r
    row = ap (λ (e : Entry). e.0.1) (at ∙ get_or_from_slice_get queue 0 _ x top)

    pq : Pushed rest later tick r
    pq = pushed rest later tick r t.once t.gone heap (rw row at back)
