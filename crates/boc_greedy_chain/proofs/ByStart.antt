-- Turns in the order of their starts, and which row has a worker before another one.
use Rattle.std.proofs.Common.{◌≡◌, ◌≢◌, ℕ, ◌+◌, ◌<◌, ◌≤◌, List, [], ◌∷◌, ◌++◌, length, subst, get_or, arith, sym, ◌∙◌, ⊎_elim, inl, inr, Option}
use Rattle.std.proofs.Common.{Some, None, ap, refl, false, true≢false, is_lt, Ordering, Less, Equal, set, replicate, length-set}
use Rattle.std.proofs.Common.{get_or-set_other}
use Rattle.std.specs.Prelude.{All, slice_get}
use Rattle.std.specs.Cmp.{IsTotalOrder, nat_cmp_is}
use Rattle.std.specs.List.Sorted.{IsPermutation, IsSortedBy}
use Rattle.std.specs.Ordering.{nat_cmp, ordering_then, on}
use Rattle.std.proofs.lemmas.Bool.{cases_lt, cases_eq, cases_order}
use Rattle.std.proofs.lemmas.Cmp.{nat_cmp_total, then_total, on_total}
use Rattle.std.proofs.lemmas.Grind.{get_or-set_at}
use Rattle.std.proofs.lemmas.List.{get_or-replicate, get_or_read, length-replicate}
use Rattle.std.proofs.lemmas.List.Sorted.{ranks_by, sorted_far, IsPermutation-sym, Contains-permutation}
use Rattle.std.proofs.lemmas.Option.{get_or_from_slice_get, slice_get-get_or, slice_get_within}
use Rattle.boc_plans.specs.Plans.{start_of}
use Rattle.boc_plans.specs.Greedy.{worker_of}
use Rattle.boc_order.proofs.HeaviestFirst.{HaveOne, one_moved}
use Rattle.boc_order.proofs.Places.{contains_from_place, place_from_contains, pushed_cases}
use Rattle.boc_greedy_chain.specs.declared.takes.Turn.{Turn}
use Rattle.boc_greedy_chain.specs.GreedyChains.{ArePredecessors, IsPredecessor}
use Rattle.boc_greedy_chain.specs.Turns.{AreByStart, AreTurns, StartApart, StartsBefore}

-- how the sort compares two turns
abbrev pub turn_cmp : Turn → Turn → Ordering
turn_cmp a b = ordering_then (nat_cmp a.start b.start) (nat_cmp a.row b.row)

turn_total : IsTotalOrder turn_cmp
turn_total = then_total {R = on (λ (t : Turn). t.start) nat_cmp} {S = on (λ (t : Turn). t.row) nat_cmp}
    (on_total (λ (t : Turn). t.start) nat_cmp_total) (on_total (λ (t : Turn). t.row) nat_cmp_total)

-- what doesn't compare as less, and is another row's, starts before
comes_first : (a b : Turn) → is_lt (turn_cmp b a) ≡ false → a.row ≢ b.row → StartsBefore a b
comes_first a b h other = ⊎_elim
    (λ (e : a.start ≡ b.start). ⊎_elim
    (λ (same : a.row ≡ b.row). absurd (other same))
    (⊎_elim (λ (l : a.row < b.row). inr (e, l))
    (λ (g : b.row < a.row). absurd (true≢false (rw (sym (nat_cmp_is b.start a.start Equal (sym e)), sym (nat_cmp_is b.row a.row Less g)) at h))))
    (cases_order a.row b.row))
    (⊎_elim (λ (l : a.start < b.start). inl l)
    (λ (g : b.start < a.start). absurd (true≢false (rw (sym (nat_cmp_is b.start a.start Less g)) at h))))
    (cases_order a.start b.start)

no_sooner : (a b : Turn) → StartsBefore a b → a.start ≤ b.start
no_sooner a b (inl l) = omega (arith, l)
no_sooner a b (inr e) = omega (arith, e.0)

no_lower : (a b : Turn) → StartsBefore a b → a.start ≡ b.start → a.row < b.row
no_lower a b (inl l) same = absurd (omega (arith, l, same))
no_lower a b (inr e) same = e.1

module _ (turns : List Turn) where
  -- of the first n turns, the row of the last one on a worker
  abbrev pub IsLastOn : ℕ → ℕ → Option ℕ → Type 0
  IsLastOn n w (Some a) = (k : ℕ) × (t : Turn) × (k < n) × (slice_get turns k ≡ Some t) × (t.row ≡ a) × (t.worker ≡ w)
      × ((j : ℕ) (u : Turn) → j < n → slice_get turns j ≡ Some u → u.worker ≡ w → j ≤ k)
  IsLastOn n w None = (j : ℕ) (u : Turn) → j < n → slice_get turns j ≡ Some u → u.worker ≡ w → ⊥

  pub last_none : (w : ℕ) → IsLastOn 0 w None
  last_none w j u h is on = omega (arith, h)

  -- the next turn is the last on its worker
  pub last_here : (n : ℕ) (t : Turn) → slice_get turns n ≡ Some t → IsLastOn (n + 1) t.worker (Some t.row)
  last_here n t is = (n, t, omega arith, is, refl, refl, λ j u h at on. omega (arith, h))

  -- and on no other one
  pub last_other : (n w : ℕ) (t : Turn) (o : Option ℕ) → slice_get turns n ≡ Some t → w ≢ t.worker → IsLastOn n w o → IsLastOn (n + 1) w o
  last_other n w t (Some a) is ne last = (
    last.0,
    last.1,
    omega (arith, last.2),
    last.3,
    last.4,
    last.5,
    λ j u h at on. elim (cases_eq j n) [
      | inl e ↦ absurd (ne (sym on ∙ worker_at j u at e))
      | inr far ↦ last.6 j u (omega (arith, h, far)) at on
    ],
  )
    where
      worker_at : (j : ℕ) (u : Turn) → slice_get turns j ≡ Some u → j ≡ n → u.worker ≡ t.worker
      worker_at j u at e = (let both : Some u ≡ Some t = sym at ∙ ap (slice_get turns) e ∙ is in let same : u ≡ t = cc in ap (λ (x : Turn). x.worker) same)
  last_other n w t None is ne last = λ j u h at on. elim (cases_eq j n) [
    | inl e ↦ ne (sym on ∙ worker_at j u at e)
    | inr far ↦ last j u (omega (arith, h, far)) at on
  ]
    where
      worker_at : (j : ℕ) (u : Turn) → slice_get turns j ≡ Some u → j ≡ n → u.worker ≡ t.worker
      worker_at j u at e = (let both : Some u ≡ Some t = sym at ∙ ap (slice_get turns) e ∙ is in let same : u ≡ t = cc in ap (λ (x : Turn). x.worker) same)

module _ (plan workers : List ℕ) where
  -- the turn is that of a row
  pub record IsTurn (r : ℕ) (t : Turn) : Type 0 where
    pub row : t.row ≡ r
    pub start : t.start ≡ start_of plan r
    pub worker : t.worker ≡ worker_of workers r

  -- one more turn
  pub turns_more : (xs : List Turn) (t : Turn) (n : ℕ) → length xs ≡ n → ((k : ℕ) (u : Turn) → slice_get xs k ≡ Some u → IsTurn k u) → IsTurn n t
      → (k : ℕ) (u : Turn) → slice_get (xs ++ t ∷ []) k ≡ Some u → IsTurn k u
  turns_more xs t n whole before here k u is = elim (pushed_cases xs t k u is) [
    | inl old ↦ before k u old.1
    | inr new ↦ subst (λ (x : ℕ). IsTurn x u) (sym whole ∙ sym new.0) (subst (IsTurn n) new.1 here)
  ]

  pub turns_all : (xs : List Turn) → length xs ≡ length plan → ((k : ℕ) (u : Turn) → slice_get xs k ≡ Some u → IsTurn k u) → AreTurns plan workers xs
  turns_all xs whole each = record { whole = whole; at = λ r t is. (let own = each r t is in (own.row, own.start, own.worker)) }

  abbrev row_of : Turn → ℕ
  row_of t = t.row

  turns_apart : (xs : List Turn) → AreTurns plan workers xs → HaveOne row_of xs
  turns_apart xs are i j a b l ia ib e = omega (arith, l, e, (are.at i a ia).0, (are.at j b ib).0)

  -- turns that a sort has moved, and that it leaves in their order
  pub turns_sorted : (xs ys : List Turn) → AreTurns plan workers xs → IsPermutation xs ys → IsSortedBy (λ a b. is_lt (turn_cmp a b)) ys
      → AreByStart plan workers ys
  turns_sorted xs ys are moved up = record {
    unsorted = xs;
    are = are;
    permuted = moved;
    sorted = λ i j a b l ia ib. comes_first a b
        (rw (get_or_from_slice_get ys i a a ia, get_or_from_slice_get ys j b a ib) at
        (sorted_far (λ x y. is_lt (turn_cmp x y)) (ranks_by turn_total (λ (t : Turn). t)) ys up i j a (omega arith) (slice_get_within ys j b ib)))
        (one_moved row_of xs ys moved (turns_apart xs are) i j a b l ia ib);
  }

  module _ (turns : List Turn) (by : AreByStart plan workers turns) where
    -- each of the turns is that of a row
    pub turn_is : (k : ℕ) (t : Turn) → slice_get turns k ≡ Some t → (t.row < length plan) × IsTurn t.row t
    turn_is k t is =
        let old = place_from_contains by.unsorted t
        (Contains-permutation turns by.unsorted t (IsPermutation-sym by.unsorted turns by.permuted) (contains_from_place turns k t is)) in
        let own = by.are.at old.0 t old.1 in (
          omega (arith, own.0, slice_get_within by.unsorted old.0 t old.1, by.are.whole),
          record { row = refl; start = own.1 ∙ ap (start_of plan) (sym own.0); worker = own.2 ∙ ap (worker_of workers) (sym own.0) },
        )

    -- each row has a turn
    pub has_turn : (r : ℕ) → r < length plan → (k : ℕ) × (t : Turn) × (slice_get turns k ≡ Some t) × (t.row ≡ r)
    has_turn r h =
        let none : Turn = record { start = 0; row = 0; worker = 0 } in
        let t : Turn = get_or by.unsorted r none in
        let is : slice_get by.unsorted r ≡ Some t = slice_get-get_or by.unsorted r none (omega (arith, h, by.are.whole)) in
        let new = place_from_contains turns t (Contains-permutation by.unsorted turns t by.permuted (contains_from_place by.unsorted r t is)) in
        (new.0, t, new.1, (by.are.at r t is).0)

    -- two turns of one row stand at one place
    pub same_place : (i j : ℕ) (a b : Turn) → slice_get turns i ≡ Some a → slice_get turns j ≡ Some b → a.row ≡ b.row → i ≡ j
    same_place i j a b ia ib e =
        let sa : a.start ≡ start_of plan a.row = (turn_is i a ia).1.start in
        let sb : b.start ≡ start_of plan b.row = (turn_is j b ib).1.start in
        let same : a.start ≡ b.start = sa ∙ ap (start_of plan) e ∙ sym sb in
        elim (cases_lt i j) [
          | inl l ↦ absurd (omega (arith, no_lower a b (by.sorted i j a b l ia ib) same, e))
          | inr ge ↦ elim (cases_lt j i) [
            | inl l ↦ absurd (omega (arith, no_lower b a (by.sorted j i b a l ib ia) (sym same), e))
            | inr ge2 ↦ omega (arith, ge, ge2)
          ]
        ]

    -- what stands first starts no later
    in_order : (i j : ℕ) (a b : Turn) → i ≤ j → slice_get turns i ≡ Some a → slice_get turns j ≡ Some b → start_of plan a.row ≤ start_of plan b.row
    in_order i j a b le ia ib =
        let sa : a.start ≡ start_of plan a.row = (turn_is i a ia).1.start in
        let sb : b.start ≡ start_of plan b.row = (turn_is j b ib).1.start in
        elim (cases_eq i j) [
          | inl e ↦ (
              let same : Some a ≡ Some b = sym ia ∙ ap (slice_get turns) e ∙ ib in
              let row : a.row ≡ b.row = (let at : a ≡ b = cc in ap (λ (t : Turn). t.row) at) in
              omega (arith, ap (start_of plan) row))
          | inr ne ↦ omega (arith, no_sooner a b (by.sorted i j a b (omega (arith, le, ne)) ia ib), sa, sb)
        ]

    -- a row that is sooner on the worker of the next turn has its turn before it
    sooner_place : (n : ℕ) (t : Turn) → slice_get turns n ≡ Some t → (r : ℕ) → r < length plan → worker_of workers r ≡ worker_of workers t.row
        → start_of plan r < start_of plan t.row
        → (j : ℕ) × (u : Turn) × (j < n) × (slice_get turns j ≡ Some u) × (u.row ≡ r) × (u.worker ≡ t.worker)
    sooner_place n t is r there same sooner =
        let (j, u, at, row) = has_turn r there in
        let before : j < n = elim (cases_lt j n) [
          | inl l ↦ l
          | inr ge ↦ absurd (omega (arith, in_order n j t u ge is at, ap (start_of plan) row, sooner))
        ] in
        (j, u, before, at, row, (turn_is j u at).1.worker ∙ ap (worker_of workers) row ∙ same ∙ sym (turn_is n t is).1.worker)

    -- the row of the last turn on its worker has the worker before the next one
    pub predecessor_is : StartApart plan workers → (n : ℕ) (t : Turn) (o : Option ℕ) → slice_get turns n ≡ Some t → IsLastOn turns n t.worker o
        → IsPredecessor plan workers t.row o
    predecessor_is apart n t None is last = λ r there same sooner.
        (let (j, u, before, at, row, on) = sooner_place n t is r there same sooner in last j u before at on)
    predecessor_is apart n t (Some a) is last =
        let (k, s, before, at, row, on, latest) = last in
        let own = turn_is k s at in
        let here = turn_is n t is in
        let there : a < length plan = omega (arith, own.0, row) in
        let same : worker_of workers a ≡ worker_of workers t.row =
        ap (worker_of workers) (sym row) ∙ sym own.1.worker ∙ on ∙ here.1.worker in
        let le : start_of plan s.row ≤ start_of plan t.row = in_order k n s t (omega (arith, before)) at is in
        let ne : start_of plan a ≢ start_of plan t.row = λ e.
        omega (arith, before, same_place k n s t at is (row ∙ apart a t.row there here.0 e same)) in
        record {
          there = there;
          same = same;
          sooner = omega (arith, le, ap (start_of plan) row, ne);
          none_between = λ r h on_it after sooner.
              (let (j, u, first, stands, is_r, worker) = sooner_place n t is r h on_it sooner in
              omega (arith, in_order j k u s (latest j u first stands worker) stands at, ap (start_of plan) row, ap (start_of plan) is_r, after));
        }

-- what is known once the first n turns are gone through: who had each worker last, and the predecessors of their rows
pub record AreSoFar (plan workers : List ℕ) (p : ℕ) (turns : List Turn) (n : ℕ) (last before : List (Option ℕ)) : Type 0 where
  pub whole : length before ≡ length plan
  pub served : length last ≡ p
  pub on : (w : ℕ) → w < p → IsLastOn turns n w (get_or last w None)
  pub at : (k : ℕ) (t : Turn) → k < n → slice_get turns k ≡ Some t → IsPredecessor plan workers t.row (get_or before t.row None)

module _ (plan workers : List ℕ) (p : ℕ) where
  pub so_far_none : (turns : List Turn) (last before : List (Option ℕ)) → last ≡ replicate p None → before ≡ replicate (length plan) None
      → AreSoFar plan workers p turns 0 last before
  so_far_none turns last before empty blank = record {
    whole = omega (arith, ap length blank, length-replicate {A = Option ℕ} (length plan) None);
    served = omega (arith, ap length empty, length-replicate {A = Option ℕ} p None);
    on = λ w h. rw (empty, get_or-replicate {A = Option ℕ} p w None None h) (last_none turns w);
    at = λ k t h is. absurd (omega (arith, h));
  }

  module _ (turns : List Turn) (by : AreByStart plan workers turns) (low : All (λ w. w < p) workers) (same_length : length workers ≡ length plan)
      (n : ℕ) (last before : List (Option ℕ)) (s : AreSoFar plan workers p turns n last before) (t : Turn) (is : slice_get turns n ≡ Some t) where
    pub row_there : t.row < length before
    row_there = omega (arith, (turn_is plan workers turns by n t is).0, s.whole)

    pub worker_there : t.worker < length last
    worker_there =
        let own = turn_is plan workers turns by n t is in
        omega (arith, own.1.worker, low t.row 0 (omega (arith, own.0, same_length)), s.served)

    -- the next turn
    pub so_far_more : StartApart plan workers → (o : Option ℕ) → o ≡ get_or last t.worker o
        → AreSoFar plan workers p turns (n + 1) (set last t.worker (Some t.row)) (set before t.row o)
    so_far_more apart o read = record {
      whole = omega (arith, length-set before t.row o, s.whole);
      served = omega (arith, length-set last t.worker (Some t.row), s.served);
      on = λ w h. elim (cases_eq w t.worker) [
        | inl e ↦ rw (get_or-set_at last t.worker w (Some t.row) None e worker_there)
            (subst (λ (x : ℕ). IsLastOn turns (n + 1) x (Some t.row)) (sym e) (last_here turns n t is))
        | inr ne ↦ rw (get_or-set_other last t.worker w (Some t.row) None ne) (last_other turns n w t (get_or last w None) is ne (s.on w h))
      ];
      at = λ k u h at_k. elim (cases_eq k n) [
        | inl e ↦ (
            let both : Some u ≡ Some t = sym at_k ∙ ap (slice_get turns) e ∙ is in
            let same : t ≡ u = cc in
            subst (λ (x : Turn). IsPredecessor plan workers x.row (get_or (set before t.row o) x.row None)) same
            (rw (get_or-set_at before t.row t.row o None refl row_there) (predecessor_is plan workers turns by apart n t o is here)))
        | inr ne ↦ rw (get_or-set_other before t.row u.row o None (λ e. ne (same_place plan workers turns by k n u t at_k is e)))
            (s.at k u (omega (arith, h, ne)) at_k)
      ];
    }
      where
        here : IsLastOn turns n t.worker o
        here = rw (sym (get_or_read last t.worker o worker_there read None)) at (s.on t.worker (omega (arith, worker_there, s.served)))

  -- all of them
  pub so_far_all : (turns : List Turn) → AreByStart plan workers turns → (n : ℕ) (last before : List (Option ℕ)) → length turns ≤ n
      → AreSoFar plan workers p turns n last before → ArePredecessors plan workers before
  so_far_all turns by n last before all s = record {
    whole = s.whole;
    at = λ b h.
        (let (k, t, is, row) = has_turn plan workers turns by b h in
        subst (λ (x : ℕ). IsPredecessor plan workers x (get_or before x None)) row
        (s.at k t (omega (arith, slice_get_within turns k t is, all)) is));
  }
