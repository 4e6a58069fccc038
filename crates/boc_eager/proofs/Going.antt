-- How a plan under way goes on to the next row, and that it is the eager plan in the end.
use Rattle.std.proofs.Common.{◌≡◌, ◌≢◌, ℕ, zero, suc, ◌+◌, ◌*◌, ◌<◌, ◌≤◌, ◌⊎◌, Bool, cond, List, [], ◌∷◌, length, refl, sym, ap, subst, arith, inl, inr}
use Rattle.std.specs.Prelude.{All, IfNone, Option, Some, None, slice_index}
use Rattle.std.specs.List.{Contains}
use Rattle.std.specs.BTreeSet.{BTreeSet}
use Rattle.std.specs.BTreeMap.Range.{IsLtBy}
use Rattle.std.proofs.lemmas.Bool.{cases_lt, cases_eq}
use Rattle.std.proofs.lemmas.List.Elements.{All-contains}
use Rattle.boc_program.proofs.ChangedItems.{item_at}
use Rattle.boc_runs.specs.declared.rows.Row.{Row}
use Rattle.boc_runs.specs.Rows.{IsRows, cowns_of, offset_of, parent_of, ticks_of}
use Rattle.boc_plans.specs.Plans.{IsChild, start_of}
use Rattle.boc_order.proofs.Remembering.{contains_head, contains_tail, contains_cases}
use Rattle.boc_eager.specs.declared.course.Course.{Course}
use Rattle.boc_eager.specs.declared.place.Place.{Place}
use Rattle.boc_eager.specs.declared.place.Place.TheVariants.{Unspawned, New, First, FirstFor, BehindKin, BehindFor, Started}
use Rattle.boc_eager.specs.Eager.{IsInTheWay, IsSpawnedBy}
use Rattle.boc_eager.specs.Courses.{AreClear, AreFree, CanStart, GoesOn, InHand, IsAt, IsBefore, IsBehind, IsDone, IsDue, IsEagerSoFar, IsFirstOfKin, IsKept, IsNext, IsWaiting, Stands, WaitsAt, later, wait_of}
use Rattle.boc_eager.proofs.KindCoding.{alike_kin}
use Rattle.boc_eager.proofs.Sets.{above_pair, pair_order}

-- all numbers of a list are low enough, or one is too high
low_or_high : (xs : List ℕ) (f : ℕ → ℕ) (u : ℕ) → ((c : ℕ) → Contains xs c → f c ≤ u) ⊎ ((c : ℕ) × Contains xs c × (u < f c))
low_or_high [] f u = inl (λ c m. absurd (omega (arith, m.1)))
low_or_high (x ∷ xs) f u = elim (cases_lt u (f x)) [
  | inl high ↦ inr (x, contains_head x xs, high)
  | inr low ↦ elim (low_or_high xs f u) [
    | inl all ↦ inl (λ c m. elim (contains_cases x c xs m) [ inl e ↦ subst (λ (z : ℕ). f z ≤ u) e low | inr o ↦ all c o ])
    | inr one ↦ inr (one.0, contains_tail x one.0 xs one.1, one.2)
  ]
]

pub clear_or_held : (rows : List Row) (b : ℕ) (free : List ℕ) (u : ℕ) → AreClear rows b free u
    ⊎ ((c : ℕ) × Contains (cowns_of rows b) c × (u < slice_index free (wait_of rows b c)))
clear_or_held rows b free u = low_or_high (cowns_of rows b) (λ c. slice_index free (wait_of rows b c)) u

-- what is spawned by a tick is so later
pub spawned_on : (rows : List Row) (starts : List ℕ) (t u b : ℕ) → t ≤ u → IsSpawnedBy rows starts t b → IsSpawnedBy rows starts u b
spawned_on rows starts t u b le s = λ a child. (let h = s a child in omega (arith, h, le))

-- row p at tick t is not before row b at tick u, or it is
not_before : (u b t p : ℕ) → IsBefore u b t p ⊎ ((t < u) ⊎ ((t ≡ u) × (p ≤ b)))
not_before u b t p = elim (cases_lt u t) [
  | inl l ↦ inl (inl l)
  | inr ge ↦ elim (cases_lt t u) [
    | inl g ↦ inr (inl g)
    | inr le ↦ elim (cases_lt b p) [
      | inl l ↦ inl (inr (omega (arith, ge, le), l))
      | inr h ↦ inr (inr (omega (arith, ge, le), h))
    ]
  ]
]

-- a conflict over something that isn't free
module _ (rows : List Row) (hr : IsRows rows) (starts free : List ℕ) (t p : ℕ) (so_far : IsEagerSoFar rows starts t p) (are : AreFree rows starts free) where
  -- where a row could start, no row is in its way
  pub none_in_way : (a b u : ℕ) → b < length rows → u < later → AreClear rows b free u → IsInTheWay rows starts u a b → ⊥
  none_in_way a b u hb low clear way =
      let before : start_of starts a < later = elim way.begun [ inl l ↦ omega (arith, l, low) | inr e ↦ omega (arith, e.0, low) ] in
      let c = way.at_odds in
      let h = are.none_later a b c.0 way.there hb before c.1 in
      let f = clear c.0 c.1.second in
      omega (arith, h, f, way.not_over)

  -- where something isn't free for a row that hasn't started, a row is in its way
  pub in_way : (b u c : ℕ) → b < length rows → start_of starts b ≡ later → (t < u) ⊎ ((t ≡ u) × (p ≤ b)) → Contains (cowns_of rows b) c
      → u < slice_index free (wait_of rows b c) → (a : ℕ) × IsInTheWay rows starts u a b
  in_way b u c hb not_yet now own held = elim (are.reached b c hb own) [
    | inl none ↦ absurd (omega (arith, none, held))
    | inr (a, ha, started, conflict, is_end) ↦ (
        let other : a ≢ b = λ e. (let s : start_of starts a ≡ start_of starts b = ap (start_of starts) e in omega (arith, s, started, not_yet)) in (
          a,
          record {
            there = ha;
            other = other;
            at_odds = (c, conflict);
            begun = elim (so_far.past a ha started) [
              | inl l ↦ elim now [ inl g ↦ inl (omega (arith, l, g)) | inr e ↦ inl (omega (arith, l, e.0)) ]
              | inr s ↦ elim now [
                | inl g ↦ inl (omega (arith, s.0, g))
                | inr e ↦ inr (omega (arith, s.0, e.0), (let ne : a ≢ b = other in omega (arith, s.1, e.1)))
              ]
            ];
            not_over = omega (arith, held, is_end);
          },
        ))
  ]

-- whether a row has started shows at its place
pub started_or_not : (rows : List Row) (c : Course) (r : ℕ) (place : Place) → Stands rows c r place
    → ((place ≡ Started) × (start_of c.starts.items r < later)) ⊎ (start_of c.starts.items r ≡ later)
started_or_not rows c r Unspawned s = inr s.0
started_or_not rows c r New s = inr s.0
started_or_not rows c r First s = inr s.0.not_started
started_or_not rows c r (FirstFor wait) s = inr s.0.not_started
started_or_not rows c r BehindKin s = inr s.0.not_started
started_or_not rows c r (BehindFor wait) s = inr s.0.not_started
started_or_not rows c r Started s = inl (refl, s)

module _ (rows : List Row) (hr : IsRows rows) (c : Course) (k : IsKept rows c) where
  end_low : c.end < later
  end_low = omega (arith, k.ends.low, hr.not_many)

  place_of : (b : ℕ) → b < length rows → (place : Place) × IsAt c.places.items b place
  place_of b h = item_at c.places.items b (omega (arith, h, k.of_rows.places_whole))

  stands_there : (b : ℕ) (place : Place) → b < length rows → IsAt c.places.items b place → Stands rows c b place
  stands_there b place h at = k.stands b place h (λ e. omega (arith, e, h)) at

  not_started : (b : ℕ) → b < length rows → (start_of c.starts.items b < later) ⊎ (start_of c.starts.items b ≡ later)
  not_started b h = elim (started_or_not rows c b (place_of b h).0 (stands_there b (place_of b h).0 h (place_of b h).1)) [ inl s ↦ inl s.1 | inr n ↦ inr n ]

  -- a row is looked at by then, and has no higher number
  abbrev Covers : ℕ → ℕ → Type 0
  Covers b u = (t : ℕ) × (a : ℕ) × Contains c.next.keys (t, a) × (t ≤ u) × (a ≤ b)

  -- the one in front of a line at a cown is looked at when that is free
  cover_queue : (b u wait : ℕ) → c.tick ≤ u → WaitsAt rows b wait → CanStart rows c.starts.items c.free.items u b → IsBehind c.queues.items wait b → Covers b u
  cover_queue b u wait now w can behind =
      let at = k.queues_are.front wait behind.front behind.is_front in
      let s = stands_there behind.front (FirstFor wait) at.0 at.1 in
      let free : slice_index c.free.items wait ≤ u = subst (λ (q : ℕ). slice_index c.free.items q ≤ u) w.is (can.clear w.cown w.own) in
      (s.2.tick, behind.front, s.2.queued, s.2.early u now free, omega (arith, behind.lower))

  -- a row that could start is looked at by then
  cover_first : (b u : ℕ) → c.tick ≤ u → b < length rows → CanStart rows c.starts.items c.free.items u b → IsFirstOfKin c.places.items b → Covers b u
  cover_first b u now hb can (inl at) =
      let s = stands_there b First hb at in
      (s.1.tick, b, s.1.queued, s.1.early u now can, omega arith)
  cover_first b u now hb can (inr (inl (wait, at))) =
      let s = stands_there b (FirstFor wait) hb at in
      let free : slice_index c.free.items wait ≤ u = subst (λ (q : ℕ). slice_index c.free.items q ≤ u) s.1.is (can.clear s.1.cown s.1.own) in
      (s.2.tick, b, s.2.queued, s.2.early u now free, omega arith)
  cover_first b u now hb can (inr (inr (wait, at))) =
      let s = stands_there b (BehindFor wait) hb at in
      cover_queue b u wait now s.1 can s.2

  -- a row of the same kind could start too
  alike_can : (a b u : ℕ) → a < length rows → b < length rows → slice_index c.kinds.items a ≡ slice_index c.kinds.items b
      → IsSpawnedBy rows c.starts.items u a → CanStart rows c.starts.items c.free.items u b → CanStart rows c.starts.items c.free.items u a
  alike_can a b u ha hb same spawned can =
      let like = alike_kin rows hr c.kinds.items k.of_rows.kinds_are a b ha hb same in
      record {
        spawned = spawned;
        clear = λ x own.
            let e : wait_of rows a x ≡ wait_of rows b x = ap (λ (t : Bool). 2 * x + cond t 1 0) (like.wrote_same x own) in
            rw e (can.clear x (subst (λ (xs : List ℕ). Contains xs x) like.same own));
      }

  cover_at : (b u : ℕ) → b < length rows → c.tick ≤ u → u < later → CanStart rows c.starts.items c.free.items u b → start_of c.starts.items b ≡ later
      → (place : Place) → IsAt c.places.items b place → Stands rows c b place → Covers b u
  cover_at b u hb now low can not_yet Unspawned at s =
      let child : IsChild rows (parent_of rows b) b = record { not_main = s.2; there = hb; parent = refl } in
      let h = can.spawned (parent_of rows b) child in
      let l = s.1 (parent_of rows b) child in
      absurd (omega (arith, h, l, low))
  cover_at b u hb now low can not_yet New at s = (s.1.tick, b, s.1.queued, s.1.early u now can.spawned, omega arith)
  cover_at b u hb now low can not_yet First at s = cover_first b u now hb can (inl at)
  cover_at b u hb now low can not_yet (FirstFor wait) at s = cover_first b u now hb can (inr (inl (wait, at)))
  cover_at b u hb now low can not_yet (BehindFor wait) at s = cover_first b u now hb can (inr (inr (wait, at)))
  cover_at b u hb now low can not_yet BehindKin at s =
      let front = k.kin_are.front (slice_index c.kinds.items b) s.1.front s.1.is_front in
      let waits = first_waits s.1.front front.0 front.2 in
      let can' = alike_can s.1.front b u front.0 hb front.1 (spawned_on rows c.starts.items c.tick u s.1.front now waits.spawned) can in
      let cover = cover_first s.1.front u now front.0 can' front.2 in
      (cover.0, cover.1, cover.2, cover.3, omega (arith, cover.4, s.1.lower))
    where
      first_waits : (a : ℕ) → a < length rows → IsFirstOfKin c.places.items a → IsWaiting rows c.starts.items c.tick a
      first_waits a ha (inl at) = (stands_there a First ha at).0
      first_waits a ha (inr (inl (wait, at))) = (stands_there a (FirstFor wait) ha at).0
      first_waits a ha (inr (inr (wait, at))) = (stands_there a (BehindFor wait) ha at).0
  cover_at b u hb now low can not_yet Started at s = absurd (omega (arith, s, not_yet))

  covered : (b u : ℕ) → b < length rows → c.tick ≤ u → u < later → CanStart rows c.starts.items c.free.items u b → start_of c.starts.items b ≡ later
      → Covers b u
  covered b u hb now low can not_yet =
      cover_at b u hb now low can not_yet (place_of b hb).0 (place_of b hb).1 (stands_there b (place_of b hb).0 hb (place_of b hb).1)

  -- ---- the next row

  module _ (n : BTreeSet (ℕ × ℕ)) (t r : ℕ) (keys : c.next.keys ≡ (t, r) ∷ n.keys) (above : All (IsLtBy pair_order (t, r)) n.keys) where
    here : Contains c.next.keys (t, r)
    here = rw keys (contains_head (t, r) n.keys)

    next_is : IsNext rows c.starts.items c.tick c.row c.end t r
    next_is = k.next_are t r here

    now_low : c.tick ≤ t
    now_low = elim next_is.after [ inl l ↦ omega (arith, l) | inr e ↦ omega (arith, e.0) ]

    rest : (u a : ℕ) → Contains c.next.keys (u, a) → ((u ≡ t) × (a ≡ r)) ⊎ Contains n.keys (u, a)
    rest u a m = elim (contains_cases (t, r) (u, a) n.keys (subst (λ (ks : List (ℕ × ℕ)). Contains ks (u, a)) keys m)) [
      | inl e ↦ inl (sym (ap (λ (p : ℕ × ℕ). p.0) e), sym (ap (λ (p : ℕ × ℕ). p.1) e))
      | inr o ↦ inr o
    ]

    after_next : (u a : ℕ) → Contains n.keys (u, a) → IsBefore t r u a
    after_next u a m = above_pair (t, r) (u, a) (All-contains (IsLtBy pair_order (t, r)) n.keys (u, a) above m)

    stays : (u a : ℕ) → a ≢ r → Contains c.next.keys (u, a) → Contains n.keys (u, a)
    stays u a ne m = elim (rest u a m) [ inl e ↦ absurd (ne e.1) | inr o ↦ o ]

    -- until then each row that hasn't started has one in its way
    held_on : (b u : ℕ) → b < length rows → IsSpawnedBy rows c.starts.items u b → u < start_of c.starts.items b → IsBefore u b t r
        → (a : ℕ) × IsInTheWay rows c.starts.items u a b
    held_on b u hb spawned not_yet before = elim (not_before u b c.tick c.row) [
      | inl old ↦ k.so_far.held b u hb spawned not_yet old
      | inr now ↦ elim (not_started b hb) [
        | inl started ↦ absurd (elim (k.so_far.past b hb started) [
          | inl l ↦ elim now [ inl g ↦ omega (arith, l, g, not_yet) | inr e ↦ omega (arith, l, e.0, not_yet) ]
          | inr s ↦ elim now [ inl g ↦ omega (arith, s.0, g, not_yet) | inr e ↦ omega (arith, s.0, e.0, not_yet) ]
        ])
        | inr later_is ↦ (
            let low : u < later = elim before [ inl l ↦ omega (arith, l, next_is.low, end_low) | inr e ↦ omega (arith, e.0, next_is.low, end_low) ] in
            let here_on : c.tick ≤ u = elim now [ inl g ↦ omega (arith, g) | inr e ↦ omega (arith, e.0) ] in
            elim (clear_or_held rows b c.free.items u) [
              | inr (x, own, held) ↦ in_way rows hr c.starts.items c.free.items c.tick c.row k.so_far k.free_are b u x hb later_is now own held
              | inl clear ↦ (
                  let cover = covered b u hb here_on low (record { spawned = spawned; clear = clear }) later_is in
                  absurd (elim (rest cover.0 cover.1 cover.2) [
                    | inl same ↦ elim before [
                      | inl l ↦ omega (arith, l, same.0, cover.3)
                      | inr e ↦ omega (arith, e.1, same.1, cover.4)
                    ]
                    | inr o ↦ elim (after_next cover.0 cover.1 o) [
                      | inl g ↦ elim before [ inl l ↦ omega (arith, l, g, cover.3) | inr e ↦ omega (arith, e.0, g, cover.3) ]
                      | inr g ↦ elim before [ inl l ↦ omega (arith, l, g.0, cover.3) | inr e ↦ omega (arith, e.1, g.1, cover.4) ]
                    ]
                  ]))
            ])
      ]
    ]

    abbrev onward : Course
    onward = record c { next = n; tick = t; row = r }

    waits_on : (b : ℕ) → IsWaiting rows c.starts.items c.tick b → IsWaiting rows c.starts.items t b
    waits_on b w = record { not_started = w.not_started; spawned = spawned_on rows c.starts.items c.tick t b now_low w.spawned }

    due_on : (b : ℕ) (Ticks : ℕ → Type 0) → b ≢ r → IsDue c.next.keys c.tick b Ticks → IsDue n.keys t b Ticks
    due_on b Ticks ne d = record { tick = d.tick; queued = stays d.tick b ne d.queued; early = λ u le. d.early u (omega (arith, le, now_low)) }

    stands_on : (b : ℕ) (place : Place) → b ≢ r → Stands rows c b place → Stands rows onward b place
    stands_on b Unspawned ne s = s
    stands_on b New ne s = (s.0, due_on b _ ne s.1)
    stands_on b First ne s = (waits_on b s.0, due_on b _ ne s.1)
    stands_on b (FirstFor wait) ne s = (waits_on b s.0, s.1, due_on b _ ne s.2)
    stands_on b BehindKin ne s = (waits_on b s.0, s.1)
    stands_on b (BehindFor wait) ne s = (waits_on b s.0, s.1, s.2)
    stands_on b Started ne s = s

    hand_at : (place : Place) → Stands rows c r place → InHand rows onward r place
    hand_at Unspawned s = s
    hand_at New s = record { not_started = s.0; spawned = next_is.spawned }
    hand_at First s = waits_on r s.0
    hand_at (FirstFor wait) s = (waits_on r s.0, s.1)
    hand_at BehindKin s = (waits_on r s.0, s.1)
    hand_at (BehindFor wait) s = (waits_on r s.0, s.1, s.2)
    hand_at Started s = s

    so_far_on : IsEagerSoFar rows c.starts.items t r
    so_far_on = record {
      past = λ b hb started. elim (k.so_far.past b hb started) [
        | inl l ↦ inl (omega (arith, l, now_low))
        | inr s ↦ elim next_is.after [
          | inl g ↦ inl (omega (arith, s.0, g))
          | inr e ↦ inr (omega (arith, s.0, e.0), omega (arith, s.1, e.1))
        ]
      ];
      spawned = k.so_far.spawned;
      clear = k.so_far.clear;
      held = held_on;
    }

    pub goes_on : GoesOn rows c onward r
    goes_on = record {
      hand = record {
        kept = record {
          of_rows = k.of_rows;
          so_far = so_far_on;
          free_are = k.free_are;
          free_low = k.free_low;
          kin_are = k.kin_are;
          queues_are = k.queues_are;
          stands = λ b place hb ne at. stands_on b place ne (stands_there b place hb at);
          next_are = λ u a m. (
              let m' : Contains c.next.keys (u, a) = rw keys (contains_tail (t, r) (u, a) n.keys m) in
              let i = k.next_are u a m' in
              record { there = i.there; after = after_next u a m; spawned = i.spawned; low = i.low });
          ends = k.ends;
          tick_low = next_is.low;
          row_there = next_is.there;
        };
        is_row = refl;
        there = next_is.there;
        place = λ place at. hand_at place (stands_there r place next_is.there at);
      };
      after = next_is.after;
    }

  -- ---- the end

  module _ (none : c.next.keys ≡ []) where
    started_next : (b : ℕ) → b < length rows → ((a : ℕ) → a < b → start_of c.starts.items a < later) → start_of c.starts.items b < later
    started_next b hb below = elim (not_started b hb) [
      | inl s ↦ s
      | inr not_yet ↦ (
          let spawned : IsSpawnedBy rows c.starts.items c.end b = λ a child. (
          let before : a < b = subst (λ (x : ℕ). x < b) child.parent (hr.parent_before b child.not_main hb) in
          let ends = k.ends.none_later a (omega (arith, before, hb)) (below a before) in
          let covers : offset_of rows b ≤ ticks_of rows a = subst (λ (x : ℕ). offset_of rows b ≤ ticks_of rows x) child.parent
          (hr.ticks_cover b child.not_main hb) in
          omega (arith, ends, covers)) in
          let cover = covered b c.end hb k.tick_low end_low (record { spawned = spawned; clear = λ x own. k.free_low (wait_of rows b x) }) not_yet in
          absurd (none_there _ (subst (λ (ks : List (ℕ × ℕ)). Contains ks (cover.0, cover.1)) none cover.2)))
    ]
      where
        none_there : (e : ℕ × ℕ) → Contains [] e → ⊥
        none_there e m = omega (arith, m.1)

    all_started : (m b : ℕ) → b < m → b < length rows → start_of c.starts.items b < later
    all_started zero b h hb = absurd (omega (arith, h))
    all_started (suc m) b h hb = started_next b hb (λ a l. all_started m a (omega (arith, l, h)) (omega (arith, l, hb)))

    started : (b : ℕ) → b < length rows → start_of c.starts.items b < later
    started b hb = all_started (suc b) b (omega arith) hb

    pub done : IsDone rows c.starts.items c.end
    done = record {
      eager = record {
        keeps = record {
          whole = k.of_rows.starts_whole;
          spawned = λ a b child. k.so_far.spawned b child.there (started b child.there) a child;
        };
        at = λ t b hb now spawned. (
          λ e a way. k.so_far.clear a b hb (started b hb) (subst (λ (x : ℕ). IsInTheWay rows c.starts.items x a b) (sym e) way),
          λ none_way. elim (cases_eq (start_of c.starts.items b) t) [
            | inl e ↦ e
            | inr ne ↦ (
                let before : t < start_of c.starts.items b = omega (arith, now) in
                let past : IsBefore t b c.tick c.row = elim (k.so_far.past b hb (started b hb)) [
                  | inl l ↦ inl (omega (arith, l, before))
                  | inr s ↦ inl (omega (arith, s.0, before))
                ] in
                let way = k.so_far.held b t hb spawned before past in
                absurd (none_way way.0 way.1))
          ],
        );
      };
      ends = record {
        none_later = λ r h. k.ends.none_later r h (started r h);
        reached = elim k.ends.reached [
          | inl zero_end ↦ absurd (
              let main = k.ends.none_later 0 hr.not_empty (started 0 hr.not_empty) in
              let ticks = hr.ticks_low 0 hr.not_empty in
              omega (arith, main, ticks, zero_end))
          | inr (r, h, s, e) ↦ (r, h, e)
        ];
      };
    }

pub no_key : (keys : List (ℕ × ℕ)) → (0 < length keys → ⊥) → keys ≡ []
no_key [] none = refl
no_key (x ∷ keys) none = absurd (none (omega arith))

pub if_none : {A : Type 0} {P : Type 0} (o : Option A) → P → IfNone o P
if_none None p = p
if_none (Some x) p = tt
