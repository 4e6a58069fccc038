-- The queues of rows, as rows go in and out.
use Rattle.std.proofs.Common.{◌≡◌, ◌≢◌, ◌⊎◌, inl, inr, ℕ, ◌+◌, ◌^◌, ◌<◌, ◌≤◌, List, [], ◌∷◌, length, Option, None, subst, ap, ◌∙◌, arith}
use Rattle.std.specs.List.{Contains}
use Rattle.std.specs.declared.cmp.Reverse.{Reverse}
use Rattle.std.proofs.lemmas.Bool.{cases_lt, cases_eq}
use Rattle.boc_runs.specs.declared.rows.Row.{Row}
use Rattle.boc_runs.specs.Rows.{IsRows, cowns_of, parent_of, offset_of}
use Rattle.boc_plans.specs.Plans.{start_of, IsChild}
use Rattle.boc_greedy.specs.Queues.{IsIn}
use Rattle.boc_greedy.specs.Simulating.{later}
use Rattle.boc_greedy.proofs.Puts.{Puts}
use Rattle.boc_uses.specs.declared.uses.Use.{Use}
use Rattle.boc_used_greedy.specs.Ready.{came, IsReadyBy, IsReadyFrom}
use Rattle.boc_used_greedy.specs.Plans.{NotStarted, IsReady, AreQueued, IsQueuedMore, IsGathered}
use Rattle.boc_turns.proofs.Pacing.{contains_split, contains_rest, contains_here}
use Rattle.boc_used_greedy.proofs.Scheduling.{ready_falls}

-- all of some numbers have one property, or one of them has another
pub all_or_one : (xs : List ℕ) (P Q : ℕ → Type 0) → ((x : ℕ) → Contains xs x → P x ⊎ Q x)
    → ((x : ℕ) → Contains xs x → P x) ⊎ ((x : ℕ) × Contains xs x × Q x)
all_or_one [] P Q each = inl (λ x has. absurd (omega (arith, has.1)))
all_or_one (y ∷ xs) P Q each = elim (each y (contains_here y xs)) [
  | inr q ↦ inr (y, contains_here y xs, q)
  | inl p ↦ elim (all_or_one xs P Q (λ x has. each x (contains_rest y xs x has))) [
    | inr (x, has, q) ↦ inr (x, contains_rest y xs x has, q)
    | inl all ↦ inl (λ x has. elim (contains_split y xs x has) [ inl e ↦ subst P e p | inr rest ↦ all x rest ])
  ]
]

module _ (rows : List Row) (hr : IsRows rows) (holds : List (Option Use)) (plan : List ℕ) where
  -- a row that is ready by a tick is so by a later one
  pub ready_on : (t u r : ℕ) → t ≤ u → IsReadyBy rows holds plan t r → IsReadyBy rows holds plan u r
  ready_on t u r le i = record {
    spawned = λ above. omega (arith, i.spawned above, le);
    in_turn = λ c v e need. omega (arith, i.in_turn c v e need, le);
  }

  -- the rows that are due by a tick are gathered, and the plan goes on to that tick
  pub gathered : (waiting waiting' : List (Reverse (ℕ × ℕ))) (ready ready' : List (Reverse ℕ)) (tick next : ℕ) → tick ≤ next
      → AreQueued rows holds plan waiting ready tick None → IsGathered next waiting ready waiting' ready' → AreQueued rows holds plan waiting' ready' next None
  gathered waiting waiting' ready ready' tick next le q g = record {
    waiting_heap = g.waiting_heap;
    ready_heap = g.ready_heap;
    waits = λ due r i. q.waits due r (g.waited due r i);
    are_ready = λ r i. elim (g.was r i) [
      | inl old ↦ (let (there, by) = q.are_ready r old in (there, ready_on tick next r le by))
      | inr (due, by, old) ↦ (let w = q.waits due r old in (w.0.0, ready_on due next r by w.1.ready))
    ];
    all = λ t r low not by. elim (q.all t r low not by) [
      | inl none ↦ absurd cc
      | inr (inl i) ↦ inr (inl (g.stays r i))
      | inr (inr (due, i)) ↦ elim (g.moved due r i) [ inl now ↦ inr (inl now) | inr still ↦ inr (inr (due, still)) ]
    ];
  }

  -- rows leave the queue of those that are ready, of which one may not have started, and it starts
  module _ (waiting : List (Reverse (ℕ × ℕ))) (ready : List (Reverse ℕ)) (tick : ℕ) (q : AreQueued rows holds plan waiting ready tick None)
      (later_left : (due r : ℕ) → IsIn waiting due r → tick < due) where
    -- all rows that are ready by the tick of the plan and haven't started are in the queue
    pub now_ready : (r : ℕ) → tick < 2 ^ 63 → NotStarted rows plan r → IsReadyBy rows holds plan tick r → IsReady ready r
    now_ready r low not by = elim (q.all tick r low not by) [
      | inl none ↦ absurd cc
      | inr (inl i) ↦ i
      | inr (inr (due, i)) ↦ absurd (omega (arith, later_left due r i, (q.waits due r i).1.least tick by))
    ]

-- ---- one more row has started

module _ (rows : List Row) (hr : IsRows rows) (holds : List (Option Use)) (plan plan' : List ℕ) (r tick : ℕ) (not : NotStarted rows plan r)
    (before : tick < later) (ps : Puts plan plan' r tick) (most : (a : ℕ) → a < length rows → start_of plan a ≤ later) where
  no_later : (a : ℕ) → a < length rows → start_of plan' a ≤ start_of plan a
  no_later a there = elim (cases_eq a r) [
    | inl e ↦ omega (arith, ap (start_of plan') e ∙ ps.at, ap (start_of plan) e ∙ not.1, before)
    | inr ne ↦ omega (arith, ps.others a ne)
  ]

  pub still_ready : (t b : ℕ) → b < length rows → IsReadyBy rows holds plan t b → IsReadyBy rows holds plan' t b
  still_ready t b there i = ready_falls rows hr holds plan plan' t b there (λ a lt. no_later a (omega (arith, lt, there))) i

  pub not_yet : (b : ℕ) → NotStarted rows plan' b → NotStarted rows plan b × (b ≢ r)
  not_yet b s =
      let ne : b ≢ r = λ e. (let at : start_of plan' b ≡ tick = ap (start_of plan') e ∙ ps.at in omega (arith, at, s.1, before)) in
      ((s.0, omega (arith, s.1, ps.others b ne)), ne)
