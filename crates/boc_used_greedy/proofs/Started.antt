-- The queues after one more row has started.
use Rattle.std.proofs.Common.{◌≡◌, ◌≢◌, ◌⊎◌, inl, inr, ℕ, suc, ◌+◌, ◌*◌, ◌^◌, ◌<◌, ◌≤◌}
use Rattle.std.proofs.Common.{true, false, List, length, Option, Some, None, subst, sym, ap, ◌∙◌, arith}
use Rattle.std.specs.Prelude.{slice_get}
use Rattle.std.specs.List.{Contains}
use Rattle.std.specs.declared.cmp.Reverse.{Reverse}
use Rattle.std.proofs.lemmas.Bool.{cases_lt, cases_eq}
use Rattle.std.proofs.lemmas.Option.{slice_get-get_or}
use Rattle.boc_program.specs.declared.limits.TheConstants.{MOST_COWNS, MOST_ROWS, MOST_TICKS}
use Rattle.boc_runs.specs.declared.rows.Row.{Row}
use Rattle.boc_runs.specs.Rows.{IsRows, cowns_of, parent_of, offset_of}
use Rattle.boc_plans.specs.Plans.{start_of, IsChild}
use Rattle.boc_greedy.specs.Queues.{IsIn}
use Rattle.boc_greedy.specs.Simulating.{later}
use Rattle.boc_greedy.proofs.Puts.{Puts}
use Rattle.boc_uses.specs.declared.uses.Use.{Use}
use Rattle.boc_turns.specs.Turns.{use_of, IsWithin}
use Rattle.boc_turns.proofs.Gathering.{use_has}
use Rattle.boc_used_greedy.specs.declared.fronts.Front.{Front}
use Rattle.boc_used_greedy.specs.Ready.{came, IsReadyBy, IsReadyFrom}
use Rattle.boc_used_greedy.specs.Fronts.{Stops, IsFront, AreFronts, AreNewlyTold}
use Rattle.boc_used_greedy.specs.Plans.{NotStarted, IsReady, AreQueued, IsQueuedMore}
use Rattle.boc_used_greedy.proofs.Leaving.{either, one_or_none, own}
use Rattle.boc_used_greedy.proofs.Known.{Keeps, came_low, ready_stays}
use Rattle.boc_used_greedy.proofs.Fronting.{came_told, came_untold, front_known}
use Rattle.boc_used_greedy.proofs.Queueing.{all_or_one, still_ready, not_yet}

module _ (rows : List Row) (hr : IsRows rows) (holds : List (Option Use))
    (within : (c r : ℕ) (u : Use) → own rows holds c r ≡ Some u → IsWithin MOST_TICKS u) (plan plan' : List ℕ) (r tick : ℕ) (not : NotStarted rows plan r)
    (before : tick < 2 ^ 61) (ps : Puts plan plan' r tick) (most : (a : ℕ) → a < length rows → start_of plan a ≤ later)
    (come : (a : ℕ) → a < length rows → start_of plan a < later → start_of plan a ≤ tick) (ready_now : IsReadyBy rows holds plan tick r)
    (fronts fronts' : List Front) (f : AreFronts rows holds plan fronts) (f' : AreFronts rows holds plan' fronts') (list : List ℕ)
    (children : (b : ℕ) → IsChild rows r b → Contains list b) (told : AreNewlyTold rows holds plan' fronts fronts' list) where
  soon : tick < later
  soon = omega (arith, before)

  keeps : Keeps rows plan plan'
  keeps a there s = ps.others a (λ e. (let at : start_of plan a ≡ later = ap (start_of plan) e ∙ not.1 in omega (arith, at, s)))

  small : (b c : ℕ) → b < length rows → Contains (cowns_of rows b) c → c < MOST_COWNS
  small b c there (k, h, same) = omega (arith, hr.cowns_below b there k c h, same)

  -- a row that can start now and hasn't: it is in the list, or each cown that it needs comes at a tick that was known before
  module _ (t b : ℕ) (low : t < 2 ^ 63) (now : NotStarted rows plan' b) (by : IsReadyBy rows holds plan' t b) where
    abbrev WasKnown : ℕ → Type 0
    WasKnown c = (u : Use) → own rows holds c b ≡ Some u → u.needed ≡ true → came rows holds plan b c < later

    old : NotStarted rows plan b × (b ≢ r)
    old = not_yet rows hr holds plan plan' r tick not soon ps most b now

    at_front : (c : ℕ) (x x' : Front) (u : Use) → slice_get fronts c ≡ Some x → slice_get fronts' c ≡ Some x' → own rows holds c b ≡ Some u → u.needed ≡ true
        → WasKnown c ⊎ Contains list b
    at_front c x x' u at at' e need = elim (cases_lt b x.told) [
      | inl lt ↦ inl (λ v g n. front_known rows holds c (within c) plan x b tick (f.each c x at)
          (record { held = (u, e); not_started = old.0.1 }) old.0.0 lt before (λ a there s. come a there s) (hr.not_many))
      | inr ge ↦ inr (told c x x' at at' b ge (elim (cases_lt b x'.told) [
        | inl lt ↦ lt
        | inr late ↦ absurd (
            let w = within c b u e in
            let unknown = came_untold rows holds c (within c) plan' x' b (f'.each c x' at') (record { held = (u, e); not_started = now.1 }) now.0 late in
            omega (arith, unknown, by.in_turn c u e need, low, w.rises, w.ends))
      ]) (record { held = (u, e); not_started = now.1 }))
    ]

    each : (c : ℕ) → Contains (cowns_of rows b) c → WasKnown c ⊎ Contains list b
    each c has = elim (one_or_none (own rows holds c b)) [
      | inl none ↦ inl (λ u e need. absurd cc)
      | inr (u, e) ↦ elim (either u.needed) [
        | inl need ↦ (
            let low_c = small b c now.0 has in
            let d : Front = record { at = 0; told = 0; held = 0; wrote = 0 } in
            at_front c _ _ u (slice_get-get_or fronts c d (omega (arith, low_c, f.whole)))
            (slice_get-get_or fronts' c d (omega (arith, low_c, f'.whole))) e need)
        | inr unneeded ↦ inl (λ v g n. absurd (let same : u ≡ v = cc in
            let t : true ≡ false = sym n ∙ (ap (λ (x : Use). x.needed) (sym same) ∙ unneeded) in cc))
      ]
    ]

    spawned_before : (0 < b → parent_of rows b ≢ r) → 0 < b → start_of plan (parent_of rows b) + offset_of rows b ≤ 2 ^ 62
    spawned_before other above =
        let parent = hr.parent_before b above now.0 in
        let same = ps.others (parent_of rows b) (other above) in
        let s = come (parent_of rows b) (omega (arith, parent, now.0)) (omega (arith, by.spawned above, same, low)) in
        omega (arith, s, before, hr.ticks_cover b above now.0, hr.ticks_high (parent_of rows b) (omega (arith, parent, now.0)))

    noted_or_known : (0 < b → parent_of rows b ≢ r) → Contains list b ⊎ IsReadyBy rows holds plan (2 ^ 62) b
    noted_or_known other = elim (all_or_one (cowns_of rows b) WasKnown (λ c. Contains list b) each) [
      | inr (c, has, noted) ↦ inl noted
      | inl known ↦ inr (record {
        spawned = spawned_before other;
        in_turn = λ c u e need. (
            let low_came = came_low rows hr holds within c plan tick (λ a there s. come a there s) (suc b) b (omega arith) (omega (arith, now.0))
            (known c (use_has (cowns_of rows b) _ c u e) u e need) in
            omega (arith, low_came, now.0, hr.not_many, before));
      })
    ]

    listed : Contains list b ⊎ IsReadyBy rows holds plan (2 ^ 62) b
    listed = elim (cases_eq (parent_of rows b) r) [
      | inr ne ↦ noted_or_known (λ above. ne)
      | inl e ↦ elim (cases_lt 0 b) [
        | inl above ↦ inl (children b (record { not_main = above; there = now.0; parent = e }))
        | inr zero_b ↦ noted_or_known (λ above. absurd (omega (arith, above, zero_b)))
      ]
    ]

  -- the queues
  pub start_queued : (waiting more : List (Reverse (ℕ × ℕ))) (ready : List (Reverse ℕ)) → AreQueued rows holds plan waiting ready tick (Some r)
      → ((due b : ℕ) → IsIn waiting due b → tick < due) → IsQueuedMore rows holds plan' list waiting more → AreQueued rows holds plan' more ready tick None
  start_queued waiting more ready q after m = record {
    waiting_heap = m.heap;
    ready_heap = q.ready_heap;
    waits = λ due b i. elim (m.was due b i) [
      | inr new ↦ new
      | inl was ↦ (
          let w = q.waits due b was in
          let ne : b ≢ r = λ e. (
          let r_due : IsReadyFrom rows holds plan due r = subst (IsReadyFrom rows holds plan due) e w.1 in
          omega (arith, r_due.least tick ready_now, after due b was)) in (
            (w.0.0, omega (arith, ps.others b ne, w.0.1)),
            record {
              ready = still_ready rows hr holds plan plan' r tick not soon ps most due b w.0.0 w.1.ready;
              least = λ u i. w.1.least u (ready_stays rows hr holds within plan plan' keeps due u b w.0.0 w.2 w.1.ready i);
            },
            w.2,
          ))
    ];
    are_ready = λ b i. (let w = q.are_ready b i in (w.0, still_ready rows hr holds plan plan' r tick not soon ps most tick b w.0 w.1));
    all = λ t b low now by. elim (listed t b low now by) [
      | inl noted ↦ inr (inr (m.all t b low noted now by))
      | inr known ↦ (
          let o = old t b low now by in
          elim (q.all (2 ^ 62) b (omega arith) o.0 known) [
            | inl next ↦ absurd (o.1 (let same : r ≡ b = cc in sym same))
            | inr (inl i) ↦ inr (inl i)
            | inr (inr (due, i)) ↦ inr (inr (due, m.stays due b i))
          ])
    ];
  }
