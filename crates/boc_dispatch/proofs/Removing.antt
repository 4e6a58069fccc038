-- A behaviour that has released all is gone: the state that follows, and what is kept.
use Rattle.std.proofs.Common.{◌≡◌, ◌≢◌, ℕ, ◌+◌, inl, inr, true, false, List, [], set, refl, sym, ◌∙◌, ap, subst, arith, get_or-set_other}
use Rattle.std.specs.Prelude.{slice_get, slice_index_or, ◌||◌, Option, Some, None}
use Rattle.std.specs.Option.{option_map, option_map_or}
use Rattle.boc_runs.specs.declared.stage.Phase.TheVariants as phases
use Rattle.boc_runs.specs.declared.stage.Stage.TheVariants.{Recorded}
use Rattle.boc_runs.specs.machine.Stages.{enqueues_at, waits_at}
use Rattle.boc_runs.specs.machine.Queues.{is_first}
use Rattle.boc_runs.specs.machine.Steps.{State, at, queue, with_behaviour}
use Rattle.boc_machine_laws.proofs.Lists.{same_or_not}
use Rattle.boc_chain.specs.declared.request.Request.{Request}
use Rattle.boc_dispatch.specs.declared.live.Live.{Live}
use Rattle.boc_dispatch.specs.Grants.{IsRemoved, Tied}
use Rattle.boc_dispatch.specs.Inside.{Parts, state, live_at, behaviours_of, place_of, AreNumbered, AreCounted}
use Rattle.boc_dispatch.proofs.Tables.{live_there, live_here, live_other, live_new, numbered_removed, behaviours_removed, taken_removed, queues_same, rows_same}
use Rattle.boc_dispatch.proofs.Granting.{awaits_same}

-- the behaviour at a slot neither enqueues nor waits: what the others await stays
pub counted_set : (s t : State) (live : List (Option Live)) (n slot : ℕ) (l : Live) (place : Option Live) → AreNumbered live n → live_at live slot ≡ Some l
    → AreCounted s live
    → ((x : Live) → place ≡ Some x → (enqueues_at x.stage || waits_at x.stage) ≡ true → ⊥)
    → ((c : ℕ) → queue t c ≡ queue s c) → ((w : ℕ) → w ≢ l.number → at t w ≡ at s w) → AreCounted t (set live slot place)
counted_set s t live n slot l place k is counted over queues others i x e pending =
    elim (live_new live slot place i x e) [
      | inl u ↦ absurd (over x u.1 pending)
      | inr u ↦
          let other : x.number ≢ l.number = λ f. u.0 (k.once i slot x l u.1 is f) in
          counted i x u.1 pending ∙ sym (awaits_same s t x (λ c. ap (is_first x.number) (queues c)) (others x.number other))
    ]

-- a behaviour that nothing speaks of any more
pub record IsFree (d : Parts) (slot : ℕ) (l : Live) : Type 0 where
  pub tied : Tied d
  pub is : live_at d.live slot ≡ Some l
  pub childless : l.child ≡ None
  pub over : (enqueues_at l.stage || waits_at l.stage) ≡ false
  pub not_ready : (row : ℕ) → l.stage ≢ Recorded row phases.Ready
  pub unlisted : (c k : ℕ) (r : Request) → slice_get (slice_index_or d.lists c []) k ≡ Some r → r.slot ≢ slot

module _ (d : Parts) (slot : ℕ) (l : Live) (e : Parts) (f : IsFree d slot l) (r : IsRemoved d slot e) where
  abbrev live' : List (Option Live)
  live' = set d.live slot None

  abbrev gone : Parts
  gone = record d { live = set d.live slot None; place = e.place; gone = d.gone + 1 }

  was : (s : ℕ) (x : Live) → live_at live' s ≡ Some x → (s ≢ slot) × (live_at d.live s ≡ Some x)
  was s x h = elim (live_new d.live slot None s x h) [
    | inl u ↦ absurd (let g : None ≡ Some x = u.1 in cc)
    | inr u ↦ (u.0, u.1)
  ]

  stays : (s : ℕ) (o : Option Live) → s ≢ slot → live_at d.live s ≡ o → live_at live' s ≡ o
  stays s o n h = live_other d.live slot None s n ∙ h

  quiet : enqueues_at l.stage ≡ true → ⊥
  quiet h = let g : false ≡ true = sym f.over ∙ ap (λ b. b || waits_at l.stage) h in cc

  -- no ready slot is its own
  unready : (i s : ℕ) → slice_get d.ready i ≡ Some s → s ≢ slot
  unready i s h g =
      let q = f.tied.ready_there i s h in
      let same : q.0 ≡ l = (let j : Some q.0 ≡ Some l = sym q.2 ∙ ap (live_at d.live) g ∙ f.is in cc) in
      f.not_ready q.1 (ap (λ z. z.stage) (sym same) ∙ q.3)

  tied_gone : Tied gone
  tied_gone =
      let k = f.tied in
      record {
        cowns_are = k.cowns_are;
        values_are = k.values_are;
        homes_are = k.homes_are;
        numbered = numbered_removed d.live d.opened slot l k.numbered f.is;
        at_home = λ s row x h. k.at_home s row x (was s x h).1;
        in_hand = record {
          children = λ home s x h holds.
              let q = k.in_hand.children home s x (was home x h).1 holds in
              let other : s ≢ slot = λ g.
              let same : q.child ≡ l = (let j : Some q.child ≡ Some l = sym q.is ∙ ap (live_at d.live) g ∙ f.is in cc) in
              quiet (ap (λ z. enqueues_at z.stage) (sym same) ∙ q.enqueued) in
              record { child = q.child; is = stays s (Some q.child) other q.is; enqueued = q.enqueued; parent_is = q.parent_is };
          parents = λ s x h open_yet.
              let q = k.in_hand.parents s x (was s x h).1 open_yet in
              let other : q.home ≢ slot = λ g.
              let same : q.parent ≡ l = (let j : Some q.parent ≡ Some l = sym q.is ∙ ap (live_at d.live) g ∙ f.is in cc) in
              (let j : None ≡ Some s = sym f.childless ∙ ap (λ z. z.child) (sym same) ∙ q.knows in cc) in
              record { home = q.home; parent = q.parent; is = stays q.home (Some q.parent) other q.is; row_is = q.row_is; knows = q.knows };
        };
        chained = record {
          requests = λ c i x h.
              let q = k.chained.requests c i x h in
              record { this = q.this; is = stays x.slot (Some q.this) (f.unlisted c i x h) q.is; settled_is = q.settled_is; flagged_is = q.flagged_is };
          places = λ s. elim (same_or_not s slot) [
            | inl g ↦ ap e.place g ∙ r.place_is ∙ sym (ap (λ z. option_map place_of (live_at live' z)) g
                ∙ ap (option_map place_of) (live_here d.live slot None (live_there d.live slot l f.is)))
            | inr n ↦ r.other_places s n ∙ k.chained.places s ∙ sym (ap (option_map place_of) (live_other d.live slot None s n))
          ];
        };
        of_run = record {
          recorded = λ s row x h. k.of_run.recorded s row x (was s x h).1;
          asking = λ s x h. k.of_run.asking s x (was s x h).1;
        };
        ready_there = λ i s h.
            let q = k.ready_there i s h in
            (q.0, q.1, stays s (Some q.0) (unready i s h) q.2, q.3);
        left = let t = taken_removed d.live d.opened slot l k.numbered f.is in let h = k.left in omega arith;
      }

  pub tied_removed : Tied e
  tied_removed = subst Tied (sym r.parts_are) tied_gone

  pub state_removed : state e ≡ with_behaviour (state d) l.number None
  state_removed =
      ap state r.parts_are
      ∙ (λ i. record {
        log = d.log.events;
        behaviours = behaviours_removed d.live d.opened slot l f.tied.numbered f.is i;
        queues = queues_same d.live live' d.lists (λ c j x h. ap (λ o. option_map_or (λ (z : Live). z.number) o 0)
            (live_other d.live slot None x.slot (f.unlisted c j x h))) i;
        ready = rows_same d.live live' d.ready (λ j s h. live_other d.live slot None s (unready j s h)) i;
        steps = d.steps;
      })

  pub counted_removed : AreCounted (state d) d.live → AreCounted (state e) e.live
  counted_removed counted =
      let t = with_behaviour (state d) l.number None in
      let here : AreCounted t live' =
      counted_set (state d) t d.live d.opened slot l None f.tied.numbered f.is counted
      (λ x h p. let g : None ≡ Some x = h in cc) (λ c. refl)
      (λ w n. get_or-set_other (behaviours_of d.live d.opened) l.number w None None n) in
      subst (λ (z : Parts). AreCounted (state e) z.live) (sym r.parts_are) (subst (λ (s : State). AreCounted s live') (sym state_removed) here)
