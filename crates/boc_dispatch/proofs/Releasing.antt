-- A request was released, and whoever came after it may have been granted: the behaviour that leaves goes on, or is gone.
use Rattle.std.proofs.Common.{◌≡◌, ◌≢◌, ℕ, zero, suc, ◌+◌, ◌^◌, ◌<◌, ◌≤◌, Bool, true, false, cond, List, [], ◌∷◌, length, map, set, refl, sym, ◌∙◌, ap, subst}
use Rattle.std.proofs.Common.{arith, get_or-set_other, length-set}
use Rattle.std.specs.Prelude.{slice_get, slice_index_or, nat_lt, ◌||◌, ◌==◌, Option, Some, None}
use Rattle.std.specs.Option.{option_map_or}
use Rattle.std.proofs.lemmas.List.{set-set}
use Rattle.std.proofs.lemmas.Bool.Decides.{Decides-ltb, Decides-eqb}
use Rattle.boc_program.specs.declared.program.Program.{Program}
use Rattle.boc_runs.specs.declared.stage.Phase.{Phase}
use Rattle.boc_runs.specs.declared.stage.Phase.TheVariants as phases
use Rattle.boc_runs.specs.declared.stage.Stage.{Stage}
use Rattle.boc_runs.specs.declared.stage.Stage.TheVariants.{Recorded}
use Rattle.boc_runs.specs.machine.Stages.{OpenBehaviour, standing, flagged_at, row_at, enqueues_at, waits_at}
use Rattle.boc_runs.specs.machine.Queues.{times}
use Rattle.boc_runs.specs.machine.Sound.{IsSound}
use Rattle.boc_runs.specs.machine.Steps.{State, at, queue, recorded, stepped, with_behaviour, with_stage, leaving_on}
use Rattle.boc_machine_laws.proofs.Lists.{not_true, times-here}
use Rattle.boc_machine_laws.proofs.Core.{put_here}
use Rattle.boc_chain.specs.declared.request.Request.{Request}
use Rattle.boc_chain.specs.Chain.{slots}
use Rattle.boc_runs.specs.declared.step.Step.{Step}
use Rattle.boc_dispatch.specs.declared.calls.Left.TheVariants as lefts
use Rattle.boc_dispatch.specs.declared.live.Live.{Live}
use Rattle.boc_dispatch.specs.Grants.{IsRemoved, IsStarted, IsReleased, LeftAs, Tied, SameRows, Released}
use Rattle.boc_dispatch.specs.Inside.{Parts, state, live_at, open_of, behaviours_of, number_at, AreCounted, IsKept, HasRooms}
use Rattle.boc_dispatch.specs.Places.{in_phase}
use Rattle.boc_dispatch.proofs.Onward.{Steady, onward_at}
use Rattle.boc_dispatch.proofs.Tables.{live_there, live_here, at_slot, queue_at, live_same}
use Rattle.boc_dispatch.proofs.Fits.{steps_fit}
use Rattle.boc_dispatch.proofs.Standing.{times_slots}
use Rattle.boc_dispatch.proofs.Granting.{kept_of, tied_steady, tied_stepped, put_live, stepped_on, state_put, with_behaviours, rooms_stay}
use Rattle.boc_dispatch.proofs.Removing.{counted_set, IsFree, tied_removed, state_removed, counted_removed}
use Rattle.boc_dispatch.proofs.Waking.{queue_leaving}

-- whoever runs or has ended has all its requests settled and flagged, and is neither enqueued nor ready
pub record HasStarted (stage : Stage) (row : ℕ) : Type 0 where
  pub phase : Phase
  pub stage_is : stage ≡ Recorded row phase
  pub flags : (cowns : List ℕ) → flagged_at (Recorded row phase) cowns ≡ cowns
  pub enqueues : enqueues_at (Recorded row phase) ≡ false
  pub not_ready : (r : ℕ) → stage ≢ Recorded r phases.Ready

pub started_stage : (stage : Stage) (row : ℕ) → IsStarted stage → row_at stage ≡ Some row → HasStarted stage row
started_stage (Recorded q phases.Running) row h r =
    let e : q ≡ row = (let f : Some q ≡ Some row = r in cc) in
    record { phase = phases.Running; stage_is = ap (λ z. Recorded z phases.Running) e; flags = λ cs. refl; enqueues = refl; not_ready = λ x g. absurd cc }
started_stage (Recorded q (phases.Leaving i)) row h r =
    let e : q ≡ row = (let f : Some q ≡ Some row = r in cc) in
    record { phase = phases.Leaving i; stage_is = ap (λ z. Recorded z (phases.Leaving i)) e; flags = λ cs. refl; enqueues = refl; not_ready = λ x g. absurd cc }
started_stage _ row h r = absurd (h refl)

mapped_times : (live : List (Option Live)) (n : ℕ) (q : List Request) (k : ℕ) (r : Request) → slice_get q k ≡ Some r → number_at live r.slot ≡ n
    → 0 < times n (map (λ x. number_at live x.slot) q)
mapped_times live n [] k r e h = absurd (let f : None ≡ Some r = e in cc)
mapped_times live n (x ∷ q) zero r e h =
    let is : x ≡ r = (let f : Some x ≡ Some r = e in cc) in
    let here : number_at live x.slot ≡ n = ap (λ z. number_at live z.slot) is ∙ h in
    let rest = map (λ (z : Request). number_at live z.slot) q in
    omega (arith, ap (λ z. times n (z ∷ rest)) here, times-here n rest)
mapped_times live n (x ∷ q) (suc k) r e h = omega (arith, mapped_times live n q k r e h)

module _ (d : Parts) (slot row : ℕ) (l : Live) (request : ℕ) (e : Parts) (h : Released d slot row l request e) where
  abbrev next : Live
  next = in_phase row (phases.Leaving request) l

  abbrev pub gone_on : Parts
  gone_on = stepped_on (put_live e slot (in_phase row (phases.Leaving request) l))

  starts : HasStarted l.stage row
  starts = started_stage l.stage row h.started h.row_is

  on : Steady l next
  on =
      let s = starts in
      record {
        on = onward_at l l.awaited (Recorded row s.phase) (Recorded row (phases.Leaving request)) s.stage_is refl refl refl (sym (s.flags l.cowns.items)) refl;
        child = refl;
        enqueues = sym (ap enqueues_at s.stage_is ∙ s.enqueues);
      }

  pub on_tied : Tied gone_on
  on_tied = tied_stepped (put_live e slot next) (tied_steady e slot l next h.tied h.here on (λ r g. absurd ((starts).not_ready r g)))

  abbrev left : State
  left = with_stage (state e) l.number (open_of l) (Recorded row (phases.Leaving request))

  pub on_state : state gone_on ≡ stepped (with_stage (state e) l.number (open_of l) (Recorded row (phases.Leaving request)))
  on_state = ap stepped (state_put e slot l next h.tied.numbered h.here (on).on.same)

  pub on_here : live_at (gone_on).live slot ≡ Some next
  on_here = live_here e.live slot (Some next) (live_there e.live slot l h.here)

  on_counted : AreCounted (state gone_on) (gone_on).live
  on_counted = subst (λ (z : State). AreCounted z (gone_on).live) (sym on_state)
      (counted_set (state e) left e.live e.opened slot l (Some next) h.tied.numbered h.here h.counted
      (λ x g pending. let same : next ≡ x = (let f : Some next ≡ Some x = g in cc) in
      let f : false ≡ true = ap (λ z. enqueues_at z.stage || waits_at z.stage) same ∙ pending in cc)
      (λ c. refl)
      (λ w n. get_or-set_other (behaviours_of e.live e.opened) l.number w (Some (record (open_of l) { stage = Recorded row (phases.Leaving request) })) None n))

  abbrev goal_state : State
  goal_state = stepped (leaving_on (state e) l.number (open_of l) row request)

  on_rows : SameRows d gone_on
  on_rows = record {
    recorded_are = h.rows.recorded_are;
    opened_are = h.rows.opened_are;
    rooms_are = h.rows.rooms_are;
    homes_are = h.rows.homes_are;
    long = length-set e.live slot (Some next) ∙ h.rows.long;
  }

  open_is : at (state e) l.number ≡ Some (open_of l)
  open_is = at_slot e.live e.opened slot l h.tied.numbered h.here

  -- another request is to be released
  module _ (more : request < length l.cowns.items) where
    pub moved_state : state gone_on ≡ stepped (leaving_on (state e) l.number (open_of l) row request)
    moved_state = on_state ∙ ap (λ t. stepped (cond t left (with_behaviour (state e) l.number None)))
        (sym ((Decides-ltb request (length l.cowns.items)).1 more))

    pub moved_kept : IsKept gone_on
    moved_kept = kept_of gone_on on_tied (subst (λ (p : Program). IsSound p (state gone_on)) (sym h.program_same)
        (subst (IsSound d.program) (sym moved_state) h.sound)) on_counted

    pub moved_there : at (state gone_on) l.number ≢ None
    moved_there g =
        let put : at left l.number ≡ Some (record (open_of l) { stage = Recorded row (phases.Leaving request) }) =
        put_here (state e) l.number (open_of l) (Some (record (open_of l) { stage = Recorded row (phases.Leaving request) })) open_is in
        let f : None ≡ Some (record (open_of l) { stage = Recorded row (phases.Leaving request) }) = sym g ∙ ap (λ z. at z l.number) on_state ∙ put in
        cc

    pub moved_rooms : (homes room : ℕ) → HasRooms d homes room → HasRooms gone_on homes room
    moved_rooms homes room = rooms_stay d gone_on homes room h.kept moved_kept on_rows

  -- that was the last
  module _ (last : length l.cowns.items ≤ request) where
    none_state : goal_state ≡ stepped (with_behaviour (state e) l.number None)
    none_state = ap (λ t. stepped (cond t left (with_behaviour (state e) l.number None)))
        (not_true (nat_lt request (length l.cowns.items)) (λ g. let f = (Decides-ltb request (length l.cowns.items)).0 g in absurd (omega arith)))

    none_there : at goal_state l.number ≡ None
    none_there = ap (λ z. at z l.number) none_state ∙ put_here (state e) l.number (open_of l) None open_is

    -- its number stands in no list
    unqueued : (c : ℕ) → times l.number (map (λ x. number_at (gone_on).live x.slot) (slice_index_or e.lists c [])) ≡ 0
    unqueued c =
        ap (times l.number) (sym (queue_at (gone_on).live e.lists c))
        ∙ ap (λ z. times l.number (queue z c)) on_state
        ∙ ap (times l.number) (sym (queue_leaving (state e) l.number (open_of l) row request c))
        ∙ h.sound.lawful.stands l.number c
        ∙ ap (λ z. times c (standing z)) none_there

    unlisted : (c k : ℕ) (r : Request) → slice_get (slice_index_or e.lists c []) k ≡ Some r → r.slot ≢ slot
    unlisted c k r g f =
        let n : number_at (gone_on).live r.slot ≡ l.number = ap (λ o. option_map_or (λ (z : Live). z.number) o 0) (ap (live_at (gone_on).live) f ∙ on_here) in
        let m = mapped_times (gone_on).live l.number (slice_index_or e.lists c []) k r g n in
        absurd (omega (arith, m, unqueued c))

    pub free : IsFree gone_on slot next
    free = record {
      tied = on_tied;
      is = on_here;
      childless = h.childless;
      over = refl;
      not_ready = λ r g. let f : Recorded row (phases.Leaving request) ≡ Recorded r phases.Ready = g in cc;
      unlisted = unlisted;
    }

    pub may_empty : (c : ℕ) → times slot (slots (slice_index_or (gone_on).lists c [])) ≡ 0
    may_empty c =
        sym (times_slots (gone_on).live e.opened slot next (on_tied).numbered on_here (slice_index_or e.lists c [])
        (λ k r g. let q = (on_tied).chained.requests c k r g in (q.this, q.is)))
        ∙ unqueued c

    module _ (f : Parts) (r : IsRemoved gone_on slot f) where
      pub gone_state : state f ≡ stepped (leaving_on (state e) l.number (open_of l) row request)
      gone_state =
          state_removed gone_on slot next f free r
          ∙ ap (λ z. with_behaviour z l.number None) on_state
          ∙ ap (with_behaviours (stepped (state e))) (set-set (behaviours_of e.live e.opened) l.number
          (Some (record (open_of l) { stage = Recorded row (phases.Leaving request) })) None)
          ∙ sym none_state

      program_gone : f.program ≡ d.program
      program_gone = ap (λ z. z.program) r.parts_are ∙ h.program_same

      pub gone_kept : IsKept f
      gone_kept = kept_of f (tied_removed gone_on slot next f free r)
          (subst (λ (p : Program). IsSound p (state f)) (sym program_gone) (subst (IsSound d.program) (sym gone_state) h.sound))
          (counted_removed gone_on slot next f free r on_counted)

      pub gone_not_there : at (state f) l.number ≡ None
      gone_not_there = ap (λ z. at z l.number) gone_state ∙ none_there

      pub gone_rooms : (homes room : ℕ) → HasRooms d homes room → HasRooms f homes room
      gone_rooms homes room = rooms_stay d f homes room h.kept gone_kept (record {
        recorded_are = ap (λ z. recorded z.program (state z)) r.parts_are ∙ h.rows.recorded_are;
        opened_are = ap (λ z. z.opened) r.parts_are ∙ h.rows.opened_are;
        rooms_are = ap (λ z. z.log.rooms) r.parts_are ∙ h.rows.rooms_are;
        homes_are = ap (λ z. z.homes) r.parts_are ∙ h.rows.homes_are;
        long = ap (λ z. length z.live) r.parts_are ∙ length-set (gone_on).live slot None ∙ (on_rows).long;
      })

-- ---- what the calls leave in the table's places

-- what is read of a state stays where a behaviour goes on with its release, if it does where it goes on and where it is gone
pub leaving_same : {X : Type 0} (f : State → X) (s : State) (who : ℕ) (b : OpenBehaviour) (row request : ℕ)
    → f (with_stage s who b (Recorded row (phases.Leaving request))) ≡ f s
    → f (with_behaviour s who None) ≡ f s → f (leaving_on s who b row request) ≡ f s
leaving_same f s who b row request on gone = by_test (nat_lt request (length b.cowns))
  where
    by_test : (t : Bool) → f (cond t (with_stage s who b (Recorded row (phases.Leaving request))) (with_behaviour s who None)) ≡ f s
    by_test true = on
    by_test false = gone

module _ (e : Parts) (slot row request homes room : ℕ) (r : IsReleased slot row request e homes room) where
  pub step_fits : e.steps + 1 < 2 ^ 64
  step_fits =
      let h = r.released in
      let fits = steps_fit r.before.program (stepped (leaving_on (state e) r.this.number (open_of r.this) row (suc request))) h.sound in
      let same = leaving_same (λ z. z.steps) (state e) r.this.number (open_of r.this) row (suc request) refl refl in
      omega (arith, fits, same)

  module _ (p p' : Live) (is : live_at e.live slot ≡ Some p) (released : p' ≡ in_phase row (phases.Leaving (suc request)) p) where
    read : p ≡ r.this
    read = live_same e.live slot r.this p r.released.here is

    pub place_then : record (stepped_on e) { live = set e.live slot (Some p') } ≡ gone_on r.before slot row r.this (suc request) e r.released
    place_then =
        let put : p' ≡ in_phase row (phases.Leaving (suc request)) r.this = released ∙ ap (in_phase row (phases.Leaving (suc request))) read in
        λ i. record (stepped_on e) { live = set e.live slot (Some (put i)) }

    -- the test whether that was the last
    module _ (answer : Bool) (test : answer ≡ (suc request == length p.cowns.items)) where
      tested : answer ≡ (suc request == length r.this.cowns.items)
      tested = test ∙ ap (λ (l : Live). suc request == length l.cowns.items) read

      pub was_last : answer ≡ true → length r.this.cowns.items ≤ suc request
      was_last ends_so = let h = (Decides-eqb (suc request) (length r.this.cowns.items)).0 (sym tested ∙ ends_so) in omega arith

      pub was_not_last : answer ≡ false → suc request < length r.this.cowns.items
      was_not_last goes_so =
          let apart : suc request ≢ length r.this.cowns.items = λ g.
          let f : true ≡ false = sym (tested ∙ (Decides-eqb (suc request) (length r.this.cowns.items)).1 g) ∙ goes_so in cc in
          let low = r.low in
          omega arith

  -- what is answered
  module _ (step : Step) (l : Live) (here : live_at e.live slot ≡ Some l) where
    same : r.this ≡ l
    same = let f : Some r.this ≡ Some l = sym r.released.here ∙ here in cc

    pub answers_gone : (last : length r.this.cowns.items ≤ suc request) (f : Parts)
        → IsRemoved (gone_on r.before slot row r.this (suc request) e r.released) slot f → LeftAs e row l (suc request) step (lefts.Gone step) f
    answers_gone last f removed =
        let h = r.released in
        subst (λ (z : Live). LeftAs e row z (suc request) step (lefts.Gone step) f) same (
          record {
            gives = gone_state r.before slot row r.this (suc request) e h last f removed;
            same = ap (λ z. z.program) removed.parts_are;
          },
          refl,
          gone_not_there r.before slot row r.this (suc request) e h last f removed,
        )

    pub answers_moved : suc request < length r.this.cowns.items
        → LeftAs e row l (suc request) step (lefts.Moved step) (gone_on r.before slot row r.this (suc request) e r.released)
    answers_moved more =
        let h = r.released in
        subst (λ (z : Live). LeftAs e row z (suc request) step (lefts.Moved step) (gone_on r.before slot row r.this (suc request) e h)) same (
          record { gives = moved_state r.before slot row r.this (suc request) e h more; same = refl },
          refl,
          moved_there r.before slot row r.this (suc request) e
              h more,
        )
