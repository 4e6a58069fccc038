-- Own: an enqueue ends, and the behaviour waits or is ready.
use Rattle.std.proofs.Common.{◌≡◌, ◌≢◌, ℕ, ◌+◌, ◌≤◌, inl, inr, true, false, cond, List, length, set, refl, sym, ◌∙◌, ap, subst, arith, get_or-set_other}
use Rattle.std.proofs.Common.{length-set, rules}
use Rattle.std.specs.Prelude.{slice_get, ◌||◌, Option, Some, None}
use Rattle.std.specs.List.{count_by}
use Rattle.std.proofs.lemmas.List.{set-set}
use Rattle.boc_program.specs.declared.program.Program.{Program}
use Rattle.boc_runs.specs.declared.stage.Phase.TheVariants as phases
use Rattle.boc_runs.specs.declared.stage.Stage.{Stage}
use Rattle.boc_runs.specs.declared.stage.Stage.TheVariants.{Recorded}
use Rattle.boc_runs.specs.Lives.{Pending, Running, Ended}
use Rattle.boc_runs.specs.Run.{state_of as state_of_run}
use Rattle.boc_runs.specs.machine.Stages.{OpenBehaviour, cowns_of, settled, settled_at, row_of, row_at, life, life_at, enqueues, enqueues_at, waits_at}
use Rattle.boc_runs.specs.machine.Stages.{parent_of, ready_row_at}
use Rattle.boc_runs.specs.machine.Queues.{all_granted}
use Rattle.boc_runs.specs.machine.Sound.{IsSound}
use Rattle.boc_runs.specs.machine.Steps.{State, at, queue, members, recorded, stepped, with_stage, made_ready, owned, woken, woken_if, Owns}
use Rattle.boc_machine_laws.proofs.Lists.{same_or_not}
use Rattle.boc_machine_laws.proofs.Lawful.{regranted}
use Rattle.boc_machine_laws.proofs.Core.{put_here, one_if}
use Rattle.boc_machine_laws.proofs.Rows.{life_there}
use Rattle.boc_machine_laws.proofs.Keeps.{keeps_owns}
use Rattle.boc_dispatch.specs.declared.live.Live.{Live}
use Rattle.boc_dispatch.specs.Grants.{with_granted, MayBeGranted, Tied, AreReady}
use Rattle.boc_dispatch.specs.Inside.{Parts, state, live_at, open_of, behaviours_of, ungranted, awaits, is_taken, AreNumbered, AreInHand, IsChildOf, IsParentOf}
use Rattle.boc_dispatch.specs.Inside.{AreChained, IsKept, HasRooms, GoesOn}
use Rattle.boc_dispatch.specs.Places.{in_phase, with_child}
use Rattle.boc_dispatch.proofs.Counts.{waited_same}
use Rattle.boc_dispatch.proofs.Onward.{Same, Onward, onward_at, Follows, follows_set, follows_then, same_self, stays, chained_on}
use Rattle.boc_dispatch.proofs.Tables.{live_there, live_here, live_other, live_new, at_slot, numbered_changed, taken_changed, live_same}
use Rattle.boc_dispatch.proofs.Standing.{ready_fits}
use Rattle.boc_dispatch.proofs.Granting.{tied_of, tied_on, ready_put, put_live, state_put, state_same, CountedBut, awaits_same, Grants, grants, with_behaviours}
use Rattle.boc_dispatch.proofs.Granting.{granted_stays, granted_length, stepped_on, tied_stepped, kept_of, rooms_stay}

-- whoever has a child in hand runs
pub holder_runs : (d : Parts) → IsKept d → (home slot : ℕ) (l : Live) → live_at d.live home ≡ Some l → l.child ≡ Some slot → life_at l.stage ≡ Running
holder_runs d k home slot l is holds =
    let q = k.in_hand.children home slot l is holds in
    let c = q.child in
    let child_is : at (state d) c.number ≡ Some (open_of c) = at_slot d.live d.opened slot c k.numbered q.is in
    let this_is : at (state d) l.number ≡ Some (open_of l) = at_slot d.live d.opened home l k.numbered is in
    let runs = k.sound.fits.parents c.number (ap enqueues child_is ∙ q.enqueued) in
    let r = k.sound.fits.has_row l.number c.parent (ap row_of this_is ∙ q.parent_is) in
    let rows = members d.program (state d) in
    let there = life_there rows c.parent r.member r.is in
    let same : Some r.member.life ≡ Some Running = sym there ∙ ap (λ z. state_of_run rows z) (sym (ap parent_of child_is)) ∙ runs in
    let e : r.member.life ≡ Running = cc in
    sym (ap life this_is) ∙ sym r.life_is ∙ e

-- the parent has it in hand no more, and it waits
abbrev pub after_own : Parts → ℕ → ℕ → ℕ → Live → Live → Parts
after_own d parent slot row holder l = record d { live = set (set d.live parent (Some (with_child None holder))) slot (Some (in_phase row phases.Waiting l)) }

-- an owning behaviour, and its parent, which has it in hand
pub record Owning (d : Parts) (parent slot row : ℕ) (holder l : Live) : Type 0 where
  pub kept : IsKept d
  pub is : live_at d.live slot ≡ Some l
  pub stage_is : l.stage ≡ Recorded row phases.Owning
  pub holder_is : live_at d.live parent ≡ Some holder
  pub holds : holder.child ≡ Some slot

-- whoever runs neither enqueues nor waits
runs_pending : (st : Stage) → life_at st ≡ Running → (enqueues_at st || waits_at st) ≡ true → ⊥
runs_pending (Recorded r phases.Running) h p = let f : false ≡ true = p in cc
runs_pending (Recorded r (phases.Leaving i)) h p = let f : Ended ≡ Running = h in cc
runs_pending _ h p = let f : Pending ≡ Running = h in cc

module _ (d : Parts) (parent slot row : ℕ) (holder l : Live) (o : Owning d parent slot row holder l) where
  abbrev freed : Live
  freed = with_child None holder

  abbrev waiting : Live
  waiting = in_phase row phases.Waiting l

  abbrev alone : List (Option Live)
  alone = set d.live parent (Some freed)

  abbrev enqueued : List (Option Live)
  enqueued = set alone slot (Some waiting)

  abbrev after : Parts
  after = record d { live = enqueued }

  runs : life_at holder.stage ≡ Running
  runs = holder_runs d o.kept parent slot holder o.holder_is o.holds

  pending : life_at l.stage ≡ Pending
  pending = ap life_at o.stage_is

  pub apart : slot ≢ parent
  apart e =
      let same : l ≡ holder = (let f : Some l ≡ Some holder = sym o.is ∙ ap (live_at d.live) e ∙ o.holder_is in cc) in
      absurd (let f : Pending ≡ Running = sym pending ∙ ap (λ z. life_at z.stage) same ∙ runs in cc)

  childless : (s : ℕ) → l.child ≡ Some s → ⊥
  childless s e = let f : Pending ≡ Running = sym pending ∙ holder_runs d o.kept slot s l o.is e in cc

  pub still_there : live_at alone slot ≡ Some l
  still_there = live_other d.live parent (Some freed) slot apart ∙ o.is

  freed_on : Onward holder freed
  freed_on = search rules

  waiting_on : Onward l waiting
  waiting_on = onward_at l l.awaited (Recorded row phases.Owning) (Recorded row phases.Waiting) o.stage_is refl refl refl refl refl

  on : Follows Same d.live enqueued
  on = follows_then d.live alone enqueued (follows_set Same same_self d.live parent holder freed o.holder_is (freed_on).same)
      (follows_set Same same_self alone slot l waiting still_there (waiting_on).same)

  chained : AreChained enqueued d.lists d.place
  chained =
      chained_on alone enqueued (follows_set Onward stays alone slot l waiting still_there waiting_on) d.lists d.place
      (chained_on d.live alone (follows_set Onward stays d.live parent holder freed o.holder_is freed_on) d.lists d.place o.kept.chained)

  -- who else is there was there, or is the parent
  data Was (s : ℕ) (x : Live) : Type 0 where
    This : s ≡ slot → waiting ≡ x → Was s x
    Parent : s ≡ parent → freed ≡ x → Was s x
    Other : s ≢ slot → s ≢ parent → live_at d.live s ≡ Some x → Was s x

  was : (s : ℕ) (x : Live) → live_at enqueued s ≡ Some x → Was s x
  was s x e =
      elim (live_new alone slot (Some waiting) s x e) [
        | inl u ↦ This u.0 (let f : Some waiting ≡ Some x = u.1 in cc)
        | inr u ↦
            elim (live_new d.live parent (Some freed) s x u.1) [
              | inl v ↦ Parent v.0 (let f : Some freed ≡ Some x = v.1 in cc)
              | inr v ↦ Other u.0 v.0 v.1
            ]
      ]

  here : live_at enqueued slot ≡ Some waiting
  here = live_here alone slot (Some waiting) (live_there alone slot l still_there)

  parent_here : live_at enqueued parent ≡ Some freed
  parent_here = live_other alone slot (Some waiting) parent (λ e. apart (sym e))
      ∙ live_here d.live parent (Some freed) (live_there d.live parent holder o.holder_is)

  other_here : (s : ℕ) (x : Live) → s ≢ slot → s ≢ parent → live_at d.live s ≡ Some x → live_at enqueued s ≡ Some x
  other_here s x n m e = live_other alone slot (Some waiting) s n ∙ live_other d.live parent (Some freed) s m ∙ e

  -- a child of another parent is in its hand as before
  child_still : (home s : ℕ) (x : Live) → home ≢ parent → live_at d.live home ≡ Some x → x.child ≡ Some s → IsChildOf enqueued s x
  child_still home s x n e holds =
      let q = o.kept.in_hand.children home s x e holds in
      let mine = o.kept.in_hand.children parent slot holder o.holder_is o.holds in
      let not_mine : s ≢ slot = λ f.
      let child : q.child ≡ mine.child = (let g : Some q.child ≡ Some mine.child = sym q.is ∙ ap (live_at d.live) f ∙ mine.is in cc) in
      let a : slice_get d.homes q.child.parent ≡ Some home = o.kept.at_home home q.child.parent x e q.parent_is in
      let b : slice_get d.homes mine.child.parent ≡ Some parent = o.kept.at_home parent mine.child.parent holder o.holder_is mine.parent_is in
      n (let g : Some home ≡ Some parent = sym a ∙ ap (λ z. slice_get d.homes z.parent) child ∙ b in cc) in
      elim (same_or_not s parent) [
        | inl f ↦
            let child : q.child ≡ holder = (let g : Some q.child ≡ Some holder = sym q.is ∙ ap (live_at d.live) f ∙ o.holder_is in cc) in
            record {
              child = freed;
              is = ap (live_at enqueued) f ∙ parent_here;
              enqueued = ap (λ z. enqueues_at z.stage) (sym child) ∙ q.enqueued;
              parent_is = q.parent_is ∙ ap (λ z. Some z.parent) child;
            }
        | inr m ↦ record { child = q.child; is = other_here s q.child not_mine m q.is; enqueued = q.enqueued; parent_is = q.parent_is }
      ]

  -- another child's parent knows it as before
  parent_still : (s : ℕ) (x : Live) → s ≢ slot → live_at d.live s ≡ Some x → enqueues_at x.stage ≡ true → IsParentOf enqueued s x
  parent_still s x n e open_yet =
      let q = o.kept.in_hand.parents s x e open_yet in
      let other : q.home ≢ parent = λ f.
      let same : q.parent ≡ holder = (let g : Some q.parent ≡ Some holder = sym q.is ∙ ap (live_at d.live) f ∙ o.holder_is in cc) in
      n (let g : Some s ≡ Some slot = sym q.knows ∙ ap (λ z. z.child) same ∙ o.holds in cc) in
      elim (same_or_not q.home slot) [
        | inl f ↦
            let same : q.parent ≡ l = (let g : Some q.parent ≡ Some l = sym q.is ∙ ap (live_at d.live) f ∙ o.is in cc) in
            record {
              home = slot;
              parent = waiting;
              is = here;
              row_is = sym (ap (λ z. row_at z.stage) same ∙ ap row_at o.stage_is) ∙ q.row_is;
              knows = ap (λ z. z.child) (sym same) ∙ q.knows;
            }
        | inr m ↦ record { home = q.home; parent = q.parent; is = other_here q.home q.parent m other q.is; row_is = q.row_is; knows = q.knows }
      ]

  hand : AreInHand enqueued
  hand = record {
    children = λ home s x e holds.
        elim (was home x e) [
          | This f g ↦ absurd (childless s (ap (λ z. z.child) g ∙ holds))
          | Parent f g ↦ absurd (let h : None ≡ Some s = ap (λ z. z.child) g ∙ holds in cc)
          | Other n m f ↦ child_still home s x m f holds
        ];
    parents = λ s x e open_yet.
        elim (was s x e) [
          | This f g ↦ absurd (let h : false ≡ true = ap (λ z. enqueues_at z.stage) g ∙ open_yet in cc)
          | Parent f g ↦ absurd (runs_pending holder.stage runs (ap (λ z. z || waits_at holder.stage) (ap (λ z. enqueues_at z.stage) g ∙ open_yet)))
          | Other n m f ↦ parent_still s x n f open_yet
        ];
  }

  ready : AreReady enqueued d.ready
  ready = ready_put alone d.ready slot l waiting still_there
      (λ r e. absurd (let f : Recorded row phases.Owning ≡ Recorded r phases.Ready = sym o.stage_is ∙ e in cc))
      (ready_put d.live d.ready parent holder freed o.holder_is (λ r e. e) o.kept.ready_there)

  alone_numbered : AreNumbered alone d.opened
  alone_numbered = numbered_changed d.live d.opened parent holder freed o.kept.numbered o.holder_is refl

  taken : count_by is_taken enqueued ≡ count_by is_taken d.live
  taken = taken_changed alone d.opened slot l waiting alone_numbered still_there refl
      ∙ taken_changed d.live d.opened parent holder freed o.kept.numbered o.holder_is refl

  tied : Tied after
  tied = tied_on d enqueued d.lists d.place (tied_of d o.kept) on chained ready hand taken

  abbrev waits : State
  waits = with_stage (state d) l.number (open_of l) (Recorded row phases.Waiting)

  gives : state after ≡ with_stage (state d) l.number (open_of l) (Recorded row phases.Waiting)
  gives =
      state_put (put_live d parent freed) slot l waiting alone_numbered still_there (waiting_on).same
      ∙ ap (λ z. with_stage z l.number (open_of l) (Recorded row phases.Waiting))
      (state_same d parent holder freed o.kept.numbered o.holder_is (freed_on).same refl)

  open_is : at (state d) l.number ≡ Some (open_of l)
  open_is = at_slot d.live d.opened slot l o.kept.numbered o.is

  counts : CountedBut (state after) enqueued slot
  counts = subst (λ (z : State). CountedBut z enqueued slot) (sym gives) (record {
    others = λ i x n e pending. elim (was i x e) [
      | This f g ↦ absurd (n f)
      | Parent f g ↦ absurd (runs_pending holder.stage runs (ap (λ z. enqueues_at z.stage || waits_at z.stage) g ∙ pending))
      | Other f m g ↦
          let other : x.number ≢ l.number = λ h. n (o.kept.numbered.once i slot x l g o.is h) in
          o.kept.counted i x g pending
          ∙ sym (awaits_same (state d) waits x (λ c. refl) (get_or-set_other (behaviours_of d.live d.opened) l.number x.number
          (Some (record (open_of l) { stage = Recorded row phases.Waiting })) None other))
    ];
    this = λ x e.
        let same : waiting ≡ x = (let f : Some waiting ≡ Some x = sym here ∙ e in cc) in
        let open_yet : (enqueues_at l.stage || waits_at l.stage) ≡ true = ap (λ z. enqueues_at z || waits_at z) o.stage_is in
        let was_one : cond (enqueues_at l.stage) 1 0 ≡ one_if true = ap (λ z. one_if (enqueues_at z)) o.stage_is in
        let is_none : cond false 1 0 ≡ one_if false = refl in
        let n : l.awaited ≡ ungranted (state d) l.number l.cowns.items + cond (enqueues_at l.stage) 1 0 = o.kept.counted slot l o.is open_yet in
        let put : at waits l.number ≡ Some (record (open_of l) { stage = Recorded row phases.Waiting }) =
        put_here (state d) l.number (open_of l) (Some (record (open_of l) { stage = Recorded row phases.Waiting })) open_is in
        let same_settled : settled (at waits l.number) ≡ settled (at (state d) l.number) =
        ap settled put ∙ sym (ap settled open_is ∙ ap (λ z. settled_at z l.cowns.items) o.stage_is) in
        let u : ungranted waits l.number l.cowns.items ≡ ungranted (state d) l.number l.cowns.items =
        waited_same (at (state d)) (at waits) (queue (state d)) (queue waits) l.number l.cowns.items same_settled (λ c. refl) in
        let result : l.awaited ≡ (ungranted waits l.number l.cowns.items + cond false 1 0) + 1 = omega (arith, n, was_one, is_none, u) in
        subst (λ (z : Live). z.awaited ≡ awaits waits z + 1) same result;
  })

  -- the slot's behaviour is granted its Own
  pub granted_own : Grants after l.number (with_granted slot after)
  granted_own = grants after slot waiting tied here counts refl

  -- so it is owned
  woken_owned : woken waits l.number ≡ owned (state d) l.number (open_of l) row
  woken_owned =
      let b : OpenBehaviour = record (open_of l) { stage = Recorded row phases.Waiting } in
      let put : at waits l.number ≡ Some b = put_here (state d) l.number (open_of l) (Some b) open_is in
      let same_settled : settled (at waits l.number) ≡ settled (at (state d) l.number) =
      ap settled put ∙ sym (ap settled open_is ∙ ap (λ z. settled_at z l.cowns.items) o.stage_is) in
      let g : all_granted (at waits) (queue waits) l.number ≡ all_granted (at (state d)) (queue (state d)) l.number =
      regranted (at (state d)) (at waits) (queue (state d)) l.number same_settled (ap cowns_of put ∙ sym (ap cowns_of open_is)) in
      let readied : made_ready waits l.number b row ≡ made_ready (state d) l.number (open_of l) row =
      ap (with_behaviours (made_ready waits l.number b row))
      (set-set (behaviours_of d.live d.opened) l.number (Some b) (Some (record (open_of l) { stage = Recorded row phases.Ready }))) in
      ap (woken_if waits l.number) put
      ∙ ap (λ z. cond z (made_ready waits l.number b row) waits) g
      ∙ ap (λ z. cond (all_granted (at (state d)) (queue (state d)) l.number) z waits) readied

  pub owns : Owns (state d) l.number (stepped (state (with_granted slot after)))
  owns = record {
    this = open_of l;
    row = row;
    is = open_is;
    stage_is = o.stage_is;
    gives = ap stepped (granted_own.gives ∙ ap (λ z. woken z l.number) gives ∙ woken_owned);
  }

  abbrev result : Parts
  result = stepped_on (with_granted slot after)

  program_same : result.program ≡ d.program
  program_same = granted_stays (λ e. e.program) after slot (λ live ready. refl)

  pub own_kept : IsKept result
  own_kept =
      kept_of result (tied_stepped (with_granted slot after) granted_own.tied)
      (subst (λ (p : Program). IsSound p (state result)) (sym program_same) (keeps_owns d.program (state d) l.number (state result) o.kept.sound owns))
      granted_own.counted

  pub own_rooms : (homes room : ℕ) → HasRooms d homes room → HasRooms result homes room
  own_rooms homes room = rooms_stay d result homes room o.kept own_kept (record {
    recorded_are = granted_stays (λ e. recorded e.program (state e)) after slot (λ live ready. refl);
    opened_are = granted_stays (λ e. e.opened) after slot (λ live ready. refl);
    rooms_are = granted_stays (λ e. e.log.rooms) after slot (λ live ready. refl);
    homes_are = granted_stays (λ e. e.homes) after slot (λ live ready. refl);
    long = granted_length after slot ∙ length-set alone slot (Some waiting) ∙ length-set d.live parent (Some freed);
  })

  pub own_goes : GoesOn (λ s t. Owns s l.number t) d result
  own_goes = (owns, program_same)

  pub own_may : (room : ℕ) → length d.live ≤ room → MayBeGranted after slot room
  own_may room h = record {
    this = waiting;
    is = here;
    awaits = let n = (counts).this waiting here in omega (arith, n);
    recorded = λ e. (row, refl);
    room = omega (arith, h, ready_fits d o.kept slot l o.is (ap ready_row_at o.stage_is));
  }

-- the behaviours that the calls find, and what they leave at their slots
pub record OwnCalls (d : Parts) (parent slot row : ℕ) (p p' q q' : Live) : Type 0 where
  pub holder : live_at d.live parent ≡ Some p
  pub frees : p' ≡ with_child None p
  pub own : live_at (set d.live parent (Some p')) slot ≡ Some q
  pub waits : q' ≡ in_phase row phases.Waiting q

freed_is : (d : Parts) (parent : ℕ) (holder p p' : Live) → live_at d.live parent ≡ Some holder → live_at d.live parent ≡ Some p → p' ≡ with_child None p
    → p' ≡ with_child None holder
freed_is d parent holder p p' is read frees = frees ∙ ap (with_child None) (live_same d.live parent holder p is read)

-- the slot's own behaviour stands there as it did
pub own_there : (d : Parts) (parent slot row : ℕ) (holder l p p' : Live) → Owning d parent slot row holder l → live_at d.live parent ≡ Some p
    → p' ≡ with_child None p
    → live_at (set d.live parent (Some p')) slot ≡ Some l
own_there d parent slot row holder l p p' o read frees =
    ap (λ (x : Live). live_at (set d.live parent (Some x)) slot) (freed_is d parent holder p p' o.holder_is read frees)
    ∙ still_there d parent slot row holder l o

pub own_parts : (d : Parts) (parent slot row : ℕ) (holder l p p' q q' : Live) → Owning d parent slot row holder l → OwnCalls d parent slot row p p' q q'
    → record d { live = set (set d.live parent (Some p')) slot (Some q') } ≡ after_own d parent slot row holder l
own_parts d parent slot row holder l p p' q q' o k =
    let e = freed_is d parent holder p p' o.holder_is k.holder k.frees in
    let f : q' ≡ in_phase row phases.Waiting l =
    k.waits ∙ ap (in_phase row phases.Waiting)
    (live_same (set d.live parent (Some p')) slot l q (own_there d parent slot row holder l p p' o k.holder k.frees) k.own) in
    λ i. record d { live = set (set d.live parent (Some (e i))) slot (Some (f i)) }
