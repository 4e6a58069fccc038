-- What the call that releases a request answers, and does.
use Rattle.std.proofs.Common.{◌≡◌, ℕ, suc, ◌≤◌, true, false, List, [], ◌∷◌, length, set, sym, ◌∙◌, ap, subst}
use Rattle.std.specs.Prelude.{slice_get, slice_index_or, Some}
use Rattle.std.proofs.lemmas.List.{set-get_or}
use Rattle.boc_runs.specs.declared.step.Step.{Step}
use Rattle.boc_runs.specs.declared.step.Step.TheVariants as steps
use Rattle.boc_runs.specs.machine.Steps.{State, stepped, leaving_on, Leaves, IsBlockedLeaving}
use Rattle.boc_chain.specs.declared.request.Request.{Request}
use Rattle.boc_chain.specs.declared.request.Slot.{Slot}
use Rattle.boc_chain.specs.declared.request.Released.TheVariants as answers
use Rattle.boc_chain.specs.Chain.{cown, leave_answer, after_leave}
use Rattle.boc_dispatch.specs.declared.calls.Left.{Left}
use Rattle.boc_dispatch.specs.declared.calls.Left.TheVariants as lefts
use Rattle.boc_dispatch.specs.declared.live.Live.{Live}
use Rattle.boc_dispatch.specs.Grants.{with_granted, MayBeGranted, Released, LeftAs}
use Rattle.boc_dispatch.specs.Inside.{Parts, state, live_at, open_of}
use Rattle.boc_dispatch.specs.Moves.{ReleasesNext}
use Rattle.boc_dispatch.proofs.Fronts.{Front, popped, popped_state, front, unhooks, unhooked, blocked, passes, passed, may_grant, unhooked_alone, passed_next}
use Rattle.boc_dispatch.proofs.Fronts.{blocked_next, left_behind, left_as_it_was}

-- by the step that was made
pub releases_of : (d e f : Parts) (row : ℕ) (l : Live) (request : ℕ) (step : Step) (result : Left) → e.program ≡ d.program
    → ((t : State) → t ≡ stepped (leaving_on (state e) l.number (open_of l) row request) → Leaves (state d) l.number row step t)
    → LeftAs e row l request step result f → ReleasesNext d l.number row result f
releases_of d e f row l request step (lefts.Moved s) same makes h =
    (subst (λ (z : Step). Leaves (state d) l.number row z (state f)) (sym h.1) (makes (state f) h.0.gives), h.2, h.0.same ∙ same)
releases_of d e f row l request step (lefts.Gone s) same makes h =
    (subst (λ (z : Step). Leaves (state d) l.number row z (state f)) (sym h.1) (makes (state f) h.0.gives), h.2, h.0.same ∙ same)
releases_of d e f row l request step _ same makes h = absurd h

-- the chains let a request go, and keep what is admitted
pub record LetGo (d : Parts) (slot request : ℕ) (e : Parts) : Type 0 where
  pub lists_are : e.lists ≡ set d.lists (cown (d.place slot) request) (after_leave (slice_index_or d.lists (cown (d.place slot) request) []))
  pub places : (s : ℕ) → e.place s ≡ d.place s
  pub parts_are : e ≡ record d { lists = e.lists; place = e.place }

abbrev with_lists : Parts → List (List Request) → Parts
with_lists d lists = record d { lists = lists }

module _ (d : Parts) (slot row request : ℕ) (l : Live) (f : Front d slot row request l) (e : Parts) (g : LetGo d slot request e) where
  abbrev q : List Request
  q = slice_index_or d.lists (cown (d.place slot) request) []

  -- with what is left in the list
  parts_popped : (requests : List Request) → after_leave q ≡ requests → e ≡ popped d slot row request l f requests
  parts_popped requests after =
      let lists : e.lists ≡ set d.lists (cown (d.place slot) request) requests = g.lists_are ∙ ap (set d.lists (cown (d.place slot) request)) after in
      g.parts_are ∙ (λ i. record d { lists = lists i; place = λ s. g.places s i })

  -- ---- alone

  module _ (answer : answers.Unhooked ≡ leave_answer q) where
    only : q ≡ (front d slot row request l f).0 ∷ []
    only =
        let w = front d slot row request l f in
        w.2 ∙ ap (λ z. w.0 ∷ z) (unhooked_alone q w.0 w.1 w.2 answer)

    unhooked_parts : e ≡ popped d slot row request l f []
    unhooked_parts = parts_popped [] (ap after_leave only)

    pub unhooked_released : Released d slot row l (suc request) e
    unhooked_released =
        let w = front d slot row request l f in
        subst (Released d slot row l (suc request)) (sym unhooked_parts) (unhooked d slot row request l f w.0 only w.3)

    pub unhooked_makes : (t : State) → t ≡ stepped (leaving_on (state e) l.number (open_of l) row (suc request))
        → Leaves (state d) l.number row (steps.Unhook request) t
    unhooked_makes t h =
        let w = front d slot row request l f in
        unhooks d slot row request l f w.0 only w.3 t
        (h ∙ ap (λ z. stepped (leaving_on (state z) l.number (open_of l) row (suc request))) unhooked_parts
        ∙ ap (λ z. stepped (leaving_on z l.number (open_of l) row (suc request))) (popped_state d slot row request l f []))

  -- ---- another after it

  module _ (to : Slot) (answer : answers.Passed to ≡ leave_answer q) where
    abbrev this : Request
    this = (front d slot row request l f).0

    next : (next : Request) × (behind : List Request) × ((front d slot row request l f).1 ≡ next ∷ behind) × (next.settled ≡ true)
        × (to ≡ record { index = next.slot })
    next = let w = front d slot row request l f in passed_next q w.0 w.1 to w.2 answer

    list_is : q ≡ this ∷ ((next).0 ∷ (next).1)
    list_is = let w = front d slot row request l f in w.2 ∙ ap (λ z. w.0 ∷ z) (next).2

    mine : (this).slot ≡ slot
    mine = let w = front d slot row request l f in w.3

    follower : (y : Live) × (live_at d.live (next).0.slot ≡ Some y)
    follower = let x = f.kept.chained.requests (cown (d.place slot) request) 1 (next).0 (ap (λ z. slice_get z 1) list_is) in (x.this, x.is)

    passed_parts : e ≡ popped d slot row request l f ((next).0 ∷ (next).1)
    passed_parts = parts_popped ((next).0 ∷ (next).1) (ap after_leave list_is ∙ left_behind this (next).0 (next).1 (next).3)

    index_is : to.index ≡ (next).0.slot
    index_is = ap (λ z. z.index) (next).4

    granted_parts : with_granted to.index e ≡ with_granted (next).0.slot (popped d slot row request l f ((next).0 ∷ (next).1))
    granted_parts = ap (λ z. with_granted z e) index_is ∙ ap (with_granted (next).0.slot) passed_parts

    pub passed_may : (room : ℕ) → length d.live ≤ room → MayBeGranted e to.index room
    passed_may room h =
        let m = may_grant d slot row request l f this (next).0 (next).1 (follower).0 list_is mine (follower).1 (next).3 room h in
        subst (λ (z : ℕ). MayBeGranted e z room) (sym index_is) (subst (λ (z : Parts). MayBeGranted z (next).0.slot room) (sym passed_parts) m)

    module _ (e' : Parts) (granted : e' ≡ with_granted to.index e) where
      pub passed_released : Released d slot row l (suc request) e'
      passed_released =
          subst (Released d slot row l (suc request)) (sym (granted ∙ granted_parts))
          (passed d slot row request l f this (next).0 (next).1 (follower).0 list_is mine (follower).1 (next).3)

      pub passed_makes : (t : State) → t ≡ stepped (leaving_on (state e') l.number (open_of l) row (suc request))
          → Leaves (state d) l.number row (steps.Pass request) t
      passed_makes t h =
          passes d slot row request l f this (next).0 (next).1 (follower).0 list_is mine (follower).1 (next).3 t
          (h ∙ ap (λ z. stepped (leaving_on (state z) l.number (open_of l) row (suc request))) (granted ∙ granted_parts))

      pub passed_program : e'.program ≡ d.program
      passed_program = (passed_released).program_same

  -- ---- blocked

  module _ (answer : answers.Blocked ≡ leave_answer q) where
    waits_for : (next : Request) × (behind : List Request) × ((front d slot row request l f).1 ≡ next ∷ behind) × (next.settled ≡ false)
    waits_for = let w = front d slot row request l f in blocked_next q w.0 w.1 w.2 answer

    whole : q ≡ (front d slot row request l f).0 ∷ ((waits_for).0 ∷ (waits_for).1)
    whole = let w = front d slot row request l f in w.2 ∙ ap (λ z. w.0 ∷ z) (waits_for).2

    pub blocked_parts : e ≡ d
    blocked_parts =
        parts_popped q (ap after_leave whole ∙ left_as_it_was (front d slot row request l f).0 (waits_for).0 (waits_for).1 (waits_for).3 ∙ sym whole)
        ∙ ap (with_lists d) (set-get_or d.lists (cown (d.place slot) request) [])

    pub blocked_is : IsBlockedLeaving (state d) l.number row
    blocked_is =
        let w = front d slot row request l f in
        let x = f.kept.chained.requests (cown (d.place slot) request) 1 (waits_for).0 (ap (λ z. slice_get z 1) whole) in
        blocked d slot row request l f w.0 (waits_for).0 (waits_for).1 x.this whole w.3 x.is (waits_for).3
