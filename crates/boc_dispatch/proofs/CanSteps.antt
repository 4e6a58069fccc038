-- Whether a token's next step is allowed, of what is kept.
use Rattle.std.proofs.Common.{◌≡◌, ◌↔◌, ℕ, ◌<◌, Bool, true, false, IsTrue, length, refl, sym, ◌∙◌, ap, subst}
use Rattle.std.specs.Prelude.{slice_index_or, [], Some}
use Rattle.boc_runs.specs.declared.stage.Phase.{Phase}
use Rattle.boc_runs.specs.declared.stage.Phase.TheVariants as phases
use Rattle.boc_runs.specs.declared.stage.Stage.{Stage}
use Rattle.boc_runs.specs.declared.stage.Stage.TheVariants.{Asking, Recorded}
use Rattle.boc_runs.specs.machine.Stages.{enqueues_at}
use Rattle.boc_runs.specs.machine.Movers.{CanAdvance, CanLeave}
use Rattle.boc_machine_laws.proofs.OneTurn.{who_leaves}
use Rattle.boc_chain.specs.declared.request.Settled.TheVariants as settles
use Rattle.boc_chain.specs.declared.request.Released.TheVariants as releases
use Rattle.boc_chain.specs.Chain.{cown, cowns_of, list_for, settle_answer, leave_answer, StandsIn, IsGranted}
use Rattle.boc_dispatch.specs.declared.live.Live.{Live}
use Rattle.boc_dispatch.specs.declared.roster.Enqueue.{Enqueue}
use Rattle.boc_dispatch.specs.Calls.{IsLeaving}
use Rattle.boc_dispatch.specs.Inside.{Parts, IsKept, IsAtStage, state}
use Rattle.boc_dispatch.specs.Moves.{IsFoundEnqueue, IsFoundLeaving}
use Rattle.boc_dispatch.proofs.Fronts.{Front, low_place, may_leave}
use Rattle.boc_dispatch.proofs.Movable.{swaps, flags, owns, settles_next, waits_to_settle, leaves_next, waits_to_leave}
use Rattle.boc_dispatch.proofs.Settled.{settle_there, settle_stands}

-- a test that passes where something is so, and where it fails it isn't
tells : (b : Bool) (A : Type 0) → (b ≡ true → A) → (b ≡ false → A → ⊥) → IsTrue b ↔ A
tells true A so never = (λ t. so refl, λ a. refl)
tells false A so never = (λ t. absurd (let f : false ≡ true = t in cc), λ a. absurd (never refl a))

-- ---- an open enqueue

module _ (d : Parts) (k : IsKept d) (number row : ℕ) (found : Enqueue) (f : IsFoundEnqueue d number row found) where
  abbrev l : Live
  l = f.this

  -- its own number and row are the token's
  as_named : CanAdvance d.program (state d) l.number l.parent → CanAdvance d.program (state d) number row
  as_named can =
      subst (λ (n : ℕ). CanAdvance d.program (state d) n row) f.number_is (subst (λ (r : ℕ). CanAdvance d.program (state d) l.number r) f.parent_is can)

  as_own : CanAdvance d.program (state d) number row → CanAdvance d.program (state d) l.number l.parent
  as_own can =
      subst (λ (n : ℕ). CanAdvance d.program (state d) n l.parent) (sym f.number_is)
      (subst (λ (r : ℕ). CanAdvance d.program (state d) number r) (sym f.parent_is) can)

  pub swap_can : (i : ℕ) → found.stage ≡ Asking i false → CanAdvance d.program (state d) number row
  swap_can i is = as_named (swaps d k found.slot l f.is.is i (f.is.stage_is ∙ is))

  module _ (i : ℕ) (is : found.stage ≡ Asking i true) where
    abbrev it : IsAtStage d found.slot l (Asking i true)
    it = record { is = f.is.is; stage_is = f.is.stage_is ∙ is }

    pub request_there : i < length (cowns_of (d.place found.slot))
    request_there = settle_there d k found.slot l i it

    pub request_stands : StandsIn (list_for d.lists (d.place found.slot) i) found.slot
    request_stands = settle_stands d k found.slot l i it

    pub settle_can : (test : Bool) → ((test ≡ false) ↔ (settle_answer found.slot (list_for d.lists (d.place found.slot) i) ≡ settles.Blocked))
        → IsTrue test ↔ CanAdvance d.program (state d) number row
    settle_can test says =
        tells test (CanAdvance d.program (state d) number row)
        (λ can. as_named (settles_next d k found.slot l f.is.is i it.stage_is test says can))
        (λ cannot can. (waits_to_settle d k found.slot l f.is.is i it.stage_is test says cannot).enqueue
        (ap enqueues_at f.is.stage_is ∙ f.enqueued) (as_own can))

  at_phase : (r : ℕ) (phase : Phase) → found.stage ≡ Recorded r phase → enqueues_at (Recorded r phase) ≡ true
      → CanAdvance d.program (state d) l.number l.parent
  at_phase r (phases.Flagging i) is still = flags d k found.slot l f.is.is r i (f.is.stage_is ∙ is)
  at_phase r phases.Owning is still = owns d k found.slot l f.is.is r (f.is.stage_is ∙ is)
  at_phase r _ is still = absurd (let e : false ≡ true = still in cc)

  pub recorded_can : (r : ℕ) (phase : Phase) → found.stage ≡ Recorded r phase → CanAdvance d.program (state d) number row
  recorded_can r phase is = as_named (at_phase r phase is (sym (ap enqueues_at is) ∙ f.enqueued))

-- ---- a leaving behaviour

module _ (d : Parts) (k : IsKept d) (row slot request : ℕ) (found : IsFoundLeaving d row slot request) where
  abbrev own : Live
  own = found.0

  abbrev leaves : Front d slot row request own
  leaves = record { kept = k; is = found.1.is; stage_is = found.1.stage_is }

  pub leave_there : request < length (cowns_of (d.place slot))
  leave_there = low_place d slot row request own leaves

  pub leave_granted : IsGranted slot (slice_index_or d.lists (cown (d.place slot) request) [])
  leave_granted = may_leave d slot row request own leaves

  pub leave_can : (test : Bool) → ((test ≡ false) ↔ (leave_answer (slice_index_or d.lists (cown (d.place slot) request) []) ≡ releases.Blocked))
      → IsTrue test ↔ CanLeave (state d) row
  leave_can test says =
      tells test (CanLeave (state d) row)
      (λ can. leaves_next d k slot own found.1.is row request found.1.stage_is test says can)
      (λ cannot can. (waits_to_leave d k slot own found.1.is row request found.1.stage_is test says cannot).release row request found.1.stage_is can)

-- who can leave is leaving
pub is_leaving : (d : Parts) (k : IsKept d) (row : ℕ) → CanLeave (state d) row → IsLeaving (state d) row
is_leaving d k row can =
    let l = who_leaves d.program (state d) k.sound row can in
    record {
      who = can.who;
      request = l.request;
      parent = l.this.parent;
      offset = l.this.offset;
      cowns = l.this.cowns;
      is = l.is ∙ ap (λ (st : Stage). Some (record l.this { stage = st })) l.stage_is;
    }
