-- A crew, of which one worker has a turn.
use Rattle.std.proofs.Common.{◌≡◌, ◌≢◌, ℕ, ◌⊎◌, inl, inr, List, sym, ◌∙◌, ap, subst}
use Rattle.std.specs.Prelude.{slice_get, slice_set, Option, Some, None}
use Rattle.boc_program.specs.declared.program.Program.{Program}
use Rattle.boc_runs.specs.Run.{Member}
use Rattle.boc_runs.specs.machine.Steps.{State, Starts}
use Rattle.boc_runs.specs.machine.Sound.{IsSound}
use Rattle.boc_runs.specs.machine.Turns.{TakesTurn, NoneReady, Begins, Advanced, WaitsToSettle, Opened, Finished, Left, WaitsToLeave, unless_gone}
use Rattle.boc_runs.specs.machine.Stages.{OpenBehaviour}
use Rattle.boc_program.proofs.ChangedItems.{place_below, set_same, set_other}
use Rattle.boc_machine_laws.proofs.Lists.{same_or_not}
use Rattle.boc_dispatch.specs.declared.worker.Hand.{Hand}
use Rattle.boc_dispatch.specs.declared.worker.Worker.{Worker}
use Rattle.boc_dispatch.specs.Underway.{Underway}
use Rattle.boc_dispatch.specs.Calls.{in_state}
use Rattle.boc_dispatch.specs.Working.{row_in}
use Rattle.boc_dispatch.specs.Driving.{HandFits, IsCrew}
use Rattle.boc_dispatch.proofs.Elsewhere.{same_turn}
use Rattle.boc_dispatch.proofs.Hands.{hand_on, served_lives, starting_waits}

-- who isn't gone is served on under the same row
served_on : (row other : ℕ) (o : Option OpenBehaviour) → unless_gone row o ≡ Some other → Some row ≡ Some other
served_on row other None e = absurd (let f : None ≡ Some other = e in cc)
served_on row other (Some b) e = e

-- a row that a worker serves after its turn it served before, or the row has just started
served_before : (p : Program) (s : State) (row : ℕ) (before : Option ℕ) (t : State) (after : Option ℕ) → TakesTurn p s before t after → after ≡ Some row
    → (before ≡ Some row) ⊎ ((who : ℕ) × Starts s who row t)
served_before p s row None t (Some new) (Begins who r u m) e =
    let same : new ≡ row = (let f : Some new ≡ Some row = e in cc) in
    inr (who, subst (λ z. Starts s who z t) same m)
served_before p s row None t None (NoneReady n) e = inl e
served_before p s row (Some old) t (Some new) (Advanced r who step u q m) e = inl e
served_before p s row (Some old) t (Some new) (WaitsToSettle r who q m) e = inl e
served_before p s row (Some old) t (Some new) (Opened r u m) e = inl e
served_before p s row (Some old) t after (Finished r who u m) e = inl (served_on old row _ e)
served_before p s row (Some old) t after (Left r who step u m) e = inl (served_on old row _ e)
served_before p s row (Some old) t (Some new) (WaitsToLeave r who m) e = inl e

-- a row that starts is served by no worker
not_served : (u : Underway) (h : Hand) (who row : ℕ) (t : State) → IsSound u.program u.state → HandFits u h → row_in h ≡ Some row → Starts u.state who row t → ⊥
not_served u h who row t sound fits served m =
    let waits = starting_waits u.program u.state who row t sound m in
    let lives = served_lives u h row sound fits served in
    let same : waits.0 ≡ lives.0 = (let f : Some waits.0 ≡ Some lives.0 = sym waits.1 ∙ lives.1 in cc) in
    lives.2 (ap (λ (m : Member). m.life) (sym same) ∙ waits.2)

module _ (u : Underway) (t : State) (workers : List Worker) (k : ℕ) (old new : Worker) (sound : IsSound u.program u.state) (crew : IsCrew u workers)
    (is : slice_get workers k ≡ Some old) (turn : TakesTurn u.program u.state (row_in old.hand) t (row_in new.hand)) where
  -- another worker's row isn't served before or after
  others_row : (j : ℕ) (w : Worker) (row : ℕ) → j ≢ k → slice_get workers j ≡ Some w → row_in w.hand ≡ Some row → row_in old.hand ≢ Some row
  others_row j w row n there served e = n (crew.apart j k row w old there is served e)

  others_after : (j : ℕ) (w : Worker) (row : ℕ) → j ≢ k → slice_get workers j ≡ Some w → row_in w.hand ≡ Some row → row_in new.hand ≢ Some row
  others_after j w row n there served e =
      elim (served_before u.program u.state row (row_in old.hand) t (row_in new.hand) turn e) [
        | inl b ↦ others_row j w row n there served b
        | inr m ↦ not_served u w.hand m.0 row t sound (crew.fits j w there) served m.1
      ]

  abbrev after : List Worker
  after = slice_set workers k new

  here : slice_get after k ≡ Some new
  here = set_same workers k new (place_below workers k old is)

  there_before : (j : ℕ) (w : Worker) → j ≢ k → slice_get after j ≡ Some w → slice_get workers j ≡ Some w
  there_before j w n there = sym (set_other workers k j new n) ∙ there

  -- the worker that had the turn, or another one
  new_or_other : (j : ℕ) (w : Worker) → slice_get after j ≡ Some w → ((j ≡ k) × (new ≡ w)) ⊎ ((j ≢ k) × (slice_get workers j ≡ Some w))
  new_or_other j w there = elim (same_or_not j k) [
    | inl e ↦ inl (e, let f : Some new ≡ Some w = sym here ∙ ap (slice_get after) (sym e) ∙ there in cc)
    | inr n ↦ inr (n, there_before j w n there)
  ]

  pub crew_on : HandFits (in_state u t) new.hand → IsCrew (in_state u t) after
  crew_on fits = record {
    fits = λ j w there. elim (new_or_other j w there) [
      | inl e ↦ subst (λ (x : Worker). HandFits (in_state u t) x.hand) e.1 fits
      | inr o ↦ hand_on u t w.hand
          (λ row served. same_turn u.program u.state row (row_in old.hand) t (row_in new.hand) (others_row j w row o.0 o.1 served)
          (others_after j w row o.0 o.1 served) turn)
          (crew.fits j w o.1)
    ];
    apart = λ i j row v w a b served_v served_w. elim (new_or_other i v a) [
      | inl e ↦ elim (new_or_other j w b) [
        | inl f ↦ e.0 ∙ sym f.0
        | inr o ↦ absurd (others_after j w row o.0 o.1 served_w (ap (λ (x : Worker). row_in x.hand) e.1 ∙ served_v))
      ]
      | inr o ↦ elim (new_or_other j w b) [
        | inl f ↦ absurd (others_after i v row o.0 o.1 served_v (ap (λ (x : Worker). row_in x.hand) f.1 ∙ served_w))
        | inr q ↦ crew.apart i j row v w o.1 q.1 served_v served_w
      ]
    ];
  }
