-- What a turn is to a worker whose hand fits, and that has thought.
use Rattle.std.proofs.Common.{◌≡◌, ℕ, ◌⊎◌, inl, inr, List, [], ◌∷◌, ◌++◌, refl, sym, ◌∙◌, ap, subst}
use Rattle.std.specs.Prelude.{Some, None, Ok, Err}
use Rattle.boc_program.specs.declared.program.Program.{Program}
use Rattle.boc_runs.specs.declared.step.Step.{Step}
use Rattle.boc_runs.specs.machine.Turns.{TakesTurn, NoneReady, Driven, Turn, Turns}
use Rattle.boc_eval.specs.Frames.{UnderWay as Framed, Ran}
use Rattle.boc_dispatch.specs.declared.calls.FinishFault.{FinishFault}
use Rattle.boc_dispatch.specs.declared.calls.FinishFault.TheVariants as finish_faults
use Rattle.boc_dispatch.specs.declared.calls.OpenFault.{OpenFault}
use Rattle.boc_dispatch.specs.declared.calls.OpenFault.TheVariants as open_faults
use Rattle.boc_dispatch.specs.declared.interleaving.DriveFault.{DriveFault}
use Rattle.boc_dispatch.specs.declared.interleaving.DriveFault.TheVariants as drive_faults
use Rattle.boc_dispatch.specs.declared.worker.Hand.{Hand}
use Rattle.boc_dispatch.specs.declared.worker.Due.TheVariants as dues
use Rattle.boc_dispatch.specs.declared.worker.Hand.TheVariants as hands
use Rattle.boc_dispatch.specs.declared.worker.Refusal.{Refusal}
use Rattle.boc_dispatch.specs.declared.worker.Refusal.TheVariants as refusals
use Rattle.boc_dispatch.specs.declared.worker.Turn.{Turn as Answer}
use Rattle.boc_dispatch.specs.declared.worker.Turn.TheVariants as turns
use Rattle.boc_dispatch.specs.Underway.{Underway}
use Rattle.boc_dispatch.specs.Calls.{HasNoRoom, OpensWish, FinishesRow}
use Rattle.boc_dispatch.specs.Working.{row_in, IsRefused, Works, HasThought}
use Rattle.boc_dispatch.specs.Driving.{IsWishing, IsOutcomeOf, EndsFor, HandFits}
use Rattle.boc_dispatch.proofs.Worked.{thinks_row, has_thought}
use Rattle.boc_dispatch.proofs.Hands.{thought_fits}

-- a worker has had its turn
pub record HasTurn (u : Underway) (was : Hand) (v : Underway) (k : Hand) : Type 0 where
  pub takes : TakesTurn u.program u.state (row_in was) v.state (row_in k)
  pub same : v.program ≡ u.program

-- a call is refused for want of room or memory
pub record IsStopped (u : Underway) (was : Hand) (refusal : Refusal) : Type 0 where
  pub fault : DriveFault
  pub ends : EndsFor refusal fault
  pub full : fault ≡ drive_faults.Behaviours → HasNoRoom u (row_in was)

-- what a turn's answer says then
abbrev pub Says : Underway → Hand → Answer → Underway → Hand → Type 0
Says u was (turns.Moved step) v k = HasTurn u was v k
Says u was turns.Blocked v k = HasTurn u was v k
Says u was turns.NoneReady v k = HasTurn u was v k
Says u was turns.Quiet v k = HasTurn u was v k
Says u was turns.Thinks v k = ⊥
Says u was (turns.Refused refusal) v k = IsStopped u was refusal

moved : (u v : Underway) (h was k : Hand) (step : Step) → row_in h ≡ row_in was → Works u h (turns.Moved step) v k → HasTurn u was v k
moved u v h was k step same w = record { takes = subst (λ r. TakesTurn u.program u.state r v.state (row_in k)) same w.takes; same = w.same }

blocked : (u v : Underway) (h was k : Hand) → row_in h ≡ row_in was → Works u h turns.Blocked v k → HasTurn u was v k
blocked u v h was k same w = record {
  takes = subst (λ (x : Underway). TakesTurn u.program u.state (row_in was) x.state (row_in k)) (sym w.0)
      (subst (λ r. TakesTurn u.program u.state (row_in was) u.state r) (sym w.2.serves ∙ ap row_in (sym w.1))
      (subst (λ r. TakesTurn u.program u.state r u.state (Some w.2.row)) (sym w.2.serves ∙ same) w.2.takes));
  same = ap (λ (x : Underway). x.program) w.0;
}

-- nothing is ready for a worker that serves no row
none_ready : (u v : Underway) (h was k : Hand) → row_in h ≡ row_in was → v ≡ u → k ≡ h → h ≡ hands.Nothing → u.state.ready ≡ [] → HasTurn u was v k
none_ready u v h was k same is hand nothing none =
    let before : None ≡ row_in was = ap row_in (sym nothing) ∙ same in
    let after : None ≡ row_in k = ap row_in (sym nothing) ∙ ap row_in (sym hand) in
    record {
      takes = subst (λ (x : Underway). TakesTurn u.program u.state (row_in was) x.state (row_in k)) (sym is)
          (subst (λ r. TakesTurn u.program u.state (row_in was) u.state r) after
          (subst (λ r. TakesTurn u.program u.state r u.state None) before (NoneReady none)));
      same = ap (λ (x : Underway). x.program) is;
    }

open_stops : (u v : Underway) (row : ℕ) (f : Framed) (was : Hand) (fault : OpenFault) → Some row ≡ row_in was → IsWishing u row f
    → OpensWish u f row (Err fault) v
    → IsStopped u was (refusals.Open fault)
open_stops u v row f was open_faults.Stranger same h o = absurd (o.1 h.may.handed)
open_stops u v row f was open_faults.OutOfTurn same h o = absurd (o.2 h.may.next)
open_stops u v row f was open_faults.Behaviours same h o = record {
  fault = drive_faults.Behaviours;
  ends = refl;
  full = λ e. subst (HasNoRoom u) same o.2;
}
open_stops u v row f was open_faults.Memory same h o = record {
  fault = drive_faults.Memory;
  ends = refl;
  full = λ e. absurd (let f : drive_faults.Memory ≡ drive_faults.Behaviours = e in cc);
}

never_finishes : (u v : Underway) (row : ℕ) (o same : Ran) (fault : FinishFault) → IsOutcomeOf u row o → FinishesRow u row o (Err (same, fault)) v → ⊥
never_finishes u v row o same finish_faults.Stranger h f = f.2 h.handed
never_finishes u v row o same finish_faults.Busy h f = f.3 h.spawned

refused : (u : Underway) (h was : Hand) (refusal : Refusal) → row_in h ≡ row_in was → HandFits u h → IsRefused u h refusal → IsStopped u was refusal
refused u (hands.Framed row f dues.Wishing) was (refusals.Open fault) same fits r = open_stops u u row f was fault same fits r
refused u (hands.Framed row f dues.Wishing) was (refusals.Finish fault) same fits r = absurd r
refused u (hands.Framed row f dues.Wishing) was refusals.Unknown same fits r = absurd r
refused u (hands.Done row o) was (refusals.Open fault) same fits r = absurd r
refused u (hands.Done row o) was (refusals.Finish fault) same fits r = absurd (never_finishes u u row o o fault fits r)
refused u (hands.Done row o) was refusals.Unknown same fits r = absurd r
refused u (hands.Framed row f (dues.Enqueuing child)) was (refusals.Open fault) same fits r = absurd r
refused u (hands.Framed row f (dues.Enqueuing child)) was (refusals.Finish fault) same fits r = absurd r
refused u (hands.Framed row f (dues.Enqueuing child)) was refusals.Unknown same fits r = absurd (r.1 fits.enqueue)
refused u (hands.Leaving l) was (refusals.Open fault) same fits r = absurd r
refused u (hands.Leaving l) was (refusals.Finish fault) same fits r = absurd r
refused u (hands.Leaving l) was refusals.Unknown same fits r = absurd (r.1 fits)
refused u hands.Nothing was refusal same fits r = absurd r
refused u (hands.Started job) was refusal same fits r = absurd r
refused u (hands.Framed row f dues.Going) was refusal same fits r = absurd r

says : (u v : Underway) (h was k : Hand) (x : Unit {0}) (answer : Answer) → HandFits u was → HasThought was (Ok x) h → Works u h answer v k
    → Says u was answer v k
says u v h was k x (turns.Moved step) fits t w = moved u v h was k step (thinks_row was h (Ok x) t) w
says u v h was k x turns.Blocked fits t w = blocked u v h was k (thinks_row was h (Ok x) t) w
says u v h was k x turns.NoneReady fits t w = none_ready u v h was k (thinks_row was h (Ok x) t) w.0 w.1 w.2 w.3
says u v h was k x turns.Quiet fits t w = none_ready u v h was k (thinks_row was h (Ok x) t) w.0 w.1 w.2 w.3
says u v h was k x turns.Thinks fits t w = has_thought was h x t w.2
says u v h was k x (turns.Refused refusal) fits t w = refused u h was refusal (thinks_row was h (Ok x) t) (thought_fits u was h (Ok x) fits t) w.2

-- ---- the same of an answer in a case of a function

pub went_on : (u v : Underway) (h was k : Hand) (x : Unit {0}) (answer : Answer) → HandFits u was → HasThought was (Ok x) h → Works u h answer v k
    → ((step : Step) × (answer ≡ turns.Moved step)) ⊎ ((answer ≡ turns.Blocked) ⊎ ((answer ≡ turns.NoneReady) ⊎ (answer ≡ turns.Quiet))) → HasTurn u was v k
went_on u v h was k x answer fits t w is =
    let s = says u v h was k x answer fits t w in
    elim is [
      | inl m ↦ subst (λ (a : Answer). Says u was a v k) m.1 s
      | inr n ↦ elim n [
        | inl e ↦ subst (λ (a : Answer). Says u was a v k) e s
        | inr o ↦ elim o [
          | inl e ↦ subst (λ (a : Answer). Says u was a v k) e s
          | inr e ↦ subst (λ (a : Answer). Says u was a v k) e s
        ]
      ]
    ]

pub stopped : (u v : Underway) (h was k : Hand) (x : Unit {0}) (refusal : Refusal) → HandFits u was → HasThought was (Ok x) h
    → Works u h (turns.Refused refusal) v k → IsStopped u was refusal
stopped u v h was k x refusal fits t w = says u v h was k x (turns.Refused refusal) fits t w

-- the one reason that a refusal has
pub one_reason : (refusal : Refusal) (a b : DriveFault) → EndsFor refusal a → EndsFor refusal b → a ≡ b
one_reason (refusals.Open open_faults.Behaviours) a b e f = e ∙ sym f
one_reason (refusals.Open open_faults.Memory) a b e f = e ∙ sym f
one_reason _ a b e f = absurd e

pub never_no_worker : (refusal : Refusal) (place : ℕ) → EndsFor refusal (drive_faults.NoSuchWorker place) → ⊥
never_no_worker (refusals.Open open_faults.Behaviours) place e = (let f : drive_faults.NoSuchWorker place ≡ drive_faults.Behaviours = e in cc)
never_no_worker (refusals.Open open_faults.Memory) place e = (let f : drive_faults.NoSuchWorker place ≡ drive_faults.Memory = e in cc)
never_no_worker _ place e = e

-- ---- turns, one more at the end

pub turns_more : (p : Program) (d : Driven) (xs : List ℕ) (x : ℕ) (e f : Driven) → Turns p d xs e → Turn p e x f → Turns p d (xs ++ x ∷ []) f
turns_more p d [] x e f is turn = (f, subst (λ (m : Driven). Turn p m x f) is turn, refl)
turns_more p d (y ∷ xs) x e f t turn = (t.0, t.1, turns_more p t.0 xs x e f t.2 turn)
