-- What is reported of rows after a turn.
use Rattle.std.proofs.Common.{◌≡◌, ◌∙◌, ℕ, List, [], ◌∷◌, ◌++◌, Option, Some, None, refl, sym, subst}
use Rattle.std.proofs.Math.Logic.{∥∥₁_elim}
use Rattle.boc_program.specs.declared.body.EndStatus.{EndStatus}
use Rattle.boc_program.specs.declared.body.EndStatus.TheVariants as statuses
use Rattle.boc_runs.specs.Run.{Member}
use Rattle.boc_runs.specs.machine.Steps.{members}
use Rattle.boc_eval.specs.Frames.{Ran}
use Rattle.boc_dispatch.specs.declared.calls.Tell.{Tell}
use Rattle.boc_dispatch.specs.declared.calls.Tell.TheVariants as tells
use Rattle.boc_eval.specs.declared.instance.ToldRow.{ToldRow}
use Rattle.boc_dispatch.specs.declared.worker.Hand.{Hand}
use Rattle.boc_dispatch.specs.declared.worker.Hand.TheVariants as hands
use Rattle.boc_dispatch.specs.declared.worker.Turn.{Turn}
use Rattle.boc_dispatch.specs.declared.worker.Turn.TheVariants as turns
use Rattle.boc_eval.specs.Instances.{AreRight, AreTrueOf, IsTrueOf}
use Rattle.boc_dispatch.specs.Told.{HasTold, TellsEnd, TellsEnding, with_told}
use Rattle.boc_dispatch.specs.Underway.{Underway}
use Rattle.boc_dispatch.specs.Working.{Works}
use Rattle.boc_dispatch.proofs.Growing.{log_grows}
use Rattle.boc_dispatch.proofs.Staying.{all_told_stay}

told_behind : (run : List Member) (told : List ToldRow) (t : ToldRow) → AreTrueOf run told → IsTrueOf run t → AreTrueOf run (told ++ t ∷ [])
told_behind run [] t are is = (is, tt)
told_behind run (first ∷ told) t are is = (are.0, told_behind run told t are.1 is)

-- ---- what is reported of a row whose end a worker has in hand

-- one that is reported is true, since one that hasn't to be reported isn't
told_end : (tell : Tell) (u : Underway) (row : ℕ) (o : Ran) (t : ToldRow) (status : EndStatus) → o.status ≡ status → TellsEnd tell u row o (Some t)
    → IsTrueOf (members u.program u.state) t
told_end tells.Nothing u row o t status is told = absurd (let none : Some t ≡ None = told.other (λ due. due) in cc)
told_end tells.All u row o t status is told = (told.due tt).1
told_end tells.Faulted u row o t statuses.Done is told = absurd (let none : Some t ≡ None = told.other (λ due. due is) in cc)
told_end tells.Faulted u row o t status is told = (told.due (λ done. absurd (let no : status ≡ statuses.Done = sym is ∙ done in cc))).1

told_ending : (tell : Tell) (u : Underway) (h : Hand) (t : ToldRow) → TellsEnding tell u h (Some t) → IsTrueOf (members u.program u.state) t
told_ending tell u (hands.Done row o) t told = told_end tell u row o t o.status refl told
told_ending tell u _ t told = absurd (let none : Some t ≡ None = told in cc)

told_with : (tell : Tell) (u : Underway) (h : Hand) (told : List ToldRow) (ending : Option ToldRow) → AreTrueOf (members u.program u.state) told
    → TellsEnding tell u h ending → AreTrueOf (members u.program u.state) (with_told told ending)
told_with tell u h told None are is = are
told_with tell u h told (Some t) are is = told_behind (members u.program u.state) told t are (told_ending tell u h t is)

told_first : (tell : Tell) (u : Underway) (h : Hand) (told after : List ToldRow) → AreTrueOf (members u.program u.state) told → HasTold tell u h told after
    → AreTrueOf (members u.program u.state) after
told_first tell u h told after are told_is =
    subst (AreTrueOf (members u.program u.state)) (sym told_is.2) (told_with tell u h told told_is.0 are told_is.1)

-- ---- a turn

-- what is reported before a turn is right after it
pub right_on : (tell : Tell) (u v : Underway) (h k : Hand) (t : Turn) (told after : List ToldRow) → Works u h t v k
    → AreRight (members u.program u.state) told → HasTold tell u h told after → AreRight (members v.program v.state) after
right_on tell u v h k (turns.Moved step) told after works right told_is =
    let grows = log_grows u.program u.state v.state step works.makes in
    ∥∥₁_elim right squash₁ (λ are. ∣ all_told_stay u v works.same grows after (told_first tell u h told after are told_is) ∣₁)
right_on tell u v h k _ told after works right told_is =
    subst (λ (x : Underway). AreRight (members x.program x.state) after) (sym works.0)
    (∥∥₁_elim right squash₁ (λ are. ∣ told_first tell u h told after are told_is ∣₁))
