-- Where a turn leads to.
use Rattle.std.proofs.Common.{◌≡◌, ◌+◌, ◌<◌, ◌^◌, sym, subst}
use Rattle.std.proofs.Math.Logic.{∥∥₁_elim}
use Rattle.std.proofs.Props.{props}
use Rattle.boc_program.specs.declared.program.Program.{Program}
use Rattle.boc_runs.specs.machine.Schedules.{Reaches, Here, Then}
use Rattle.boc_runs.specs.machine.Steps.{opening_state}
use Rattle.boc_machine_laws.proofs.Every.{opening_sound, reaches_keeps}
use Rattle.boc_dispatch.specs.declared.worker.Hand.{Hand}
use Rattle.boc_dispatch.specs.declared.worker.Turn.{Turn}
use Rattle.boc_dispatch.specs.declared.worker.Turn.TheVariants as turns
use Rattle.boc_dispatch.specs.Underway.{Underway}
use Rattle.boc_dispatch.specs.Working.{Works}
use Rattle.boc_dispatch.proofs.Fits.{steps_fit}
use Rattle.boc_workers.specs.Noting.{CanReachLimit, IsAtLimit, IsReached}

-- no step leads to the opening state
pub reached_first : (u : Underway) (p : Program) → u ≡ record { program = p; state = opening_state p } → IsReached u
reached_first u p is = subst IsReached (sym is) ∣ Here ∣₁

-- a turn leads on from where the dispatcher was
pub reached_on : (u v : Underway) (h k : Hand) (t : Turn) → Works u h t v k → IsReached u → IsReached v
reached_on u v h k (turns.Moved step) w is =
    subst (λ (p : Program). ∥ Reaches p (opening_state p) v.state ∥₁) (sym w.same)
    (∥∥₁_elim is squash₁ (λ steps. ∣ Then step u.state v.state steps w.makes ∣₁))
reached_on u v h k _ w is = subst IsReached (sym w.0) is

-- a program can reach the limit that a dispatcher of it has come to
pub can_reach : (u : Underway) (p : Program) → u.program ≡ p → IsReached u → IsAtLimit u → CanReachLimit p
can_reach u p same reached full = subst CanReachLimit same (record { state = u.state; reached = reached; full = full })

-- so many steps were made that one more fits
pub one_more_fits : (u : Underway) → IsReached u → u.state.steps + 1 < 2 ^ 64
one_more_fits u is =
    let first = opening_state u.program in
    ∥∥₁_elim is (hlevel props) (λ steps. steps_fit u.program u.state (reaches_keeps u.program first u.state (opening_sound u.program) steps))
