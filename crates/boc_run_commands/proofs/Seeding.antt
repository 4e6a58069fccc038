-- What a run fails by.
use Rattle.std.proofs.Common.{◌≡◌, ℕ, List, [], ◌∷◌, refl, sym, subst}
use Rattle.boc_program.specs.declared.program.Program.{Program}
use Rattle.boc_runs.specs.machine.Schedules.{Reaches, Here, Then}
use Rattle.boc_runs.specs.machine.Steps.{State}
use Rattle.boc_runs.specs.machine.Turns.{Driven, Turns, opening_driven}
use Rattle.boc_machine_laws.proofs.OneTurn.{turn_reaches}
use Rattle.boc_dispatch.specs.Calls.{HasNoRoom}
use Rattle.boc_dispatch.specs.Driving.{of_program}
use Rattle.boc_draws.specs.Draws.{IsDraw, RunsOut}
use Rattle.boc_draws.specs.declared.drawing.Drawn.{Drawn}
use Rattle.boc_draws.specs.declared.way.Way.{Way}
use Rattle.boc_draws.specs.declared.way.Way.TheVariants.{Uniform}
use Rattle.boc_run_commands.specs.Promises.{IsRunOf}
use Rattle.boc_run_commands.specs.Schedules.{IsDrawFault, IsDrawnBy, IsScheduled, counting, drawing}
use Rattle.boc_runs.specs.Records.{Recorded}
use Rattle.boc_words.specs.declared.schedule.Schedule.{Schedule}
use Rattle.boc_words.specs.declared.schedule.Schedule.TheVariants.{Drawn as Draws}
use Rattle.boc_draws.specs.Ways.{AnswersWay, IsWay}
use Rattle.boc_draws.specs.declared.fault.DrawFault.TheVariants as faults
use Rattle.boc_draws.proofs.OneDraw.{are_turns, drawn_or_full}
use Rattle.boc_draws.proofs.OneWay.{one_way, way_or_full}
use Rattle.boc_workers.specs.Noting.{CanReachLimit}
use Rattle.std.specs.Prelude.{IfErr, Ok, Err, Option, Some, None, Result}
use Rattle.std.specs.Result.{IsErrAnd}

-- steps behind other steps
reaches_on : (p : Program) (s t u : State) → Reaches p s t → Reaches p t u → Reaches p s u
reaches_on p s t u first Here = first
reaches_on p s t u first (Then step v w more made) = Then step v u (reaches_on p s t v first more) made

-- turns are steps
pub turns_reach : (p : Program) (d e : Driven) (workers : List ℕ) → Turns p d workers e → Reaches p d.state e.state
turns_reach p d e [] same = subst (λ (z : Driven). Reaches p d.state z.state) (sym same) Here
turns_reach p d e (worker ∷ workers) (next, one, more) =
    reaches_on p d.state next.state e.state (turn_reaches p d.state one.before next.state one.after one.takes) (turns_reach p next e workers more)

-- the row that has no room is a row
some_row : (p : Program) (s : State) (row : Option ℕ) → HasNoRoom (of_program p s) row → (r : ℕ) × HasNoRoom (of_program p s) (Some r)
some_row p s row full = (full.served, subst (HasNoRoom (of_program p s)) full.serves full)

-- a draw that runs out of room comes to as many behaviours as there may be, with one more due
pub runs_out : (p : Program) (workers : ℕ) (way : Way) (seed : ℕ) → RunsOut p workers way seed → CanReachLimit p
runs_out p workers way seed out = record {
  state = out.before.state;
  reached = ∣ turns_reach p (opening_driven p workers) out.before out.choices (are_turns p _ _ out.choices out.before out.later out.turns) ∣₁;
  full = ∣ some_row p out.before.state out.row out.full ∣₁;
}

-- what is drawn is the record of a run of the program
pub drawn_run : (p : Program) (workers : ℕ) (way : Way) (seed : ℕ) (drawn : Drawn) → IsDraw p workers way seed (Ok drawn) → IsRunOf p drawn.record
drawn_run p workers way seed drawn is = record { run = is.run; whole = is.whole; ends = is.ends }

-- and the one that the seed draws
pub drawn_by : (p : Program) (workers seed : ℕ) (depth : Option ℕ) (way : Way) (drawn : Drawn) → IsWay p workers depth way
    → IsDraw p workers way seed (Ok drawn) → IsDrawnBy p workers seed depth drawn.record
drawn_by p workers seed depth way drawn is_way is = record {
  way = way;
  is_way = is_way;
  drawn = drawn;
  is = is;
  same = refl;
}

-- a draw that counts the steps of a way comes there too, where it runs out of room
way_out : (p : Program) (workers : ℕ) (depth : Option ℕ) → AnswersWay p workers depth (Err faults.Behaviours) → CanReachLimit p
way_out p workers None out = absurd out
way_out p workers (Some depth) out = runs_out p workers Uniform 0 out

-- what is drawn ends for want of room only of a program that can come to the limit
pub full_draw : (p : Program) (workers seed : ℕ) (depth : Option ℕ) → IsDrawFault p workers seed depth faults.Behaviours → CanReachLimit p
full_draw p workers seed depth (counting out) = way_out p workers depth out
full_draw p workers seed depth (drawing way is_way out) = runs_out p workers way seed out

-- and not where there is a run that is drawn
pub run_or_full : (p : Program) (workers seed : ℕ) (depth : Option ℕ) (r : Recorded) → IsDrawnBy p workers seed depth r
    → IsDrawFault p workers seed depth faults.Behaviours → ⊥
run_or_full p workers seed depth r by (counting out) = way_or_full p workers depth by.way by.is_way out
run_or_full p workers seed depth r by (drawing way is_way out) =
    let same : by.way ≡ way = one_way p workers depth by.way way by.is_way is_way in
    drawn_or_full p workers way seed by.drawn (subst (λ (w : Way). IsDraw p workers w seed (Ok by.drawn)) same by.is) out

-- each can end for want of memory
pub no_memory : (p : Program) (workers seed : ℕ) (depth : Option ℕ) → IsDrawFault p workers seed depth faults.Memory
no_memory p workers seed None = drawing Uniform refl tt
no_memory p workers seed (Some depth) = counting tt

-- what holds of a fault holds of it where it is passed on
pub passed_fault : {A F : Type 0} (Is : F → Type 0) (result : Result A F) (fault : F) → IsErrAnd result (λ f. f ≡ fault) → Is fault → IfErr result Is
passed_fault Is (Ok done) fault h is = absurd h
passed_fault Is (Err f) fault h is = subst Is (sym h) is

-- the run that a schedule of a seed draws
pub scheduled_as : (p : Program) (schedule : Schedule) (workers seed : ℕ) (depth : Option ℕ) (recorded : Recorded) → schedule ≡ Draws workers seed depth
    → IsDrawnBy p workers seed depth recorded → IsScheduled p schedule recorded
scheduled_as p schedule workers seed depth recorded is by = subst (λ (s : Schedule). IsScheduled p s recorded) (sym is) by
