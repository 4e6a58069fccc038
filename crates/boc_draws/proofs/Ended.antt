-- What is drawn where all is over.
use Rattle.std.proofs.Common.{◌≡◌, ℕ, ◌∙◌, ap, subst}
use Rattle.std.specs.Prelude.{Ok}
use Rattle.boc_program.specs.declared.program.Program.{Program}
use Rattle.boc_runs.specs.Records.{IsRecord, IsRecordOf}
use Rattle.boc_runs.specs.machine.Steps.{IsQuiet, values}
use Rattle.boc_machine_laws.proofs.Serially.{ends_serially}
use Rattle.boc_dispatch.specs.Underway.{Underway}
use Rattle.boc_dispatch.specs.Calls.{EndsAsRecord}
use Rattle.boc_draws.specs.declared.drawing.Drawn.{Drawn}
use Rattle.boc_draws.specs.declared.way.Way.{Way}
use Rattle.boc_draws.specs.Draws.{Plays, IsDrawn}

pub is_drawn : (p : Program) (workers : ℕ) (way : Way) (seed : ℕ) (u : Underway) (drawn : Drawn) → Plays p workers way seed (Ok u)
    → EndsAsRecord u (Ok drawn.record) → IsRecord drawn.record → drawn.values.items ≡ values u.program u.state → drawn.steps ≡ u.state.steps
    → IsDrawn p workers way seed drawn
is_drawn p workers way seed u drawn plays ends whole values_are steps_are =
    let own : IsRecordOf p drawn.record = subst (λ (q : Program). IsRecordOf q drawn.record) (ap (λ (x : Underway). x.program) plays.4) ends.2 in
    record {
      choices = plays.0;
      end = plays.1;
      later = plays.2;
      turns = plays.3;
      quiet = subst (λ (x : Underway). IsQuiet x.state) plays.4 plays.5;
      events = ends.1 ∙ ap (λ (x : Underway). x.state.log) plays.4;
      run = own;
      whole = whole;
      ends = ends_serially p drawn.record.events own.run.run;
      values_are = values_are ∙ ap (λ (x : Underway). values x.program x.state) plays.4;
      steps_are = steps_are ∙ ap (λ (x : Underway). x.state.steps) plays.4;
    }
