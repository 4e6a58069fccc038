-- The seed of an outcome brings its run back.
use Rattle.std.proofs.Common.{◌≡◌, ◌∙◌, ℕ, List, Ok, Some, refl, sym, ap, subst}
use Rattle.std.specs.Prelude.{slice_get}
use Rattle.boc_program.specs.declared.program.Program.{Program}
use Rattle.boc_reader.proofs.Spellings.{one_program}
use Rattle.boc_runs.specs.declared.event.Event.{Event}
use Rattle.boc_runs.specs.Records.{Recorded}
use Rattle.boc_runs.specs.Run.{config_of}
use Rattle.boc_runs.specs.machine.Turns.{Driven}
use Rattle.boc_draws.specs.declared.drawing.Drawn.{Drawn}
use Rattle.boc_draws.specs.declared.way.Way.{Way}
use Rattle.boc_draws.specs.Draws.{IsDraw}
use Rattle.boc_draws.proofs.OneDraw.{one_drawn}
use Rattle.boc_draws.proofs.OneWay.{one_way}
use Rattle.boc_outcomes.specs.declared.tally.Outcome.{Outcome}
use Rattle.boc_outcomes.specs.Samples.{IsSample, Sample}
use Rattle.boc_outcomes.proofs.OneSample.{brought_back}
use Rattle.boc_words.specs.declared.asked.AskedDraws.{AskedDraws}
use Rattle.boc_words.specs.declared.schedule.Schedule.TheVariants.{Drawn as Draws}
use Rattle.boc_run_commands.specs.OutcomesAnswers.{IsOutcomesAnswer, drawn_in}
use Rattle.boc_run_commands.specs.Schedules.{IsDrawnBy, IsScheduledText}
use Rattle.boc_run_commands.proofs.OneProgram.{same_program}

-- a run that is drawn once more ends with the values that it had
same_values : (p : Program) (workers : ℕ) (way : Way) (seed : ℕ) (sample : Sample) (drawn : Drawn) (recorded : Recorded) → IsSample p workers way seed sample
    → IsDraw p workers way seed (Ok drawn) → recorded ≡ drawn.record → (config_of p recorded.events).values ≡ sample.values
same_values p workers way seed sample drawn recorded is other same =
    ap (λ (r : Recorded). (config_of p r.events).values) same
    ∙ ap (λ (log : List Event). (config_of p log).values)
    (other.events ∙ ap (λ (d : Driven). d.state.log) (one_drawn p workers way seed drawn is.drawn other is.is_draw))
    ∙ sym is.is_draw.values_are ∙ sym is.values_are

module _ (draws : AskedDraws) (input output : List ℕ) (answer : IsOutcomesAnswer draws input output) (i : ℕ) (o : Outcome)
    (told : slice_get answer.outcomes.all.items i ≡ Some o) where
  -- the run that the seed brings back
  pub run_again : (recorded : Recorded) × IsDrawnBy answer.program draws.workers o.seed draws.depth recorded
  run_again =
      let back = brought_back answer.program (drawn_in draws answer.way) answer.outcomes i o answer.ends told in (
        back.1.drawn.record,
        record { way = answer.way; is_way = answer.is_way; drawn = back.1.drawn; is = back.1.is_draw; same = refl },
      )

  again_by : (recorded : Recorded) → IsDrawnBy answer.program draws.workers o.seed draws.depth recorded
      → (config_of answer.program recorded.events).values ≡ o.values.items
  again_by recorded by =
      let back = brought_back answer.program (drawn_in draws answer.way) answer.outcomes i o answer.ends told in
      let way : by.way ≡ answer.way = one_way answer.program draws.workers draws.depth by.way answer.way by.is_way answer.is_way in
      same_values answer.program draws.workers answer.way o.seed back.0 by.drawn recorded back.1
      (subst (λ (w : Way). IsDraw answer.program draws.workers w o.seed (Ok by.drawn)) way by.is) by.same ∙ back.2

  -- each run of the program by that seed is it
  pub each_again : (recorded : Recorded) → IsScheduledText input (Draws draws.workers o.seed draws.depth) recorded
      → (config_of answer.program recorded.events).values ≡ o.values.items
  each_again recorded scheduled =
      let program : scheduled.program ≡ answer.program = same_program scheduled.program answer.program
      (one_program input scheduled.program answer.program scheduled.spells answer.spells) in
      again_by recorded (subst (λ (p : Program). IsDrawnBy p draws.workers o.seed draws.depth recorded) program scheduled.scheduled)
