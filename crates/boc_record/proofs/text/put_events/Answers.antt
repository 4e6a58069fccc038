use Rattle.std.proofs.Common.{◌∙◌, ◌≡◌, ℕ, ◌<◌, List, ◌++◌, length, take, Result, Ok, Err, arith}
use Rattle.std.specs.Prelude.{OnErr}
use Rattle.boc_runs.specs.declared.event.Event.{Event}
use Rattle.boc_record.specs.RecordTexts.{Second, event_lines}
use Rattle.boc_record.specs.Writing.{PutsFirst}
use Rattle.boc_record.proofs.Put.{put_line_more}
use Rattle.boc_record.proofs.text.put_events.Goals as goal

pub loop-place-preserved : goal.loop-place-preserved
loop-place-preserved c =
    put_line_more Second c.args.text.now.items c.loop-place.text.items c.put_event.new.text.items c.args.events.now c.loop-place.place c.get.result
    c.get.ensures c.loop-place.invariant c.in_ok-put_event.ensures.ok

-- the lines of the events before this one stand there
refused : {A E : Type 0} (result : Result A E) (events : List Event) (before text after : List ℕ) (place : ℕ) → place < length events
    → text ≡ before ++ event_lines Second (take place events) → after ≡ text → OnErr result (PutsFirst Second events before after)
refused (Ok done) events before text after place more is same = tt
refused (Err error) events before text after place more is same = record { count = place; fewer = more; put = same ∙ is }

pub returns-in_err-put_event-clause-err : goal.returns-in_err-put_event-clause-err
returns-in_err-put_event-clause-err c =
    refused c.from_residual.result c.args.events.now c.args.text.now.items c.loop-place.text.items c.put_event.new.text.items c.loop-place.place (omega arith)
    c.loop-place.invariant
    c.in_err-put_event.ensures.err
