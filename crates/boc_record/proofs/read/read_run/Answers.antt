use Rattle.std.proofs.Common.{◌∙◌, ◌+◌, ℕ, List, Option, sym, subst, arith}
use Rattle.std.proofs.lemmas.Result.{err_from_is_err_and}
use Rattle.boc_text.specs.Lines.{to_come}
use Rattle.boc_record.specs.Versions.{spelling}
use Rattle.boc_record.specs.Reading.{IsFault, WantsMemoryAt}
use Rattle.boc_record.proofs.Known.{IsReading, faulty_header, header_wants, from_start, few_lines, item_refused, event_refused, event_taken, last_refused}
use Rattle.boc_record.proofs.Known.{taken_event, taken_last}
use Rattle.boc_record.proofs.read.read_run.Goals as goal

pub returns-in-Err-clause-run_or_fault : goal.returns-in-Err-clause-run_or_fault
returns-in-Err-clause-run_or_fault g c =
    let told = g.S.Source.remaining c.args.source.now in
    let after = g.S.Source.remaining c.read_header.new.source in
    subst (λ (o : Option (List ℕ)). IsFault c.in-Err.kind 1 o after) (from_start c.new-lines.result told c.new-lines.ensures.buffered)
    (faulty_header c.in-Err.kind (to_come c.new-lines.result told) after c.in-Err.ensures.header c.in-Err.ensures.within)

pub returns-in_default-clause-run_or_fault : goal.returns-in_default-clause-run_or_fault
returns-in_default-clause-run_or_fault g c =
    let told = g.S.Source.remaining c.args.source.now in
    let after = g.S.Source.remaining c.read_header.new.source in
    subst (λ (o : Option (List ℕ)). WantsMemoryAt 1 o after) (from_start c.new-lines.result told c.new-lines.ensures.buffered)
    (header_wants (spelling c.in-Ok.header.0) c.in-Ok.header.1 (to_come c.new-lines.result told) after c.read_header.new.lines.buffered c.in-Ok.ensures.header
    c.in-Ok.ensures.ahead)

pub returns-in-Err-hand_over-clause-run_or_fault : goal.returns-in-Err-hand_over-clause-run_or_fault
returns-in-Err-hand_over-clause-run_or_fault g c =
    let i = c.loop-event.invariant in
    let v = spelling c.in-Ok.header.0 in
    let event = c.in-Ok-Some.event in
    rw c.kind_of-kind.ensures
    (event_refused c.in-Err-hand_over.fault v _ _ (g.E.EventSink.has_taken c.hand_over.new.self) _ _ _ _ c.next_item.new.lines.buffered c.judge.result.now.rows
    event i.reading c.in-Ok-Some.ensures.ahead c.judge.ensures.rows
    (taken_event v c.judge.result.now.rows c.in-Ok-Some.field-0 event _ _ c.in-Ok-Some.field-0-is c.in-Ok-Some.ensures.item) c.in-Err-hand_over.ensures.taken)

pub finish-requires-clause-more : goal.finish-requires-clause-more
finish-requires-clause-more g c = omega (arith, few_lines _ _ _ _ _ _ c.loop-event.invariant.reading)

pub returns-in_err-finish-in-Ok-None-clause-run_or_fault : goal.returns-in_err-finish-in-Ok-None-clause-run_or_fault
returns-in_err-finish-in-Ok-None-clause-run_or_fault g c =
    let v = spelling c.in-Ok.header.0 in
    let rows = c.judge.result.now.rows in
    let last = taken_last v rows c.in-Ok-None.field-0 _ _ c.in-Ok-None.field-0-is c.in-Ok-None.ensures.item in
    let told = err_from_is_err_and c.from_residual.result c.from_residual.ensures.1 in
    rw (told.1, told.2) (last_refused _ v _ _ _ _ _ _ _ c.judge-in-Ok-None.result.now.rows c.loop-event.invariant.reading c.judge-in-Ok-None.ensures.rows last
    c.in_err-finish-in-Ok-None.ensures.end)

pub returns-in-Err-next_item-clause-run_or_fault : goal.returns-in-Err-next_item-clause-run_or_fault
returns-in-Err-next_item-clause-run_or_fault g c =
    item_refused c.in-Err-next_item.kind (spelling c.in-Ok.header.0) _ _ _ _ _ _ c.loop-event.invariant.reading c.in-Err-next_item.ensures.item
    c.in-Err-next_item.ensures.within

pub overflow_add-line : goal.overflow_add-line
overflow_add-line g c = omega (arith, few_lines _ _ _ _ _ _ c.loop-event.invariant.reading)

pub loop-event-preserved : goal.loop-event-preserved
loop-event-preserved g c =
    let i = c.loop-event.invariant in
    let v = spelling c.in-Ok.header.0 in
    let rows = c.judge.result.now.rows in
    let event = c.in-Ok-Some.event in
    let taken = g.E.EventSink.has_taken c.hand_over.new.self in
    let told = g.S.Source.remaining c.args.source.now in
    let next = to_come c.next_item.new.lines (g.S.Source.remaining c.next_item.new.source) in
    record {
      reading = subst (λ (n : ℕ). IsReading v n taken (c.loop-event.line + 1) told next) (sym c.hand_over.ensures.cowns)
          (event_taken v _ _ taken _ _ _ _ rows event i.reading c.judge.ensures.rows
          (taken_event v rows c.in-Ok-Some.field-0 event _ _ c.in-Ok-Some.field-0-is c.in-Ok-Some.ensures.item) c.in_default-hand_over.ensures.taken);
      not_over = c.in-Ok-Some.ensures.open;
      failures = c.in-Ok-Some.ensures.failures ∙ i.failures;
    }
