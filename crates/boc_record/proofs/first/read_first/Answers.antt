use Rattle.std.proofs.Common.{◌≡◌, ◌∙◌, ◌+◌, ℕ, List, Option, sym, subst, arith}
use Rattle.boc_runs.specs.declared.event.Event.{Event}
use Rattle.boc_runs.specs.Legal.{entries}
use Rattle.boc_text.specs.Lines.{to_come}
use Rattle.boc_record.specs.Versions.{spelling}
use Rattle.boc_record.specs.Reading.{IsFault, WantsMemoryAt}
use Rattle.boc_record.proofs.Known.{IsReading, faulty_header, header_wants, from_start, few_lines, item_refused, event_refused, event_taken}
use Rattle.boc_record.proofs.Known.{taken_event}
use Rattle.boc_record.proofs.first.read_first.Goals as goal

pub returns-in-Err-clause-first_or_fault : goal.returns-in-Err-clause-first_or_fault
returns-in-Err-clause-first_or_fault g c =
    let told = g.S.Source.remaining c.args.source.now in
    let after = g.S.Source.remaining c.read_header.new.source in
    subst (λ (o : Option (List ℕ)). IsFault c.in-Err.kind 1 o after) (from_start c.new-lines.result told c.new-lines.ensures.buffered)
    (faulty_header c.in-Err.kind (to_come c.new-lines.result told) after c.in-Err.ensures.header c.in-Err.ensures.within)

pub returns-in_default-clause-first_or_fault : goal.returns-in_default-clause-first_or_fault
returns-in_default-clause-first_or_fault g c =
    let told = g.S.Source.remaining c.args.source.now in
    let after = g.S.Source.remaining c.read_header.new.source in
    subst (λ (o : Option (List ℕ)). WantsMemoryAt 1 o after) (from_start c.new-lines.result told c.new-lines.ensures.buffered)
    (header_wants (spelling c.in-Ok.header.0) c.in-Ok.header.1 (to_come c.new-lines.result told) after c.read_header.new.lines.buffered c.in-Ok.ensures.header
    c.in-Ok.ensures.ahead)

pub returns-in-Err-hand_over-clause-first_or_fault : goal.returns-in-Err-hand_over-clause-first_or_fault
returns-in-Err-hand_over-clause-first_or_fault g c =
    let i = c.loop-line.invariant in
    let v = spelling c.in-Ok.header.0 in
    let rows = c.loop-line.sink.rows in
    let event = c.in-Ok-Some.event in
    let later : List Event → Type 0 = λ log. c.hand_over.new.self.rows ≡ entries log in
    rw c.kind_of-kind.ensures
    (event_refused c.in-Err-hand_over.fault v _ _ later _ _ _ _ c.next_item.new.lines.buffered rows event i.reading c.in-Ok-Some.ensures.ahead (λ log h. h)
    (taken_event v rows c.in-Ok-Some.field-0 event _ _ c.in-Ok-Some.field-0-is c.in-Ok-Some.ensures.item) c.in-Err-hand_over.ensures.taken)

pub returns-in-Err-next_item-clause-first_or_fault : goal.returns-in-Err-next_item-clause-first_or_fault
returns-in-Err-next_item-clause-first_or_fault g c =
    item_refused c.in-Err-next_item.kind (spelling c.in-Ok.header.0) _ _ _ _ _ _ c.loop-line.invariant.reading c.in-Err-next_item.ensures.item
    c.in-Err-next_item.ensures.within

pub overflow_add-line : goal.overflow_add-line
overflow_add-line g c = omega (arith, few_lines _ _ _ _ _ _ c.loop-line.invariant.reading)

pub loop-line-preserved : goal.loop-line-preserved
loop-line-preserved g c =
    let i = c.loop-line.invariant in
    let v = spelling c.in-Ok.header.0 in
    let rows = c.loop-line.sink.rows in
    let event = c.in-Ok-Some.event in
    let later : List Event → Type 0 = λ log. c.hand_over.new.self.rows ≡ entries log in
    let told = g.S.Source.remaining c.args.source.now in
    let next = to_come c.next_item.new.lines (g.S.Source.remaining c.next_item.new.source) in
    record {
      reading = subst (λ (n : ℕ). IsReading v n later (c.loop-line.line + 1) told next) (sym c.hand_over.ensures.cowns)
          (event_taken v _ _ later _ _ _ _ rows event i.reading (λ log h. h)
          (taken_event v rows c.in-Ok-Some.field-0 event _ _ c.in-Ok-Some.field-0-is c.in-Ok-Some.ensures.item) c.in_default-hand_over.ensures.taken);
      not_over = c.in-Ok-Some.ensures.open;
      failures = c.in-Ok-Some.ensures.failures ∙ i.failures;
      above = omega (arith, i.above);
      within = omega (arith, i.within, i.above, c.loop-line-test.true);
    }
