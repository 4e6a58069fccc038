use Rattle.std.proofs.Common.{◌≡◌, ◌∙◌, ap, subst, sym}
use Rattle.std.proofs.lemmas.Result.{err_from_is_err_and}
use Rattle.std.specs.Prelude.{Ok}
use Rattle.boc_stream.specs.LongLines.{LinesState, to_come}
use Rattle.boc_stream.specs.StreamTexts.{spelling}
use Rattle.boc_cut.specs.Whole.{StepsOn}
use Rattle.boc_cut.specs.declared.whole.Next.TheVariants as nexts
use Rattle.boc_cut.proofs.Records.{IsRecordSoFar, gave_from, next_end, next_ended, next_fewer, next_gave, next_other, next_over, next_taken, refuses_any}
use Rattle.boc_cut.proofs.Records.{spawned_from, stop_rest}
use Rattle.boc_cut.proofs.whole.follow_events.Goals as goal

pub returns-in_err-next_event-clause-tried : goal.returns-in_err-next_event-clause-tried
returns-in_err-next_event-clause-tried g c =
    let start = to_come c.args.stream.now.lines (g.S.Source.remaining c.args.source.now) in
    let now = to_come c.loop-rules.stream.lines (g.S.Source.remaining c.loop-rules.source) in
    let told = err_from_is_err_and c.from_residual.result c.from_residual.ensures.1 in
    rw (told.1, told.2)
    (stop_rest (spelling c.args.header.version) c.args.header.cowns c.loop-rules.rules c.in_err-next_event.field-0.0 start now c.loop-rules.invariant.so_far
    c.in_err-next_event.ensures.next)

pub loop-rules-smaller : goal.loop-rules-smaller
loop-rules-smaller g c =
    let start = to_come c.args.stream.now.lines (g.S.Source.remaining c.args.source.now) in
    let now = to_come c.loop-rules.stream.lines (g.S.Source.remaining c.loop-rules.source) in
    let next = c.next_event.new in
    next_fewer (spelling c.args.header.version) c.args.header.cowns c.loop-rules.rules next.rules c.in_ok-next_event.field-0 next.stream.lines.line start now
    (to_come next.stream.lines (g.S.Source.remaining next.source)) c.in-Event.is c.loop-rules.invariant.so_far c.in_ok-next_event.ensures.next

pub loop-rules-preserved : goal.loop-rules-preserved
loop-rules-preserved g c =
    let v = spelling c.args.header.version in
    let start = to_come c.args.stream.now.lines (g.S.Source.remaining c.args.source.now) in
    let now = to_come c.loop-rules.stream.lines (g.S.Source.remaining c.loop-rules.source) in
    let next = c.next_event.new in
    let rest = g.S.Source.remaining next.source in
    let i = c.loop-rules.invariant in
    let end = c.in_ok-next_event.field-0 in record {
      so_far = subst (λ (s : LinesState). IsRecordSoFar v c.args.header.cowns next.rules start (to_come s rest)) (sym c.step.ensures)
          (next_taken v c.args.header.cowns c.loop-rules.rules next.rules end next.stream.lines.line start now (to_come next.stream.lines rest) c.in-Event.is
          i.so_far c.in_ok-next_event.ensures.next);
      not_over = ap (λ (s : LinesState). s.is_over) c.step.ensures
          ∙ c.in_ok-next_event.ensures.open (λ e. absurd (let f : nexts.Event ≡ nexts.End = sym c.in-Event.is ∙ e in cc));
      rows = i.rows;
      uses = i.uses;
      failures = c.in_ok-next_event.ensures.failures ∙ i.failures;
    }

pub returns-in-Last-clause-tried : goal.returns-in-Last-clause-tried
returns-in-Last-clause-tried g c =
    let start = to_come c.args.stream.now.lines (g.S.Source.remaining c.args.source.now) in
    let now = to_come c.loop-rules.stream.lines (g.S.Source.remaining c.loop-rules.source) in
    let next = c.next_event.new in
    let end = c.end_record.new in
    next_ended (spelling c.args.header.version) c.args.header.cowns c.loop-rules.rules next.rules c.in_ok-next_event.field-0 next.stream.lines.line start now
    (to_come next.stream.lines (g.S.Source.remaining next.source)) (to_come end.stream.lines (g.S.Source.remaining end.source)) c.args.table.now.rows.items
    c.loop-rules.table.rows.items c.args.table.now.uses.items c.loop-rules.table.uses.items c.end_record.result c.in-Last.is c.loop-rules.invariant.so_far
    c.in_ok-next_event.ensures.next c.end_record.ensures.record

pub returns-in_err-step-in-Other-clause-tried : goal.returns-in_err-step-in-Other-clause-tried
returns-in_err-step-in-Other-clause-tried g c =
    let v = spelling c.args.header.version in
    let start = to_come c.args.stream.now.lines (g.S.Source.remaining c.args.source.now) in
    let now = to_come c.loop-rules.stream.lines (g.S.Source.remaining c.loop-rules.source) in
    let next = c.next_event.new in
    let told = err_from_is_err_and c.from_residual-in_err-step-in-Other.result c.from_residual-in_err-step-in-Other.ensures.1 in
    rw (told.1, told.2)
    (refuses_any v c.args.header.cowns c.in_err-step-in-Other.field-0.0 start
    (next_other v c.args.header.cowns c.loop-rules.rules next.rules c.in_ok-next_event.field-0 next.stream.lines.line start now
    (to_come next.stream.lines (g.S.Source.remaining next.source)) c.in-Other.is c.loop-rules.invariant.so_far c.in_ok-next_event.ensures.next))

pub returns-in-Other-clause-tried : goal.returns-in-Other-clause-tried
returns-in-Other-clause-tried g c =
    let v = spelling c.args.header.version in
    let log = c.loop-rules.rules in
    let start = to_come c.args.stream.now.lines (g.S.Source.remaining c.args.source.now) in
    let now = to_come c.loop-rules.stream.lines (g.S.Source.remaining c.loop-rules.source) in
    let next = c.next_event.new in
    let rest = g.S.Source.remaining next.source in
    let given = c.give_up.new in
    let looked = c.look_on.new in
    let old = c.args.table.now in
    let was = c.loop-rules.table in
    let line = next.stream.lines.line in
    next_gave v c.args.header.cowns log next.rules c.in_ok-next_event.field-0 line start now (to_come given.stream.lines rest)
    (to_come looked.stream.lines (g.S.Source.remaining looked.source)) old.rows.items given.table.rows.items old.uses.items given.table.uses.items
    c.look_on.result c.in-Other.is c.loop-rules.invariant.so_far
    (subst (λ (s : LinesState). StepsOn v log (Ok c.in_ok-next_event.field-0) next.rules line now (to_come s rest)) (sym c.give_up.ensures.lines)
    c.in_ok-next_event.ensures.next)
    (gave_from next.rules.events line old.rows.items was.rows.items given.table.rows.items old.uses.items was.uses.items given.table.uses.items
    c.loop-rules.invariant.rows c.loop-rules.invariant.uses c.in_ok-step-in-Other.ensures.table) c.look_on.ensures.kept

pub returns-in_err-replay-in-End-clause-tried : goal.returns-in_err-replay-in-End-clause-tried
returns-in_err-replay-in-End-clause-tried g c =
    let v = spelling c.args.header.version in
    let start = to_come c.args.stream.now.lines (g.S.Source.remaining c.args.source.now) in
    let now = to_come c.loop-rules.stream.lines (g.S.Source.remaining c.loop-rules.source) in
    let next = c.next_event.new in
    let told = err_from_is_err_and c.from_residual-in_err-replay-in-End.result c.from_residual-in_err-replay-in-End.ensures.1 in
    rw (told.1, told.2)
    (refuses_any v c.args.header.cowns c.in_err-replay-in-End.field-0.0 start
    (next_end v c.args.header.cowns c.loop-rules.rules next.rules c.in_ok-next_event.field-0 next.stream.lines.line start now
    (to_come next.stream.lines (g.S.Source.remaining next.source)) c.in-End.is c.loop-rules.invariant.so_far c.in_ok-next_event.ensures.next))

pub returns-in-End-clause-tried : goal.returns-in-End-clause-tried
returns-in-End-clause-tried g c =
    let start = to_come c.args.stream.now.lines (g.S.Source.remaining c.args.source.now) in
    let now = to_come c.loop-rules.stream.lines (g.S.Source.remaining c.loop-rules.source) in
    let next = c.next_event.new in
    let old = c.args.table.now in
    let was = c.loop-rules.table in
    let new = c.replay.new.table in
    next_over (spelling c.args.header.version) c.args.header.cowns c.loop-rules.rules next.rules c.in_ok-next_event.field-0 next.stream.lines.line start now
    (to_come next.stream.lines (g.S.Source.remaining next.source)) old.rows.items new.rows.items old.uses.items new.uses.items c.in-End.is
    c.loop-rules.invariant.so_far c.in_ok-next_event.ensures.next
    (spawned_from next.rules.events old.rows.items was.rows.items new.rows.items old.uses.items was.uses.items new.uses.items c.loop-rules.invariant.rows
    c.loop-rules.invariant.uses c.in_ok-replay-in-End.ensures.table)
