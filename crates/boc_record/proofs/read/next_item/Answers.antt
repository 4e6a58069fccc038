use Rattle.std.proofs.Common.{ℕ, List, subst, sym}
use Rattle.std.specs.Io.KnownBytes.{prepend_known}
use Rattle.boc_record.specs.Ahead.{IsLineAhead}
use Rattle.boc_record.specs.Reading.{TakesEvent}
use Rattle.boc_record.specs.Versions.{spelling}
use Rattle.boc_record.proofs.InFront.{event_in_front}
use Rattle.boc_record.proofs.Known.{long_item, gives_part, on_false}
use Rattle.boc_record.proofs.read.next_item.Goals as goal

pub returns-in-TooLong-clause-item : goal.returns-in-TooLong-clause-item
returns-in-TooLong-clause-item g c =
    let answer = on_false c.args.lines.now.is_over c.requires.open c.in-TooLong.ensures.found in
    long_item _ _ answer.0

pub returns-in-Device-clause-within : goal.returns-in-Device-clause-within
returns-in-Device-clause-within g c =
    let is_open = c.requires.open in
    gives_part _ _ _ (on_false c.args.lines.now.is_over is_open c.in-Device.ensures.found) (on_false c.args.lines.now.is_over is_open c.in-Device.ensures.open)

pub returns-in-Some-clause-item : goal.returns-in-Some-clause-item
returns-in-Some-clause-item g c =
    let v = spelling c.args.version in
    let rows = c.args.judge.now.rows in
    let event = c.in-Some.event in
    let len = c.in-Some.len in
    let known = g.S.Source.remaining c.args.source.now in
    let bytes = c.args.lines.now.buffered in
    let told : IsLineAhead v bytes event len = subst (λ (b : List ℕ). IsLineAhead v b event len) c.buffered.ensures.bytes c.in-Some.ensures in
    subst (λ (b : List ℕ). TakesEvent v rows event (prepend_known bytes known) (prepend_known b known)) (sym c.take_line.ensures.rest)
    (event_in_front v rows bytes event len known told)
