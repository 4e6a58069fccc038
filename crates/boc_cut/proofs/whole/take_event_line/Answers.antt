use Rattle.std.proofs.Common.{List, ℕ, refl, subst, sym}
use Rattle.boc_runs.specs.Legal.{entries}
use Rattle.boc_stream.specs.StreamTexts.{spelling, Says}
use Rattle.boc_cut.specs.Whole.{NoneNext, IsLineOf}
use Rattle.boc_cut.proofs.Tellings.{told_none, told_some, none_told, none_small, line_of, broken_line}
use Rattle.boc_cut.proofs.whole.take_event_line.Goals as goal

pub returns-in_default-told-clause-taken : goal.returns-in_default-told-clause-taken
returns-in_default-told-clause-taken c =
    let v = spelling c.args.version in
    let log = c.args.rules.now in
    let line = c.line.result.now in (
      subst (λ (l : List ℕ). NoneNext v log l) c.line.ensures
          (none_told v log line (told_none v line c.told_of.new.cowns.items c.in-Ok.told c.in_default-told.is c.in-Ok.ensures)),
      refl,
    )

pub returns-in_default-event_of-clause-taken : goal.returns-in_default-event_of-clause-taken
returns-in_default-event_of-clause-taken c =
    let v = spelling c.args.version in
    let log = c.args.rules.now in
    let line = c.line.result.now in
    let told = c.in-Some.told in
    let says = told_some v line c.told_of.new.cowns.items c.in-Ok.told told c.in-Some.is c.in-Ok.ensures in (
      subst (λ (l : List ℕ). NoneNext v log l) c.line.ensures
          (none_small v log line told c.deref.result.now (subst (λ (ns : List ℕ). Says v line told ns) (sym c.deref.ensures.value) says)
          c.in_default-event_of.ensures),
      refl,
    )

pub returns-in-Err-Broken-clause-taken : goal.returns-in-Err-Broken-clause-taken
returns-in-Err-Broken-clause-taken c =
    let v = spelling c.args.version in
    let log = c.args.rules.now in
    let line = c.line.result.now in
    let told = c.in-Some.told in
    let event = c.in-Some-event_of.event in
    let says = told_some v line c.told_of.new.cowns.items c.in-Ok.told told c.in-Some.is c.in-Ok.ensures in
    let of = line_of v (entries log.events) line told c.deref.result.now event
    (subst (λ (ns : List ℕ). Says v line told ns) (sym c.deref.ensures.value) says) c.in-Some-event_of.ensures in
    broken_line v c.args.stream.now.lines.line event log c.take.new.self c.in-Err-Broken.field-0 c.in-Err-Broken.field-0-0 c.in-Err-Broken.field-0-is
    (subst (λ (l : List ℕ). IsLineOf v (entries log.events) l event) c.line.ensures of) c.in-Err-Broken.ensures
