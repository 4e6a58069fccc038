-- What is known of a text from what was taken of its source.
use Rattle.std.proofs.Common.{length, append_assoc, ◌≡◌, inl, inr, ℕ, ◌+◌, ◌*◌, ◌<◌, ◌≤◌, ◌∷◌, List, [], ◌++◌, Option, Some, None, IfSome, refl, sym, ap, ◌∙◌}
use Rattle.std.proofs.Common.{subst, arith, Bool, false}
use Rattle.std.proofs.lemmas.List.{length-take, append-nil}
use Rattle.std.specs.Bool.{OnFalse}
use Rattle.std.specs.Prelude.{codes, Result, Ok, Err}
use Rattle.std.specs.Io.KnownBytes.{Consumes, Keeps, prepend_known}
use Rattle.std.proofs.KnownBytes.{Consumes-trans}
use Rattle.boc_record.specs.declared.verdict.RecordFaultKind.{RecordFaultKind}
use Rattle.boc_record.specs.declared.verdict.RecordFaultKind.TheVariants as kinds
use Rattle.boc_runs.specs.declared.event.Event.{Event}
use Rattle.boc_runs.specs.declared.event.BrokenRule.{BrokenRule}
use Rattle.boc_runs.specs.declared.event.BrokenRule.TheVariants as rules
use Rattle.boc_program.specs.declared.limits.TheConstants.{MOST_ROWS}
use Rattle.boc_text.specs.declared.lines.TheConstants.{MOST_LINE}
use Rattle.boc_runs.specs.Legal.{Entry, entries, IsComplete, IsFirstBroken}
use Rattle.boc_runs.specs.declared.rows.Row.{Row}
use Rattle.boc_runs.specs.Records.{Recorded, IsRecord, AreRowsOf}
use Rattle.boc_record.specs.RecordTexts.{HasNoForm, FirstLineIs, NextLineIs, IsWrongAfter, IsCut, Version, BeginsLong, BeginsWith, IsOneLine, BreaksRule}
use Rattle.boc_record.specs.RecordTexts.{HasMore, HasBegun, AreSpelt, IsFirstFault, line, header, event_line, event_lines, begun, record_text, kind_of_rule}
use Rattle.boc_rules.specs.Course.{Course, GivesRows}
use Rattle.boc_rules.proofs.Events.{counted}
use Rattle.boc_rules.proofs.Next.{well_log}
use Rattle.boc_rules.specs.declared.fault.RuleFault.{RuleFault}
use Rattle.boc_rules.specs.declared.fault.RuleFault.TheVariants.{Broken, Memory}
use Rattle.boc_text.specs.declared.lines.TheConstants.{CAPACITY}
use Rattle.boc_text.specs.Lines as lines
use Rattle.boc_record.specs.declared.fault.RecordFault.{RecordFault}
use Rattle.boc_record.specs.Sinks.{Hands}
use Rattle.boc_record.specs.Reading.{ItemIs, HeaderIs, TakesRecord, TakesRun, TakesHeader, TakesEvent, TakesItem, GivesPart, StopsFor, FailsAt, AreGoodLines}
use Rattle.boc_record.specs.Reading.{WantsRoom, WantsMemoryAt, IsFault, EndIs, kind_of_fault, line_feeds}
use Rattle.boc_record.proofs.Put.{lines_more}
use Rattle.boc_record.proofs.Lines.{one_stop, feeds_both, no_feeds, begun_feeds, text_feeds, begun_more}

-- ---- what the lines of a source tell

-- what holds where a test fails, which it does
pub on_false : {A : Type 0} → (b : Bool) → b ≡ false → OnFalse b A → A
on_false {A} b e h = subst (λ x. OnFalse x A) e h

-- a line that is too long
begins_long : (text : List ℕ) → lines.IsTooLong (Some text) → BeginsLong text
begins_long text h = record {
  more = omega (arith, length-take 81 text, ap length h.front, h.many);
  one = subst IsOneLine (sym h.front) h.unbroken;
}

-- is no event's
pub long_item : (v : Version) (known : Option (List ℕ)) → lines.IsTooLong known → IfSome known (HasNoForm v)
long_item v None h = tt
long_item v (Some text) h = inl (begins_long text h)

pub long_header : (known : Option (List ℕ)) → lines.IsTooLong known → IfSome known (λ text. FirstLineIs text kinds.Header)
long_header None h = tt
long_header (Some text) h = inl (begins_long text h)

-- what a source gave that failed, where what is taken in and not given is the beginning of a line
pub gives_part : (known rest : Option (List ℕ)) (held : List ℕ) → Keeps known (prepend_known held rest) → IsOneLine held × (length held ≤ MOST_LINE)
    → GivesPart known rest
gives_part None rest held kept part = record { left = held; unended = part.0; short = part.1; taken = tt }
gives_part (Some text) None held kept part = absurd kept
gives_part (Some text) (Some left) held kept part = record { left = held; unended = part.0; short = part.1; taken = sym kept }

-- what is taken in ahead was given too
with_ahead : (whole rest : Option (List ℕ)) (done held : List ℕ) → Consumes whole (prepend_known held rest) done → Consumes whole rest (done ++ held)
with_ahead None rest done held c = tt
with_ahead (Some text) None done held c = absurd c
with_ahead (Some text) (Some left) done held c = c ∙ sym (append_assoc done held left)

-- ---- from the rest of a text to the whole

-- what a fault says of a text, where it is told
abbrev FaultIn : RecordFaultKind → ℕ → List ℕ → Type 0
FaultIn kinds.Device number text = Unit {0}
FaultIn kinds.Memory number text = Unit {0}
FaultIn kind number text = IsFirstFault text number kind

-- what it says where the source failed, or memory was refused
abbrev StopIn : RecordFaultKind → ℕ → Option (List ℕ) → Option (List ℕ) → Type 0
StopIn kinds.Device number before after = FailsAt number before after
StopIn kinds.Memory number before after = WantsMemoryAt number before after
StopIn _ number before after = Unit {0}

-- both make the fault
fault : (kind : RecordFaultKind) (number : ℕ) (before after : Option (List ℕ)) → IfSome before (FaultIn kind number) → StopIn kind number before after
    → IsFault kind number before after
fault kinds.Device number before after h f = f
fault kinds.Memory number before after h f = f
fault _ number before after h f = h

-- the text so far, where the source tells it
told_of : (P Q : List ℕ → Type 0) (whole now : Option (List ℕ)) (done : List ℕ) → Consumes whole now done
    → ((text rest : List ℕ) → text ≡ done ++ rest → P rest → Q text) → IfSome now P → IfSome whole Q
told_of P Q None now done c f h = tt
told_of P Q (Some text) None done c f h = absurd c
told_of P Q (Some text) (Some rest) done c f h = f text rest c h

-- the source failed behind these lines
fails : (whole now after : Option (List ℕ)) (done : List ℕ) (number : ℕ) → Consumes whole now done → number ≡ line_feeds done + 1 → AreGoodLines done
    → GivesPart now after → FailsAt number whole after
fails whole now after done number c n good p = record {
  given = done ++ p.left;
  taken = Consumes-trans whole now after done p.left c p.taken;
  number_is = omega (arith, n, feeds_both done p.left, no_feeds p.left p.unended);
  done = done;
  good = good;
  left = p.left;
  unended = p.unended;
  short = p.short;
  split = refl;
}

-- ---- the first line

taken_none : (known : Option (List ℕ)) → Consumes known known []
taken_none None = tt
taken_none (Some text) = refl

nothing_said : (known : Option (List ℕ)) → IfSome known (λ text. Unit {0})
nothing_said None = tt
nothing_said (Some text) = tt

told : (P Q : List ℕ → Type 0) (known : Option (List ℕ)) → ((text : List ℕ) → P text → Q text) → IfSome known P → IfSome known Q
told P Q None f h = tt
told P Q (Some text) f h = f text h

header_fault : (kind : RecordFaultKind) (known : Option (List ℕ)) → HeaderIs kind known → IfSome known (FaultIn kind 1)
header_fault kinds.Header known h = told (λ text. FirstLineIs text kinds.Header) (FaultIn kinds.Header 1) known (λ text p. inl (refl, p)) h
header_fault kinds.Truncated known h = told (λ text. FirstLineIs text kinds.Truncated) (FaultIn kinds.Truncated 1) known (λ text p. inl (refl, p)) h
header_fault kinds.Device known h = nothing_said known
header_fault _ known h = absurd h

header_stop : (kind : RecordFaultKind) (known after : Option (List ℕ)) → HeaderIs kind known → StopsFor kind known after → StopIn kind 1 known after
header_stop kinds.Device known after h s = fails known known after [] 1 (taken_none known) refl (inl refl) s
header_stop kinds.Memory known after h s = absurd h
header_stop _ known after h s = tt

-- a fault of the first line
pub faulty_header : (kind : RecordFaultKind) (known after : Option (List ℕ)) → HeaderIs kind known → StopsFor kind known after → IsFault kind 1 known after
faulty_header kind known after h s = fault kind 1 known after (header_fault kind known h) (header_stop kind known after h s)

-- ---- the lines of events

-- one event more was taken
taken_more : (v : Version) (whole now next : Option (List ℕ)) (cowns : ℕ) (events : List Event) (event : Event) → Consumes whole now (begun v cowns events)
    → Consumes now next (line (event_line v event)) → Consumes whole next (begun v cowns (events ++ event ∷ []))
taken_more v whole now next cowns events event p q =
    subst (Consumes whole next)
    (append_assoc (line (header v cowns)) (event_lines v events) (line (event_line v event))
    ∙ ap (λ xs. line (header v cowns) ++ xs) (sym (lines_more v events event)))
    (Consumes-trans whole now next (begun v cowns events) (line (event_line v event)) p q)

good_events : (v : Version) (cowns : ℕ) (events : List Event) → HasBegun v cowns events → AreGoodLines (begun v cowns events)
good_events v cowns events b = inr (inl (v, cowns, events, b, refl))

wrong_line : (kind : RecordFaultKind) (v : Version) (cowns : ℕ) (events : List Event) → HasBegun v cowns events → (text rest : List ℕ)
    → text ≡ begun v cowns events ++ rest → NextLineIs v cowns events rest kind → IsWrongAfter text (length events + 2) kind
wrong_line kind v cowns events b text rest e h = record
    { version = v; cowns = cowns; events = events; begins = b; rest = rest; split = e; number_is = refl; wrong = h }

item_fault : (kind : RecordFaultKind) (whole now : Option (List ℕ)) (v : Version) (cowns : ℕ) (events : List Event) → HasBegun v cowns events
    → Consumes whole now (begun v cowns events) → ItemIs v kind now → IfSome whole (FaultIn kind (length events + 2))
item_fault kinds.Form whole now v cowns events b c h =
    told_of (HasNoForm v) (FaultIn kinds.Form (length events + 2)) whole now (begun v cowns events) c
    (λ text rest e p. inr (wrong_line kinds.Form v cowns events b text rest e p)) h
item_fault kinds.Truncated whole now v cowns events b c h =
    told_of IsCut (FaultIn kinds.Truncated (length events + 2)) whole now (begun v cowns events) c
    (λ text rest e p. inr (wrong_line kinds.Truncated v cowns events b text rest e p)) h
item_fault kinds.Device whole now v cowns events b c h = nothing_said whole
item_fault _ whole now v cowns events b c h = absurd h

item_stop : (kind : RecordFaultKind) (whole now after : Option (List ℕ)) (v : Version) (cowns : ℕ) (events : List Event) → HasBegun v cowns events
    → Consumes whole now (begun v cowns events) → ItemIs v kind now → StopsFor kind now after → StopIn kind (length events + 2) whole after
item_stop kinds.Device whole now after v cowns events b c h s =
    fails whole now after (begun v cowns events) (length events + 2) c (omega (arith, begun_feeds v cowns events b)) (good_events v cowns events b) s
item_stop kinds.Memory whole now after v cowns events b c h s = absurd h
item_stop _ whole now after v cowns events b c h s = tt

-- a line that is neither an event's nor the last
pub faulty_item : (kind : RecordFaultKind) (whole now after : Option (List ℕ)) (v : Version) (cowns : ℕ) (events : List Event) → HasBegun v cowns events
    → Consumes whole now (begun v cowns events) → ItemIs v kind now → StopsFor kind now after → IsFault kind (length events + 2) whole after
faulty_item kind whole now after v cowns events b c h s =
    fault kind (length events + 2) whole after (item_fault kind whole now v cowns events b c h) (item_stop kind whole now after v cowns events b c h s)

-- the line of an event that was taken is what the text begins with
begins_event : (v : Version) (cowns : ℕ) (events : List Event) (text : List ℕ) (next : Option (List ℕ)) (event : Event)
    → TakesEvent v (entries events) event (Some text) next → BeginsWith text (event_line v event)
begins_event v cowns events text None event t = absurd t.taken
begins_event v cowns events text (Some rest) event t = record { rest = rest; is = t.taken; one = t.one; short = t.short }

rule_fault : (rule : BrokenRule) (v : Version) (cowns : ℕ) (events : List Event) (text rest : List ℕ) → HasBegun v cowns events
    → text ≡ begun v cowns events ++ rest
    → BreaksRule v cowns events rest rule → FaultIn (kind_of_rule rule) (length events + 2) text
rule_fault rules.NumberNotNext v cowns events text rest b e w = inr (wrong_line kinds.NumberNotNext v cowns events b text rest e w)
rule_fault rules.ParentNotRunning v cowns events text rest b e w = inr (wrong_line kinds.ParentNotRunning v cowns events b text rest e w)
rule_fault rules.Offset v cowns events text rest b e w = inr (wrong_line kinds.Offset v cowns events b text rest e w)
rule_fault rules.Cowns v cowns events text rest b e w = inr (wrong_line kinds.Cowns v cowns events b text rest e w)
rule_fault rules.StartNotAllowed v cowns events text rest b e w = inr (wrong_line kinds.StartNotAllowed v cowns events b text rest e w)
rule_fault rules.EndNotAllowed v cowns events text rest b e w = inr (wrong_line kinds.EndNotAllowed v cowns events b text rest e w)
rule_fault rules.TooMany v cowns events text rest b e w = inr (wrong_line kinds.TooMany v cowns events b text rest e w)

-- a rule that is broken is no failure of the source
no_failure : (rule : BrokenRule) (number : ℕ) (whole after : Option (List ℕ)) → StopIn (kind_of_rule rule) number whole after
no_failure rules.NumberNotNext number whole after = tt
no_failure _ number whole after = tt

rule_faults : (rule : BrokenRule) (v : Version) (whole now next : Option (List ℕ)) (cowns : ℕ) (events : List Event) (event : Event) → HasBegun v cowns events
    → Consumes whole now (begun v cowns events) → TakesEvent v (entries events) event now next → IsFirstBroken cowns (entries events) event rule
    → IfSome whole (FaultIn (kind_of_rule rule) (length events + 2))
rule_faults rule v None now next cowns events event b c t first = tt
rule_faults rule v (Some text) None next cowns events event b c t first = absurd c
rule_faults rule v (Some text) (Some rest) next cowns events event b c t first =
    rule_fault rule v cowns events text rest b c (record
    { event = event; stands = begins_event v cowns events rest next event t; spelt = t.spelt; first = first })

wants : (v : Version) (whole after : Option (List ℕ)) (held : List ℕ) (cowns : ℕ) (events : List Event) (number : ℕ) → HasBegun v cowns events
    → WantsRoom events → number ≡ length events + 1 → length held ≤ CAPACITY
    → Consumes whole (prepend_known held after) (begun v cowns events) → WantsMemoryAt number whole after
wants v whole after held cowns events number b room n few c = record {
  given = begun v cowns events ++ held;
  taken = with_ahead whole after (begun v cowns events) held c;
  version = v;
  cowns = cowns;
  events = events;
  begins = b;
  wanted = room;
  number_is = n;
  ahead = held;
  few = few;
  split = refl;
}

one_more : (events : List Event) (event : Event) → length (events ++ event ∷ []) ≡ length events + 1
one_more [] event = refl
one_more (first ∷ events) event = omega (arith, one_more events event)

refused_event : (refused : RuleFault) (v : Version) (whole now after : Option (List ℕ)) (held : List ℕ) (cowns : ℕ) (events : List Event)
    (taken : List Event → Type 0) (event : Event) → HasBegun v cowns events → length held ≤ CAPACITY
    → Consumes whole now (begun v cowns events) → TakesEvent v (entries events) event now (prepend_known held after)
    → Hands cowns events event (Err refused) taken
    → IsFault (kind_of_fault refused) (length events + 2) whole after
refused_event (Broken rule) v whole now after held cowns events taken event b few c t a =
    fault (kind_of_rule rule) (length events + 2) whole after (rule_faults rule v whole now (prepend_known held after) cowns events event b c t a)
    (no_failure rule (length events + 2) whole after)
refused_event Memory v whole now after held cowns events taken event b few c t a =
    wants v whole after held cowns (events ++ event ∷ []) (length events + 2) (begun_more v cowns events event b a.0 t.spelt) (inr (events, event, a.1, refl))
    (omega (arith, one_more events event)) few
    (taken_more v whole now (prepend_known held after) cowns events event c t.taken)

-- an event's line was taken
pub taken_event : (v : Version) (rows : List Entry) (item : Option Event) (event : Event) (before after : Option (List ℕ)) → item ≡ Some event
    → TakesItem v rows item before after → TakesEvent v rows event before after
taken_event v rows item event before after e t = subst (λ x. TakesItem v rows x before after) e t

-- the last line was taken
pub taken_last : (v : Version) (rows : List Entry) (item : Option Event) (before after : Option (List ℕ)) → item ≡ None → TakesItem v rows item before after
    → Consumes before after (line (codes "."))
taken_last v rows item before after e t = subst (λ x. TakesItem v rows x before after) e t

-- ---- the last line

after_fault : (number : ℕ) (v : Version) (cowns : ℕ) (events : List Event) (text now rest : List ℕ) → HasBegun v cowns events → IsComplete events
    → number ≡ length events + 3
    → text ≡ begun v cowns events ++ now → now ≡ line (codes ".") ++ rest → 0 < length rest → HasMore text number
after_fault number v cowns events text now [] b complete n p q h = absurd (omega (arith, h))
after_fault number v cowns events text now (first ∷ rest) b complete n p q h = record {
  version = v;
  cowns = cowns;
  events = events;
  begins = b;
  complete = complete;
  first = first;
  rest = rest;
  split = p ∙ ap (λ xs. begun v cowns events ++ xs) q ∙ sym (append_assoc (begun v cowns events) (line (codes ".")) (first ∷ rest));
  number_is = n;
}

end_fault : (kind : RecordFaultKind) (number : ℕ) (v : Version) (cowns : ℕ) (events : List Event) (after : Option (List ℕ)) (text now rest : List ℕ)
    → HasBegun v cowns events
    → text ≡ begun v cowns events ++ now → now ≡ line (codes ".") ++ rest → EndIs (entries events) (length events + 2) number kind (Some rest) after
    → FaultIn kind number text
end_fault kinds.Unended number v cowns events after text now rest b p q h = inr (record {
  version = v;
  cowns = cowns;
  events = events;
  begins = b;
  rest = now;
  split = p;
  number_is = h.1;
  wrong = (record { rest = rest; is = q; one = one_stop; short = omega arith }, h.0);
})
end_fault kinds.After number v cowns events after text now rest b p q h =
    after_fault number v cowns events text now rest b h.0 (omega (arith, h.1)) p q h.2
end_fault kinds.Device number v cowns events after text now rest b p q h = tt
end_fault _ number v cowns events after text now rest b p q h = absurd h

end_faults : (kind : RecordFaultKind) (number : ℕ) (v : Version) (cowns : ℕ) (events : List Event) (whole now rest after : Option (List ℕ))
    → HasBegun v cowns events
    → Consumes whole now (begun v cowns events) → Consumes now rest (line (codes ".")) → EndIs (entries events) (length events + 2) number kind rest after
    → IfSome whole (FaultIn kind number)
end_faults kind number v cowns events None now rest after b p q h = tt
end_faults kind number v cowns events (Some text) None rest after b p q h = absurd p
end_faults kind number v cowns events (Some text) (Some mid) None after b p q h = absurd q
end_faults kind number v cowns events (Some text) (Some mid) (Some rest) after b p q h = end_fault kind number v cowns events after text mid rest b p q h

end_stop : (kind : RecordFaultKind) (number : ℕ) (v : Version) (cowns : ℕ) (events : List Event) (whole now rest after : Option (List ℕ))
    → HasBegun v cowns events
    → Consumes whole now (begun v cowns events) → Consumes now rest (line (codes ".")) → EndIs (entries events) (length events + 2) number kind rest after
    → StopIn kind number whole after
end_stop kinds.Device number v cowns events whole now rest after b p q h =
    fails whole rest after (record_text v cowns events) number (Consumes-trans whole now rest (begun v cowns events) (line (codes ".")) p q)
    (omega (arith, h.1, text_feeds v cowns events b)) (inr (inr (v, cowns, events, b, h.0, refl))) h.2
end_stop kinds.Memory number v cowns events whole now rest after b p q h = absurd h
end_stop _ number v cowns events whole now rest after b p q h = tt

-- ---- a sink that takes the events

-- a sink has taken the events of the lines before this one
pub record IsReading (v : Version) (cowns : ℕ) (taken : List Event → Type 0) (number : ℕ) (whole now : Option (List ℕ)) : Type 0 where
  pub events : List Event
  pub has : taken events
  pub begins : HasBegun v cowns events
  pub given : Consumes whole now (begun v cowns events)
  pub number_is : number ≡ length events + 2

-- memory was refused behind the first line
pub header_wants : (v : Version) (cowns : ℕ) (whole after : Option (List ℕ)) (held : List ℕ) → TakesHeader v cowns whole (prepend_known held after)
    → length held ≤ CAPACITY → IsFault kinds.Memory 1 whole after
header_wants v cowns whole after held h few =
    wants v whole after held cowns [] 1 (record { few = h.few; legal = tt; spelt = tt }) (inl refl) refl few
    (subst (Consumes whole (prepend_known held after)) (sym (append-nil (line (header v cowns)))) h.taken)

-- a log that keeps the rules has few events
pub few_lines : (v : Version) (cowns : ℕ) (taken : List Event → Type 0) (number : ℕ) (whole now : Option (List ℕ)) → IsReading v cowns taken number whole now
    → number ≤ 3 * MOST_ROWS + 2
few_lines v cowns taken number whole now r =
    omega (arith, r.number_is, counted cowns r.events r.begins.legal, (well_log cowns r.events r.begins.legal).few)

-- a line that is neither an event's nor the last
pub item_refused : (kind : RecordFaultKind) (v : Version) (cowns : ℕ) (taken : List Event → Type 0) (number : ℕ) (whole now after : Option (List ℕ))
    → IsReading v cowns taken number whole now
    → ItemIs v kind now → StopsFor kind now after → IsFault kind number whole after
item_refused kind v cowns taken number whole now after r h s =
    subst (λ (n : ℕ). IsFault kind n whole after) (sym r.number_is) (faulty_item kind whole now after v cowns r.events r.begins r.given h s)

-- a line whose event was refused
pub event_refused : (refused : RuleFault) (v : Version) (cowns : ℕ) (taken later : List Event → Type 0) (number : ℕ) (whole now after : Option (List ℕ))
    (held : List ℕ) (rows : List Entry) (event : Event) → IsReading v cowns taken number whole now
    → length held ≤ CAPACITY → ((log : List Event) → taken log → rows ≡ entries log) → TakesEvent v rows event now (prepend_known held after)
    → ((log : List Event) → taken log → Hands cowns log event (Err refused) later)
    → IsFault (kind_of_fault refused) number whole after
event_refused refused v cowns taken later number whole now after held rows event r few of t a =
    subst (λ (n : ℕ). IsFault (kind_of_fault refused) n whole after) (sym r.number_is)
    (refused_event refused v whole now after held cowns r.events later event r.begins few r.given
    (subst (λ (rs : List Entry). TakesEvent v rs event now (prepend_known held after)) (of r.events r.has) t) (a r.events r.has))

-- an event was taken
pub event_taken : (v : Version) (cowns : ℕ) (taken later : List Event → Type 0) (number : ℕ) (whole now next : Option (List ℕ)) (rows : List Entry)
    (event : Event) → IsReading v cowns taken number whole now
    → ((log : List Event) → taken log → rows ≡ entries log) → TakesEvent v rows event now next
    → ((log : List Event) → taken log → Hands cowns log event (Ok tt) later)
    → IsReading v cowns later (number + 1) whole next
event_taken v cowns taken later number whole now next rows event r of t a =
    let here = subst (λ (rs : List Entry). TakesEvent v rs event now next) (of r.events r.has) t in
    let accepted = a r.events r.has in record {
      events = r.events ++ event ∷ [];
      has = accepted.1;
      begins = begun_more v cowns r.events event r.begins accepted.0 here.spelt;
      given = taken_more v whole now next cowns r.events event r.given here.taken;
      number_is = omega (arith, r.number_is, one_more r.events event);
    }

-- the last line was taken, and the run is not over, or something follows
pub last_refused : (f : RecordFault) (v : Version) (cowns : ℕ) (taken : List Event → Type 0) (number : ℕ) (whole now rest left : Option (List ℕ))
    (rows : List Entry) → IsReading v cowns taken number whole now
    → ((log : List Event) → taken log → rows ≡ entries log) → Consumes now rest (line (codes ".")) → EndIs rows number f.line f.kind rest left
    → IsFault f.kind f.line whole left
last_refused f v cowns taken number whole now rest left rows r of q h =
    let here : EndIs (entries r.events) (length r.events + 2) f.line f.kind rest left =
    subst (λ (rs : List Entry). EndIs rs (length r.events + 2) f.line f.kind rest left) (of r.events r.has)
    (subst (λ (n : ℕ). EndIs rows n f.line f.kind rest left) r.number_is h) in
    fault f.kind f.line whole left (end_faults f.kind f.line v cowns r.events whole now rest left r.begins r.given q here)
    (end_stop f.kind f.line v cowns r.events whole now rest left r.begins r.given q here)

-- ---- what a sink that has taken a run gives

-- a record of the events that were taken is that of the text
pub record_taken : (cowns : ℕ) (taken : List Event → Type 0) (whole left : Option (List ℕ)) (r : Recorded) (run : TakesRun cowns taken whole left) → IsRecord r
    → r.cowns ≡ cowns → r.events ≡ run.events → TakesRecord r whole left
record_taken cowns taken whole left r run is same_cowns same_events = record {
  text = record_text run.version cowns run.events;
  text_of = record {
    record_is = is;
    version = run.version;
    spelt = subst (AreSpelt run.version []) (sym same_events) run.begins.spelt;
    is = ap (λ (n : ℕ). record_text run.version n run.events) (sym same_cowns) ∙ ap (record_text run.version r.cowns) (sym same_events);
  };
  taken = run.given;
  over = run.over;
}

-- the rows that a judge gives are those of its run
pub rows_given : (course : Course) (result : Result (List Row) Course) (rows : List Row) → GivesRows course result → result ≡ Ok rows
    → AreRowsOf course.rows rows
rows_given course result rows h e = let both : GivesRows course (Ok rows) = subst (GivesRows course) e h in both.1

-- the record of these rows
pub rows_taken : (cowns : ℕ) (taken : List Event → Type 0) (whole left : Option (List ℕ)) (rows : List Row) (run : TakesRun cowns taken whole left)
    → AreRowsOf (entries run.events) rows → (r : Recorded) × TakesRecord r whole left × (rows ≡ r.rows)
rows_taken cowns taken whole left rows run are =
    let r : Recorded = record { cowns = cowns; events = run.events; rows = rows } in (
      r,
      record_taken cowns taken whole left r run (record { few = run.begins.few; legal = run.begins.legal; complete = run.complete; rows_are = are }) refl
          refl,
      refl,
    )

-- the same, with the number of cowns
pub counted_taken : (cowns : ℕ) (taken : List Event → Type 0) (whole left : Option (List ℕ)) (rows : List Row) (run : TakesRun cowns taken whole left)
    → AreRowsOf (entries run.events) rows → (r : Recorded) × TakesRecord r whole left × (rows ≡ r.rows) × (cowns ≡ r.cowns)
counted_taken cowns taken whole left rows run are =
    let r : Recorded = record { cowns = cowns; events = run.events; rows = rows } in (
      r,
      record_taken cowns taken whole left r run (record { few = run.begins.few; legal = run.begins.legal; complete = run.complete; rows_are = are }) refl
          refl,
      refl,
      refl,
    )

-- what is to come of a source of which nothing is taken in yet
pub from_start : (ahead : lines.LinesState) (known : Option (List ℕ)) → ahead.buffered ≡ [] → lines.to_come ahead known ≡ known
from_start ahead None e = refl
from_start ahead (Some text) e = ap (λ xs. Some (xs ++ text)) e
