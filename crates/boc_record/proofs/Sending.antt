-- The text of a record that goes out while it is formed.
use Rattle.std.proofs.Common.{ℕ, suc, ◌+◌, ◌≤◌, ◌-◌, List, [], ◌∷◌, ◌++◌, Option, take, drop, length, length-drop, append_assoc, take-append-drop}
use Rattle.std.proofs.Common.{refl, sym, ap, subst, ◌∙◌, arith}
use Rattle.std.specs.Prelude.{◌≡◌, slice_get, Some}
use Rattle.std.proofs.Math.Seq.{take-add}
use Rattle.std.proofs.lemmas.List.{drop_more, take_all}
use Rattle.std.proofs.lemmas.Option.{slice_get_within, get_or_from_slice_get}
use Rattle.boc_runs.specs.declared.event.Event.{Event}
use Rattle.boc_runs.specs.Records.{Recorded, IsRecord}
use Rattle.boc_record.specs.RecordTexts.{Version, Second, line, header, event_line, event_lines}
use Rattle.boc_rules.proofs.Events.{counted}
use Rattle.boc_rules.proofs.Next.{well_log}
use Rattle.boc_text.specs.declared.outgoing.Outgoing.{Outgoing}
use Rattle.boc_text.specs.Streams.{StopsAt}
use Rattle.boc_text.specs.Outgoing.{IsOut}
use Rattle.boc_text.proofs.Sending.{stops_before}
use Rattle.boc_record.specs.declared.text.TheConstants.{MOST_EVENTS}

lines_append : (v : Version) (first more : List Event) → event_lines v (first ++ more) ≡ event_lines v first ++ event_lines v more
lines_append v [] more = refl
lines_append v (event ∷ first) more =
    ap (λ xs. line (event_line v event) ++ xs) (lines_append v first more)
    ∙ sym (append_assoc (line (event_line v event)) (event_lines v first) (event_lines v more))

-- the lines up to a place and the next ones are those up to a later place
pub lines_on : (v : Version) (events : List Event) (first next : ℕ) → first ≤ next
    → event_lines v (take first events) ++ event_lines v (take (next - first) (drop first events)) ≡ event_lines v (take next events)
lines_on v events first next near =
    sym (lines_append v (take first events) (take (next - first) (drop first events)))
    ∙ ap (event_lines v) (sym (take-add first (next - first) events) ∙ ap (λ (n : ℕ). take n events) (omega (arith, near)))

none_between : (n : ℕ) → 0 ≡ n - n
none_between n = omega arith

-- from a place on up to itself there is no line
pub no_lines : (v : Version) (events : List Event) (n : ℕ) → [] ≡ event_lines v (take (n - n) (drop n events))
no_lines v events n = ap (λ (m : ℕ). event_lines v (take m (drop n events))) (none_between n)

-- the line of an event and those of the next ones
pub line_in_front : (v : Version) (events : List Event) (place next all left : ℕ) (event : Event) → slice_get events place ≡ Some event
    → next ≡ place + 1 → all ≡ suc left
    → line (event_line v event) ++ event_lines v (take left (drop next events)) ≡ event_lines v (take all (drop place events))
line_in_front v events place next all left event at one more =
    ap (λ (n : ℕ). line (event_line v event) ++ event_lines v (take left (drop n events))) one
    ∙ ap (λ (x : Event). event_lines v (take (suc left) (x ∷ drop (place + 1) events))) (sym (get_or_from_slice_get events place event event at))
    ∙ ap (λ (xs : List Event). event_lines v (take (suc left) xs)) (sym (drop_more events place event (slice_get_within events place event at)))
    ∙ ap (λ (n : ℕ). event_lines v (take n (drop place events))) (sym more)

-- a text of which the first lines had come when it stopped has stopped as well where all were to come
pub stops_within : (v : Version) (gone : ℕ) (before : List ℕ) (events : List Event) (i : ℕ) (old new : Option (List ℕ))
    → StopsAt gone (before ++ event_lines v (take i events)) old new
    → StopsAt gone (before ++ event_lines v events) old new
stops_within v gone before events i old new s =
    subst (λ (text : List ℕ). StopsAt gone text old new)
    (append_assoc before (event_lines v (take i events)) (event_lines v (drop i events))
    ∙ ap (λ (xs : List ℕ). before ++ xs) (sym (lines_append v (take i events) (drop i events)) ∙ ap (event_lines v) (take-append-drop i events)))
    (stops_before gone (before ++ event_lines v (take i events)) (event_lines v (drop i events)) old new s)

-- a record has three events for each row at most
pub few_events : (r : Recorded) → IsRecord r → length r.events ≤ MOST_EVENTS
few_events r is = omega (arith, counted r.cowns r.events is.legal, (well_log r.cowns r.events is.legal).few)

-- the first line went out, or is held back
pub first_out : (before now : Option (List ℕ)) (cowns : ℕ) (room : List ℕ) (long begin : ℕ) (o : Outgoing) → length room ≤ long
    → drop begin room ≡ line (header Second cowns)
    → IsOut before now (take (long - begin) (drop begin room)) o → IsOut before now (line (header Second cowns)) o
first_out before now cowns room long begin o all is out =
    subst (λ (text : List ℕ). IsOut before now text o) (take_all (long - begin) (drop begin room) (omega (arith, all, length-drop begin room)) ∙ is) out

-- so did the lines of the events behind it
pub lines_out : (before between to : Option (List ℕ)) (cowns given : ℕ) (events passed : List Event) (room : List ℕ) (long begin : ℕ) (middle text : Outgoing)
    → given ≡ cowns → passed ≡ events
    → length room ≤ long → drop begin room ≡ line (header Second given) → IsOut before between (take (long - begin) (drop begin room)) middle
    → ((old : Option (List ℕ)) (sent : List ℕ) → IsOut old between sent middle → IsOut old to (sent ++ event_lines Second passed) text)
    → IsOut before to (line (header Second cowns) ++ event_lines Second events) text
lines_out before between to cowns given events passed room long begin middle text same told all is out goes_on =
    subst (λ (es : List Event). IsOut before to (line (header Second cowns) ++ event_lines Second es) text) told
    (goes_on before (line (header Second cowns)) (first_out before between cowns room long begin middle all (is ∙ ap (λ (n : ℕ). line (header Second n)) same)
    out))
