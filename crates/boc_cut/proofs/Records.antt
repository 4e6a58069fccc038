-- A stream that is followed as a record, from its first line to where it stops to be one.
use Rattle.std.proofs.Common.{◌≡◌, ℕ, zero, suc, ◌-◌, ◌*◌, ◌<◌, ◌≤◌, ◌^◌, List, [], ◌∷◌, ◌++◌, ◌∙◌, length, length-append, append_assoc, ap, subst, sym}
use Rattle.std.proofs.Common.{refl, arith}
use Rattle.std.proofs.KnownBytes.{Consumes-nil, Consumes-trans, Consumes-kept, Consumes-whole}
use Rattle.std.proofs.lemmas.List.{append-nil}
use Rattle.std.specs.Io.KnownBytes.{Consumes, Keeps, IsAtEnd}
use Rattle.std.specs.Prelude.{codes, Option, Some, None, IfSome, IfOk, Result, Ok, Err, slice_get}
use Rattle.boc_program.specs.declared.limits.TheConstants.{MOST_COWNS, MOST_ROWS}
use Rattle.boc_record.specs.RecordTexts.{Version, line, header, event_line, event_lines, record_text, HasBegun, AreSpelt}
use Rattle.boc_record.proofs.Lines.{begun_more}
use Rattle.boc_record.proofs.Put.{lines_more}
use Rattle.boc_rules.specs.Log.{Log}
use Rattle.boc_rules.proofs.Events.{counted}
use Rattle.boc_rules.proofs.Next.{well_log}
use Rattle.boc_runs.specs.declared.event.Event.{Event}
use Rattle.boc_runs.specs.declared.event.Event.TheVariants as events
use Rattle.boc_runs.specs.Legal.{entries, IsAllowed, IsComplete}
use Rattle.boc_runs.specs.Records.{Recorded}
use Rattle.boc_stream.specs.LongLines.{GivesLine}
use Rattle.boc_stream.specs.StreamTexts.{spelling}
use Rattle.boc_stream.specs.declared.told.Header.{Header}
use Rattle.boc_stream.specs.declared.fault.StreamFaultKind.{StreamFaultKind}
use Rattle.boc_stream.specs.declared.fault.StreamFaultKind.TheVariants as kinds
use Rattle.boc_cut.specs.declared.table.CownUse.{CownUse}
use Rattle.boc_cut.specs.declared.table.Row.{Row}
use Rattle.boc_cut.specs.declared.whole.Next.{Next}
use Rattle.boc_cut.specs.declared.whole.Next.TheVariants as nexts
use Rattle.boc_cut.specs.declared.whole.Tried.{Tried}
use Rattle.boc_cut.specs.declared.whole.Tried.TheVariants as tries
use Rattle.boc_cut.specs.Reading.{GoesOn, HasNoLine}
use Rattle.boc_cut.specs.Whole.{IsTaken, NoneNext, SpawnsEvent, SpawnsAll, TakesEvent, AreSpawnedBy, BeginsAs, GivesUp, IsNoWhole}
use Rattle.boc_cut.specs.Whole.{StepsOn, StopsAs, NoRest, RefusesRest, EndsAs}
use Rattle.boc_cut.specs.Whole.{FollowsOn, FollowsAs}
use Rattle.boc_cut.specs.Spawned.{KeepsSpawned, SpawnsMore}
use Rattle.boc_cut.specs.Windows.{EndsLine, Spawns}
use Rattle.boc_cut.proofs.Reaching.{ends_more, stays, goes_through}
use Rattle.boc_cut.proofs.Spawning.{longer_text}
use Rattle.boc_cut.proofs.Wholes.{Onward, behind, no_rest, no_more, not_at_end, not_stopped, not_other}

-- the lines of a record's text were taken behind its first line, those of the events of a log
pub record IsRecordSoFar (v : Version) (cowns : ℕ) (log : Log) (before now : Option (List ℕ)) : Type 0 where
  pub begins : HasBegun v cowns log.events
  pub cowns_are : log.cowns ≡ cowns
  pub given : Consumes before now (event_lines v log.events)

pub begins_record : (v : Version) (cowns : ℕ) (log : Log) (before : Option (List ℕ)) → cowns ≤ MOST_COWNS
    → log ≡ record { cowns = cowns; events = []; rooms = 0 }
    → IsRecordSoFar v cowns log before before
begins_record v cowns log before few e = subst (λ (l : Log). IsRecordSoFar v cowns l before before) (sym e) (record {
  begins = record { few = few; legal = tt; spelt = tt };
  cowns_are = refl;
  given = Consumes-nil before;
})

-- one event more was taken
pub one_event_more : (v : Version) (cowns : ℕ) (log new : Log) (l : List ℕ) (before now after : Option (List ℕ)) → IsRecordSoFar v cowns log before now
    → IsTaken v l log new → GivesLine l now after → IsRecordSoFar v cowns new before after
one_event_more v cowns log new l before now after so taken g =
    let event = taken.event in
    let allowed = subst (λ (n : ℕ). IsAllowed n (entries log.events) event) so.cowns_are taken.allowed in
    let more : event_lines v log.events ++ line l ≡ event_lines v new.events =
    ap (λ (m : List ℕ). event_lines v log.events ++ line m) taken.line_is.is ∙ sym (lines_more v log.events event)
    ∙ ap (λ (es : List Event). event_lines v es) (sym taken.events_are) in
    record {
      begins = subst (λ (es : List Event). HasBegun v cowns es) (sym taken.events_are)
          (begun_more v cowns log.events event so.begins allowed taken.line_is.spelt);
      cowns_are = taken.cowns_are ∙ so.cowns_are;
      given = subst (λ (t : List ℕ). Consumes before after t) more
          (Consumes-trans before now after (event_lines v log.events) (line l) so.given g.taken);
    }

-- ---- rows of a table by the lines of events

spawn_here : (v : Version) (text rest : List ℕ) (event : Event) → EndsLine text → SpawnsEvent (text ++ (line (event_line v event) ++ rest)) event
spawn_here v text rest (events.Spawn row parent offset cowns) ends = record {
  parent = parent;
  offset = offset;
  before = text;
  after = rest;
  begins = ends;
  is = sym (append_assoc text (line (event_line v (events.Spawn row parent offset cowns))) rest);
}
spawn_here v text rest (events.Start row) ends = tt
spawn_here v text rest (events.End row ticks status written) ends = tt

-- a text spawns the rows of the events whose lines are at its end
pub events_spawn : (v : Version) (text : List ℕ) (log : List Event) → EndsLine text → SpawnsAll (text ++ event_lines v log) log
events_spawn v text [] ends place event got = absurd cc
events_spawn v text (e ∷ log) ends zero event got =
    let here : e ≡ event = (let f : Some e ≡ Some event = got in cc) in
    subst (λ (x : Event). SpawnsEvent (text ++ (line (event_line v e) ++ event_lines v log)) x) here (spawn_here v text (event_lines v log) e ends)
events_spawn v text (e ∷ log) ends (suc place) event got =
    subst (λ (t : List ℕ). SpawnsEvent t event) (append_assoc text (line (event_line v e)) (event_lines v log))
    (events_spawn v (text ++ line (event_line v e)) log (ends_more text (event_line v e)) place event got)

ends_all : (v : Version) (text : List ℕ) (log : List Event) → EndsLine text → EndsLine (text ++ event_lines v log)
ends_all v text [] ends = subst EndsLine (sym (append-nil text)) ends
ends_all v text (e ∷ log) ends =
    subst EndsLine (append_assoc text (line (event_line v e)) (event_lines v log))
    (ends_all v (text ++ line (event_line v e)) log (ends_more text (event_line v e)))

-- the event of a line was taken
pub takes_spawn : (event : Event) (row n : ℕ) (cowns ns : List ℕ) (rows others : List Row) (uses more : List CownUse)
    → ((text : List ℕ) → SpawnsEvent text event → Spawns text row cowns) → n ≡ row → ns ≡ cowns → SpawnsMore n ns rows uses others more
    → TakesEvent event rows uses others more
takes_spawn event row n cowns ns rows others uses more of_event number named spawns text spawned s =
    spawns text (subst (λ (k : ℕ). Spawns text k ns) (sym number) (subst (λ (cs : List ℕ). Spawns text row cs) (sym named) (of_event text spawned))) s

pub takes_other : (event : Event) (rows others : List Row) (uses more : List CownUse) → KeepsSpawned rows uses others more
    → TakesEvent event rows uses others more
takes_other event rows others uses more keeps text spawned s = keeps text s

-- an event more of a log went into the table
pub one_replayed : (log : List Event) (place : ℕ) (event : Event) (rows mid others : List Row) (uses among more : List CownUse)
    → AreSpawnedBy log rows uses mid among → slice_get log place ≡ Some event → TakesEvent event mid among others more → AreSpawnedBy log rows uses others more
one_replayed log place event rows mid others uses among more so got takes text all s = takes text (all place event got) (so text all s)

-- the events went into the table
pub went_on : (v : Version) (log : List Event) (before now after : Option (List ℕ)) (rows others : List Row) (uses more : List CownUse)
    → Consumes before now (event_lines v log) → Keeps now after → AreSpawnedBy log rows uses others more → GoesOn before after rows uses others more
went_on v log before now after rows others uses more given kept spawned start h =
    let text = h.text ++ event_lines v log in record {
      text = text;
      ends = ends_all v h.text log h.ends;
      taken = Consumes-kept start now after text (Consumes-trans start before now h.text (event_lines v log) h.taken given) kept;
      spawned = spawned text (events_spawn v h.text log h.ends) (longer_text h.text (event_lines v log) rows uses h.spawned);
    }

-- and one line more
pub gave_up : (v : Version) (log : List Event) (l : List ℕ) (before now after : Option (List ℕ)) (rows others : List Row) (uses more : List CownUse)
    → Consumes before now (event_lines v log) → GivesLine l now after → GivesUp log l rows uses others more → GoesOn before after rows uses others more
gave_up v log l before now after rows others uses more given g spawned start h =
    let text = h.text ++ event_lines v log in record {
      text = text ++ line l;
      ends = ends_more text l;
      taken = Consumes-trans start now after text (line l) (Consumes-trans start before now h.text (event_lines v log) h.taken given) g.taken;
      spawned = spawned text (ends_all v h.text log h.ends) (events_spawn v h.text log h.ends)
          (longer_text h.text (event_lines v log) rows uses h.spawned);
    }

-- ---- where a stream stops to be a record

pub refuses_any : (v : Version) (cowns : ℕ) (kind : StreamFaultKind) (before : Option (List ℕ)) → NoRest v cowns before → RefusesRest v cowns kind before
refuses_any v cowns kinds.Memory before never = tt
refuses_any v cowns kinds.Device before never = tt
refuses_any v cowns _ before never = never

no_line_rest : (v : Version) (cowns : ℕ) (log : Log) (kind : StreamFaultKind) (before now : Option (List ℕ)) → IsRecordSoFar v cowns log before now
    → HasNoLine kind now → (kind ≡ kinds.Device → ⊥) → NoRest v cowns before
no_line_rest v cowns log kind before now so none never =
    no_rest v cowns log.events before now so.begins so.given
    (λ rest e o. not_stopped v cowns log.events rest kind so.begins o (subst (λ (x : Option (List ℕ)). HasNoLine kind x) e none) never)

-- no line was found
pub stop_rest : (v : Version) (cowns : ℕ) (log : Log) (kind : StreamFaultKind) (before now : Option (List ℕ)) → IsRecordSoFar v cowns log before now
    → StopsAs kind now → RefusesRest v cowns kind before
stop_rest v cowns log kinds.Memory before now so stops = tt
stop_rest v cowns log kinds.Device before now so stops = tt
stop_rest v cowns log kinds.Truncated before now so stops = no_line_rest v cowns log kinds.Truncated before now so stops (λ e. absurd cc)
stop_rest v cowns log kinds.LongLine before now so stops = no_line_rest v cowns log kinds.LongLine before now so stops (λ e. absurd cc)
stop_rest v cowns log _ before now so stops = absurd stops

at_end_is : (now : Option (List ℕ)) (rest : List ℕ) → now ≡ Some rest → IsAtEnd now → rest ≡ []
at_end_is now rest e at = subst IsAtEnd e at

-- the lines ended
pub end_rest : (v : Version) (cowns : ℕ) (log : Log) (before now : Option (List ℕ)) → IsRecordSoFar v cowns log before now → IsAtEnd now → NoRest v cowns before
end_rest v cowns log before now so at =
    no_rest v cowns log.events before now so.begins so.given (λ rest e o. not_at_end v cowns log.events rest so.begins o (at_end_is now rest e at))

-- another line came
pub other_rest : (v : Version) (cowns : ℕ) (log : Log) (l : List ℕ) (before now after : Option (List ℕ)) → IsRecordSoFar v cowns log before now
    → NoneNext v log l → (l ≡ codes "." → IsComplete log.events → ⊥) → GivesLine l now after → NoRest v cowns before
other_rest v cowns log l before now after so none never g =
    no_rest v cowns log.events before now so.begins so.given
    (λ rest e o. (let b = behind l rest now after e g in
    not_other v log rest l b.0 b.1 g.unbroken none never (subst (λ (n : ℕ). Onward v n log.events rest) (sym so.cowns_are) o)))

-- ---- the end of a record

last_taken : (v : Version) (cowns : ℕ) (log : Log) (l : List ℕ) (before now mid : Option (List ℕ)) → IsRecordSoFar v cowns log before now → l ≡ codes "."
    → GivesLine l now mid → Consumes before mid (event_lines v log.events ++ line (codes "."))
last_taken v cowns log l before now mid so is g =
    Consumes-trans before now mid (event_lines v log.events) (line (codes ".")) so.given (subst (λ (m : List ℕ). Consumes now mid (line m)) is g.taken)

-- the last line was found, and the end after it, or not
pub ended : (v : Version) (cowns : ℕ) (log : Log) (l : List ℕ) (before now mid after : Option (List ℕ)) (rows others : List Row) (uses more : List CownUse)
    (r : Result Tried StreamFaultKind) → IsRecordSoFar v cowns log before now → IsComplete log.events → l ≡ codes "." → GivesLine l now mid
    → EndsAs log r mid after → FollowsOn v cowns r before after rows uses others more
ended v cowns log l before now mid after rows others uses more (Ok (tries.Record r)) so complete is g e =
    let (record_is, cowns_are, events_are, at, kept) = e in
    let taken = subst (λ (es : List Event). Consumes before mid (event_lines v es ++ line (codes "."))) (sym events_are)
    (last_taken v cowns log l before now mid so is g) in
    record {
      record_is = record_is;
      cowns_are = cowns_are ∙ so.cowns_are;
      spelt = subst (λ (es : List Event). AreSpelt v [] es) (sym events_are) so.begins.spelt;
      taken = Consumes-kept before mid after _ taken kept;
      whole = Consumes-whole before mid _ (λ rest. rest ≡ event_lines v r.events ++ line (codes ".")) taken at refl;
    }
ended v cowns log l before now mid after rows others uses more (Ok tries.More) so complete is g e = absurd e
ended v cowns log l before now mid after rows others uses more (Ok tries.Over) so complete is g e = absurd e
ended v cowns log l before now mid after rows others uses more (Err kinds.After) so complete is g e =
    no_more v cowns log.events before mid so.begins complete (last_taken v cowns log l before now mid so is g) e
ended v cowns log l before now mid after rows others uses more (Err kinds.Device) so complete is g e = tt
ended v cowns log l before now mid after rows others uses more (Err _) so complete is g e = absurd e

-- the table has what came, with another line, and nothing more was taken
pub gave : (v : Version) (cowns : ℕ) (log : Log) (l : List ℕ) (before now mid after : Option (List ℕ)) (rows others : List Row) (uses more : List CownUse)
    (r : Result Tried StreamFaultKind) → IsRecordSoFar v cowns log before now → NoneNext v log l → (l ≡ codes "." → IsComplete log.events → ⊥)
    → GivesLine l now mid → GivesUp log.events l rows uses others more → IfOk r (λ tried. IsNoWhole tried × Keeps mid after)
    → FollowsOn v cowns r before after rows uses others more
gave v cowns log l before now mid after rows others uses more (Ok (tries.Record r)) so none never g given none_whole = absurd none_whole.0
gave v cowns log l before now mid after rows others uses more (Ok tries.More) so none never g given none_whole = (
  other_rest v cowns log l before now mid so none never g,
  goes_through before mid after rows others others uses more more (gave_up v log.events l before now mid rows others uses more so.given g given)
      (stays mid after others others more more none_whole.1 (λ text s. s)),
)
gave v cowns log l before now mid after rows others uses more (Ok tries.Over) so none never g given none_whole = (
  other_rest v cowns log l before now mid so none never g,
  goes_through before mid after rows others others uses more more (gave_up v log.events l before now mid rows others uses more so.given g given)
      (stays mid after others others more more none_whole.1 (λ text s. s)),
)
gave v cowns log l before now mid after rows others uses more (Err kind) so none never g given none_whole =
    refuses_any v cowns kind before (other_rest v cowns log l before now mid so none never g)

-- the lines ended, and the table has what came
pub over : (v : Version) (cowns : ℕ) (log : Log) (before now after : Option (List ℕ)) (rows others : List Row) (uses more : List CownUse)
    → IsRecordSoFar v cowns log before now → IsAtEnd now → Keeps now after → AreSpawnedBy log.events rows uses others more
    → NoRest v cowns before × GoesOn before after rows uses others more
over v cowns log before now after rows others uses more so at kept spawned =
    (end_rest v cowns log before now so at, went_on v log.events before now after rows others uses more so.given kept spawned)

-- ---- how many events there can be

pub few_so_far : (v : Version) (cowns : ℕ) (log : Log) (before now : Option (List ℕ)) → IsRecordSoFar v cowns log before now
    → length log.events ≤ 3 * MOST_ROWS
few_so_far v cowns log before now so =
    omega (arith, counted cowns log.events so.begins.legal, (well_log cowns log.events so.begins.legal).few)

-- each event leaves less room
pub fewer : (v : Version) (cowns : ℕ) (log new : Log) (l : List ℕ) (before now after : Option (List ℕ)) → IsRecordSoFar v cowns log before now
    → IsTaken v l log new → GivesLine l now after → 2 ^ 18 - length new.events < 2 ^ 18 - length log.events
fewer v cowns log new l before now after so taken g =
    let more = few_so_far v cowns new before after (one_event_more v cowns log new l before now after so taken g) in
    omega (arith, more, ap length taken.events_are, length-append log.events (taken.event ∷ []))

-- ---- what came next

steps_as : (v : Version) (old new : Log) (l : List ℕ) (before after : Option (List ℕ)) (n m : Next) → n ≡ m → StepsOn v old (Ok n) new l before after
    → StepsOn v old (Ok m) new l before after
steps_as v old new l before after n m e steps = subst (λ (x : Next). StepsOn v old (Ok x) new l before after) e steps

pub next_taken : (v : Version) (cowns : ℕ) (log new : Log) (n : Next) (l : List ℕ) (before now after : Option (List ℕ)) → n ≡ nexts.Event
    → IsRecordSoFar v cowns log before now → StepsOn v log (Ok n) new l now after → IsRecordSoFar v cowns new before after
next_taken v cowns log new n l before now after e so steps =
    let t : IsTaken v l log new × GivesLine l now after = steps_as v log new l now after n nexts.Event e steps in
    one_event_more v cowns log new l before now after so t.0 t.1

pub next_fewer : (v : Version) (cowns : ℕ) (log new : Log) (n : Next) (l : List ℕ) (before now after : Option (List ℕ)) → n ≡ nexts.Event
    → IsRecordSoFar v cowns log before now → StepsOn v log (Ok n) new l now after → 2 ^ 18 - length new.events < 2 ^ 18 - length log.events
next_fewer v cowns log new n l before now after e so steps =
    let t : IsTaken v l log new × GivesLine l now after = steps_as v log new l now after n nexts.Event e steps in
    fewer v cowns log new l before now after so t.0 t.1

pub next_ended : (v : Version) (cowns : ℕ) (log new : Log) (n : Next) (l : List ℕ) (before now mid after : Option (List ℕ)) (rows others : List Row)
    (uses more : List CownUse) (r : Result Tried StreamFaultKind) → n ≡ nexts.Last → IsRecordSoFar v cowns log before now
    → StepsOn v log (Ok n) new l now mid → EndsAs new r mid after → FollowsOn v cowns r before after rows uses others more
next_ended v cowns log new n l before now mid after rows others uses more r e so steps ends =
    let t : IsComplete log.events × (l ≡ codes ".") × GivesLine l now mid × (new ≡ log) = steps_as v log new l now mid n nexts.Last e steps in
    ended v cowns log l before now mid after rows others uses more r so t.0 t.1 t.2 (subst (λ (x : Log). EndsAs x r mid after) t.3 ends)

pub next_other : (v : Version) (cowns : ℕ) (log new : Log) (n : Next) (l : List ℕ) (before now mid : Option (List ℕ)) → n ≡ nexts.Other
    → IsRecordSoFar v cowns log before now → StepsOn v log (Ok n) new l now mid → NoRest v cowns before
next_other v cowns log new n l before now mid e so steps =
    let t : NoneNext v log l × (l ≡ codes "." → IsComplete log.events → ⊥) × GivesLine l now mid × (new ≡ log) =
    steps_as v log new l now mid n nexts.Other e steps in
    other_rest v cowns log l before now mid so t.0 t.1 t.2

pub next_gave : (v : Version) (cowns : ℕ) (log new : Log) (n : Next) (l : List ℕ) (before now mid after : Option (List ℕ)) (rows others : List Row)
    (uses more : List CownUse) (r : Result Tried StreamFaultKind) → n ≡ nexts.Other → IsRecordSoFar v cowns log before now
    → StepsOn v log (Ok n) new l now mid → GivesUp new.events l rows uses others more → IfOk r (λ tried. IsNoWhole tried × Keeps mid after)
    → FollowsOn v cowns r before after rows uses others more
next_gave v cowns log new n l before now mid after rows others uses more r e so steps given none_whole =
    let t : NoneNext v log l × (l ≡ codes "." → IsComplete log.events → ⊥) × GivesLine l now mid × (new ≡ log) =
    steps_as v log new l now mid n nexts.Other e steps in
    gave v cowns log l before now mid after rows others uses more r so t.0 t.1 t.2 (subst (λ (x : Log). GivesUp x.events l rows uses others more) t.3 given)
    none_whole

pub next_end : (v : Version) (cowns : ℕ) (log new : Log) (n : Next) (l : List ℕ) (before now after : Option (List ℕ)) → n ≡ nexts.End
    → IsRecordSoFar v cowns log before now → StepsOn v log (Ok n) new l now after → NoRest v cowns before
next_end v cowns log new n l before now after e so steps =
    let t : IsAtEnd now × Keeps now after × (new ≡ log) = steps_as v log new l now after n nexts.End e steps in
    end_rest v cowns log before now so t.0

pub next_over : (v : Version) (cowns : ℕ) (log new : Log) (n : Next) (l : List ℕ) (before now after : Option (List ℕ)) (rows others : List Row)
    (uses more : List CownUse) → n ≡ nexts.End → IsRecordSoFar v cowns log before now → StepsOn v log (Ok n) new l now after
    → AreSpawnedBy new.events rows uses others more → NoRest v cowns before × GoesOn before after rows uses others more
next_over v cowns log new n l before now after rows others uses more e so steps spawned =
    let t : IsAtEnd now × Keeps now after × (new ≡ log) = steps_as v log new l now after n nexts.End e steps in
    over v cowns log before now after rows others uses more so t.0 t.1 (subst (λ (x : Log). AreSpawnedBy x.events rows uses others more) t.2 spawned)

-- the table is that from which the rows were followed
pub gave_from : (log : List Event) (l : List ℕ) (rows was others : List Row) (uses used more : List CownUse) → was ≡ rows → used ≡ uses
    → GivesUp log l was used others more → GivesUp log l rows uses others more
gave_from log l rows was others uses used more r u given =
    subst (λ (rs : List Row). GivesUp log l rs uses others more) r (subst (λ (us : List CownUse). GivesUp log l was us others more) u given)

pub spawned_from : (log : List Event) (rows was others : List Row) (uses used more : List CownUse) → was ≡ rows → used ≡ uses
    → AreSpawnedBy log was used others more → AreSpawnedBy log rows uses others more
spawned_from log rows was others uses used more r u spawned =
    subst (λ (rs : List Row). AreSpawnedBy log rs uses others more) r (subst (λ (us : List CownUse). AreSpawnedBy log was us others more) u spawned)

-- ---- with the first line

first_goes : (l : List ℕ) (before mid after : Option (List ℕ)) (rows others : List Row) (uses more : List CownUse) → Consumes before mid (line l)
    → GoesOn mid after rows uses others more → GoesOn before after rows uses others more
first_goes l before mid after rows others uses more taken goes start h = goes start (record {
  text = h.text ++ line l;
  ends = ends_more h.text l;
  taken = Consumes-trans start before mid h.text (line l) h.taken taken;
  spawned = longer_text h.text (line l) rows uses h.spawned;
})

with_front : (front rest : List ℕ) (before mid : Option (List ℕ)) → Consumes before mid front → IfSome mid (λ r. r ≡ rest)
    → IfSome before (λ bytes. bytes ≡ front ++ rest)
with_front front rest None mid c e = tt
with_front front rest (Some bytes) None c e = absurd c
with_front front rest (Some bytes) (Some r) c e = c ∙ ap (λ xs. front ++ xs) e

whole_text : (v : Version) (cowns : ℕ) (r : Recorded) → r.cowns ≡ cowns
    → line (header v cowns) ++ (event_lines v r.events ++ line (codes ".")) ≡ record_text v r.cowns r.events
whole_text v cowns r e =
    sym (append_assoc (line (header v cowns)) (event_lines v r.events) (line (codes ".")))
    ∙ ap (λ (n : ℕ). record_text v n r.events) (sym e)

pub follows_all : (v : Version) (cowns : ℕ) (before mid after : Option (List ℕ)) (rows others : List Row) (uses more : List CownUse)
    (r : Result Tried StreamFaultKind) → Consumes before mid (line (header v cowns)) → FollowsOn v cowns r mid after rows uses others more
    → FollowsAs r before after rows uses others more
follows_all v cowns before mid after rows others uses more (Ok (tries.Record r)) first rest =
    let same = whole_text v cowns r rest.cowns_are in
    let all = line (header v cowns) ++ (event_lines v r.events ++ line (codes ".")) in record {
      text = record_text v r.cowns r.events;
      text_of = record { record_is = rest.record_is; version = v; spelt = rest.spelt; is = refl };
      taken = subst (λ (t : List ℕ). Consumes before after t) same
          (Consumes-trans before mid after (line (header v cowns)) (event_lines v r.events ++ line (codes ".")) first rest.taken);
      whole = subst (λ (t : List ℕ). IfSome before (λ bytes. bytes ≡ t)) same
          (with_front (line (header v cowns)) (event_lines v r.events ++ line (codes ".")) before mid first rest.whole);
    }
follows_all v cowns before mid after rows others uses more (Ok tries.More) first rest =
    (rest.0 before first, first_goes (header v cowns) before mid after rows others uses more first rest.1)
follows_all v cowns before mid after rows others uses more (Ok tries.Over) first rest =
    (rest.0 before first, first_goes (header v cowns) before mid after rows others uses more first rest.1)
follows_all v cowns before mid after rows others uses more (Err kinds.Memory) first rest = tt
follows_all v cowns before mid after rows others uses more (Err kinds.Device) first rest = tt
follows_all v cowns before mid after rows others uses more (Err _) first rest = rest before first

-- behind the first line of a record
pub begun_follows : (o : Option Header) (h : Header) (before mid after : Option (List ℕ)) (rows was others : List Row) (uses used more : List CownUse)
    (r : Result Tried StreamFaultKind) → o ≡ Some h → BeginsAs (Ok o) before mid rows uses was used
    → FollowsOn (spelling h.version) h.cowns r mid after was used others more → FollowsAs r before after rows uses others more
begun_follows o h before mid after rows was others uses used more r e begins follows =
    let v = spelling h.version in
    let b : Consumes before mid (line (header v h.cowns)) × (was ≡ rows) × (used ≡ uses) =
    subst (λ (x : Option Header). BeginsAs (Ok x) before mid rows uses was used) e begins in
    follows_all v h.cowns before mid after rows others uses more r b.0
    (subst (λ (rs : List Row). FollowsOn v h.cowns r mid after rs uses others more) b.1
    (subst (λ (us : List CownUse). FollowsOn v h.cowns r mid after was us others more) b.2 follows))
