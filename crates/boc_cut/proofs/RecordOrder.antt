-- A whole record has the order of its text.
use Rattle.std.proofs.Common.{◌≡◌, ℕ, suc, ◌+◌, ◌<◌, List, [], ◌∷◌, ◌++◌, ◌∙◌, length, length-append, ap, subst, sym, refl, inl, inr, arith}
use Rattle.std.proofs.lemmas.Bool.{cases_lt}
use Rattle.std.proofs.lemmas.Option.{slice_get_past}
use Rattle.std.specs.List.{Contains}
use Rattle.std.specs.Option.{option_map_or}
use Rattle.std.specs.Prelude.{codes, Option, Some, None, slice_get}
use Rattle.boc_program.proofs.ChangedItems.{item_at, front_item, last_item, length-changed}
use Rattle.boc_program.specs.Changed.{changed}
use Rattle.boc_record.specs.RecordTexts.{line, header, event_lines, IsTextOf}
use Rattle.boc_rules.proofs.Lists.{got_push, got_set, got_at}
use Rattle.boc_runs.specs.declared.event.BrokenRule.TheVariants as rules
use Rattle.boc_runs.specs.declared.event.Event.{Event}
use Rattle.boc_runs.specs.declared.event.Event.TheVariants as events
use Rattle.boc_runs.specs.declared.rows.Row.{Row as Kept}
use Rattle.boc_runs.specs.Legal.{Entry, after, after_all, pending, IsAllowed, IsLegalFrom, entries}
use Rattle.boc_runs.specs.Lives.{Running, Ended}
use Rattle.boc_runs.specs.Records.{Recorded}
use Rattle.boc_runs.specs.Rows.{cowns_of}
use Rattle.boc_cut.specs.Whole.{SpawnsEvent, SpawnsAll, AreWholeOrigins}
use Rattle.boc_cut.specs.Windows.{Spawns, HasOrderOf}
use Rattle.boc_cut.proofs.Keeping.{cowns_at}
use Rattle.boc_cut.proofs.Reaching.{ends_more}
use Rattle.boc_cut.proofs.Records.{events_spawn}
use Rattle.boc_cut.proofs.Spawning.{longer}

-- each row so far is spawned by a line of the text, over its cowns
abbrev AreEntriesSpawned : List ℕ → List Entry → Type 0
AreEntriesSpawned text rows = (k : ℕ) (e : Entry) → slice_get rows k ≡ Some e → Spawns text k e.cowns

-- a change of a row that keeps its cowns
kept_cowns : (rows : List Entry) (i : ℕ) (f : Entry → Entry) (o : Option Entry) (k : ℕ) (e : Entry) → ((x : Entry) → (f x).cowns ≡ x.cowns)
    → o ≡ slice_get rows i → slice_get (changed rows i f o) k ≡ Some e → (old : Entry) × (slice_get rows k ≡ Some old) × (e.cowns ≡ old.cowns)
kept_cowns rows i f None k e keeps is got = (e, got, refl)
kept_cowns rows i f (Some x) k e keeps is got = elim (got_set rows i k (f x) e got) [
  | inl p ↦ (x, got_at rows k i x p.0 (sym is), ap (λ (y : Entry). y.cowns) (sym p.1) ∙ keeps x)
  | inr p ↦ (e, p.1, refl)
]

changed_spawned : (text : List ℕ) (rows : List Entry) (i : ℕ) (f : Entry → Entry) → ((x : Entry) → (f x).cowns ≡ x.cowns) → AreEntriesSpawned text rows
    → AreEntriesSpawned text (changed rows i f (slice_get rows i))
changed_spawned text rows i f keeps s k e got =
    let (old, there, same) = kept_cowns rows i f (slice_get rows i) k e keeps refl got in
    subst (λ (cs : List ℕ). Spawns text k cs) (sym same) (s k old there)

one_spawned : (text : List ℕ) (count : ℕ) (rows : List Entry) (event : Event) → SpawnsEvent text event → IsAllowed count rows event
    → AreEntriesSpawned text rows
    → AreEntriesSpawned text (after rows event)
one_spawned text count rows (events.Spawn row parent offset cowns) by allowed s k e got =
    let others = changed rows parent (λ (x : Entry). record x { last = offset }) (slice_get rows parent) in
    let long : length others ≡ length rows = length-changed rows parent (λ (x : Entry). record x { last = offset }) (slice_get rows parent) in
    let next : row ≡ length rows = allowed.keeps rules.NumberNotNext in
    elim (got_push others k (pending parent offset cowns.items) e got) [
      | inl old ↦ changed_spawned text rows parent (λ (x : Entry). record x { last = offset }) (λ x. refl) s k e old
      | inr p ↦ (
          let place : row ≡ k = next ∙ sym long ∙ sym p.0 in
          subst (λ (n : ℕ). Spawns text n e.cowns) place
          (subst (λ (cs : List ℕ). Spawns text row cs) (ap (λ (x : Entry). x.cowns) p.1) by))
    ]
one_spawned text count rows (events.Start row) by allowed s k e got =
    changed_spawned text rows row (λ (x : Entry). record x { life = Running }) (λ x. refl) s k e got
one_spawned text count rows (events.End row ticks status written) by allowed s k e got =
    changed_spawned text rows row (λ (x : Entry). record x { life = Ended; ticks = ticks; status = status; written = written.items }) (λ x. refl) s k e got

all_spawned : (text : List ℕ) (count : ℕ) (rows : List Entry) (log : List Event) → SpawnsAll text log → IsLegalFrom count rows log → AreEntriesSpawned text rows
    → AreEntriesSpawned text (after_all rows log)
all_spawned text count rows [] by legal s = s
all_spawned text count rows (event ∷ log) by legal s =
    all_spawned text count (after rows event) log (λ place e got. by (suc place) e got) legal.1
    (one_spawned text count rows event (by 0 event refl) legal.0 s)

longer_event : (text more : List ℕ) (event : Event) → SpawnsEvent text event → SpawnsEvent (text ++ more) event
longer_event text more (events.Spawn row parent offset cowns) s = longer text more row cowns.items s
longer_event text more (events.Start row) s = tt
longer_event text more (events.End row ticks status written) s = tt

module _ (text : List ℕ) (r : Recorded) (origins : List (Option ℕ)) (t : IsTextOf text r) (whole : AreWholeOrigins r.rows origins) where
  by_lines : SpawnsAll text r.events
  by_lines place event got =
      subst (λ (x : List ℕ). SpawnsEvent x event) (sym t.is)
      (longer_event (line (header t.version r.cowns) ++ event_lines t.version r.events) (line (codes ".")) event
      (events_spawn t.version (line (header t.version r.cowns)) r.events (ends_more [] (header t.version r.cowns)) place event got))

  of_entries : AreEntriesSpawned text (entries r.events)
  of_entries = all_spawned text r.cowns [] r.events by_lines t.record_is.legal (λ k e got. absurd (let f : None ≡ Some e = got in cc))

  spawned : (k : ℕ) → k < length r.rows → Spawns text k (cowns_of r.rows k)
  spawned k within =
      let row = item_at r.rows k within in
      let all = t.record_is.rows_are in
      let entry = item_at (entries r.events) k (omega (arith, within, all.all)) in
      subst (λ (cs : List ℕ). Spawns text k cs) (sym (cowns_at r.rows k row.0 row.1 ∙ (all.each k entry.0 row.0 entry.1 row.1).cowns))
      (of_entries k entry.0 entry.1)

  there : (k x : ℕ) → Contains (cowns_of r.rows k) x → k < length r.rows
  there k x has = elim (cases_lt k (length r.rows)) [
    | inl l ↦ l
    | inr past ↦ absurd (
        let none : cowns_of r.rows k ≡ [] = ap (λ (o : Option Kept). option_map_or (λ y. y.cowns.items) o []) (slice_get_past r.rows k past) in
        let empty : length (cowns_of r.rows k) ≡ 0 = ap length none in
        omega (arith, empty, has.1))
  ]

  pub whole_order : HasOrderOf text r.rows origins
  whole_order = λ row later before meet.
      let (x, a, b) = meet in
      let here = there row x a in
      let behind = there later x b in (
        row,
        later,
        cowns_of r.rows row,
        cowns_of r.rows later,
        whole.each row here,
        whole.each later behind,
        before,
        spawned row here,
        spawned later
            behind,
        meet,
      )

-- one row more is the row of the stream that has its number
pub whole_more : (origins : List (Option ℕ)) (number : ℕ) → (length origins ≡ number) × ((row : ℕ) → row < number → slice_get origins row ≡ Some (Some row))
    → (length (origins ++ Some number ∷ []) ≡ number + 1)
    × ((row : ℕ) → row < number + 1 → slice_get (origins ++ Some number ∷ []) row ≡ Some (Some row))
whole_more origins number so = (
  (let more : length (origins ++ Some number ∷ []) ≡ length origins + 1 = length-append origins (Some number ∷ []) in omega (arith, more, so.0)),
  λ row below. elim (cases_lt row number) [
    | inl l ↦ front_item origins (Some number) row (omega (arith, l, so.0)) ∙ so.1 row l
    | inr g ↦ (
        let here : row ≡ number = omega (arith, g, below) in
        let place : row ≡ length origins = here ∙ sym so.0 in
        ap (slice_get (origins ++ Some number ∷ [])) place ∙ last_item origins (Some number) ∙ ap (λ n. Some (Some n)) (sym here))
  ],
)
