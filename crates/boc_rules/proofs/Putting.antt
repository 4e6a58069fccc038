-- What a log that judges nothing keeps stays that of its events as one is put behind them.
use Rattle.std.proofs.Common.{◌≡◌, ℕ, ◌+◌, ◌*◌, ◌<◌, ◌≤◌, ◌↔◌, List, [], ◌∷◌, ◌++◌, length, refl, sym, ◌∙◌, ap, subst, arith}
use Rattle.std.specs.Prelude.{All}
use Rattle.boc_runs.specs.declared.event.Event.{Event}
use Rattle.boc_runs.specs.declared.event.Event.TheVariants.{Spawn, Start, End}
use Rattle.boc_runs.specs.declared.event.BrokenRule.TheVariants as rules
use Rattle.boc_runs.specs.declared.events.Happening.{Happening}
use Rattle.boc_runs.specs.declared.rows.Row.{Row}
use Rattle.boc_runs.specs.Happenings.{happening_of, told}
use Rattle.boc_runs.specs.Lives as lives
use Rattle.boc_runs.specs.Legal.{Entry, entries, after, MayEnd, IsAllowed, IsLegal, IsComplete}
use Rattle.boc_runs.specs.Records.{AreRowsOf}
use Rattle.boc_runs.specs.Rows.{IsRows}
use Rattle.boc_runs.proofs.Tellings.{told_all}
use Rattle.boc_rules.specs.Log.{HasRoomFor, rooms_after}
use Rattle.boc_rules.specs.Course.{AreLegal}
use Rattle.boc_rules.specs.Logged.{HasHappened, IsLogged}
use Rattle.boc_rules.specs.RunLog.{CanKeep, rows_after, IsRunLog}
use Rattle.boc_rules.specs.SoFar.{over_one, over}
use Rattle.boc_rules.proofs.Next.{after_more, legal_more}
use Rattle.boc_rules.proofs.Events.{left_one, left, counted}
use Rattle.boc_rules.proofs.Finished.{is_rows}
use Rattle.boc_rules.proofs.Judging.{well_rows, spawn_small, written_small, there, over_is}
use Rattle.boc_rules.proofs.Logging.{room_left, rooms_stay}
use Rattle.boc_rules.proofs.KeptRows.{rows_go_on}
use Rattle.boc_rules.proofs.Telling.{told_more, happened_more, told_rows}

-- the log is that of its rows, with room for their events
pub logged_of : (cowns : ℕ) (rows : List Row) (happenings : List Happening) (rooms row_room event_room : ℕ)
    → IsRunLog cowns rows happenings rooms row_room event_room
    → IsLogged (record { cowns = cowns; rows = entries (told happenings rows); rooms = rooms }) happenings event_room
logged_of cowns rows happenings rooms row_room event_room k =
    let same = told_rows (entries (told happenings rows)) rows happenings k.rows_are in record {
      few = k.few;
      happened = k.happened;
      legal = subst (IsLegal cowns) same k.legal;
      rows_are = ap entries same;
      roomy = omega (arith, k.events_fit, k.rows_are.all);
    }

legal_of : (cowns : ℕ) (rows : List Row) (happenings : List Happening) (rooms row_room event_room : ℕ)
    → IsRunLog cowns rows happenings rooms row_room event_room → AreLegal cowns (entries (told happenings rows))
legal_of cowns rows happenings rooms row_room event_room k = record { few = k.few; log = told happenings rows; legal = k.legal; rows_are = refl }

-- what is kept of an allowed event can be kept
can_keep : (count : ℕ) (run : List Entry) (rows : List Row) (event : Event) → AreLegal count run → length rows ≡ length run → IsAllowed count run event
    → CanKeep rows event
can_keep count run rows (Spawn row parent offset cowns) l long a = spawn_small count run row parent offset cowns l.few a
can_keep count run rows (Start row) l long a = tt
can_keep count run rows (End row ticks status written) l long a =
    let may : MayEnd run row ticks written.items = a.keeps rules.EndNotAllowed in
    (omega (arith, long, there run row lives.Running may.runs), written_small count run row ticks status written l a)

module _ (cowns : ℕ) (rows : List Row) (happenings : List Happening) (rooms row_room event_room : ℕ) (event : Event)
    (k : IsRunLog cowns rows happenings rooms row_room event_room)
    (a : IsAllowed cowns (entries (told happenings rows)) event) where
  abbrev log : List Event
  log = told happenings rows

  abbrev run : List Entry
  run = entries log

  abbrev happenings2 : List Happening
  happenings2 = happenings ++ (happening_of event ∷ [])

  pub can_put : CanKeep rows event
  can_put = can_keep cowns run rows event (legal_of cowns rows happenings rooms row_room event_room k) k.rows_are.all a

  pub room_to_put : HasRoomFor rooms event → length happenings < event_room
  room_to_put has =
      let l = logged_of cowns rows happenings rooms row_room event_room k in
      room_left (record { cowns = cowns; rows = run; rooms = rooms }) happenings event_room event l
      (subst (λ (r : List Entry). IsAllowed cowns r event) l.rows_are a) has

  pub told_put : told happenings2 (rows_after rows event) ≡ log ++ (event ∷ [])
  told_put =
      told_rows (after run event) (rows_after rows event) happenings2 (rows_go_on run rows event k.rows_are)
      ∙ told_more cowns run happenings event k.happened a
      ∙ ap (λ (es : List Event). es ++ (event ∷ [])) (sym (told_rows run rows happenings k.rows_are))

  pub put_kept : (row_room2 : ℕ) → HasRoomFor rooms event → length (rows_after rows event) + rooms_after rooms event ≤ row_room2
      → IsRunLog cowns (rows_after rows event) happenings2 (rooms_after rooms event) row_room2 event_room
  put_kept row_room2 has fit =
      let goes_on : after run event ≡ entries (told happenings2 (rows_after rows event)) = sym (after_more [] log event) ∙ ap entries (sym told_put) in
      let are = rows_go_on run rows event k.rows_are in record {
        few = k.few;
        legal = subst (IsLegal cowns) (sym told_put) (legal_more cowns [] log event k.legal a);
        rows_are = subst (λ (r : List Entry). AreRowsOf r (rows_after rows event)) goes_on are;
        happened = subst (λ (r : List Entry). All (HasHappened r) happenings2) goes_on (happened_more cowns run happenings event k.happened a);
        rows_fit = fit;
        events_fit = omega (arith, are.all, rooms_stay run rooms event has, k.rows_are.all, k.events_fit);
      }

-- A row has no event left where it is over.
few_left : (l : lives.Life) → (1 ≤ over_one l + left_one l) × (left_one l + 2 * over_one l ≤ 2)
few_left lives.Pending = (omega arith, omega arith)
few_left lives.Running = (omega arith, omega arith)
few_left lives.Ended = (omega arith, omega arith)

left_over : (run : List Entry) → (length run ≤ over run + left run) × (left run + 2 * over run ≤ 2 * length run)
left_over [] = (omega arith, omega arith)
left_over (e ∷ run) =
    let one = few_left e.life in
    let rest = left_over run in
    (omega (arith, one.0, rest.0), omega (arith, one.1, rest.1))

-- A log is complete where each row has had all of its events.
pub complete_log : (cowns : ℕ) (rows : List Row) (happenings : List Happening) (rooms row_room event_room : ℕ)
    → IsRunLog cowns rows happenings rooms row_room event_room → 0 < length rows
    → (length happenings ≡ 3 * length rows) ↔ IsComplete (told happenings rows)
complete_log cowns rows happenings rooms row_room event_room k some =
    let log = told happenings rows in
    let run = entries log in
    let is = over_is run (omega (arith, k.rows_are.all, some)) in
    let count = counted cowns log k.legal in
    let many = told_all happenings rows in
    let rest = left_over run in (
      λ all. is.0 (omega (arith, all, count, many, k.rows_are.all, rest.0, rest.1)),
      λ o. omega (arith, is.1 o, count, many, k.rows_are.all, rest.0, rest.1),
    )

-- and its rows have the shape of a record's
pub rows_of_log : (cowns : ℕ) (rows : List Row) (happenings : List Happening) (rooms row_room event_room : ℕ)
    → IsRunLog cowns rows happenings rooms row_room event_room → IsComplete (told happenings rows) → IsRows rows
rows_of_log cowns rows happenings rooms row_room event_room k o =
    let run = entries (told happenings rows) in
    is_rows cowns run rows k.few (well_rows cowns run (legal_of cowns rows happenings rooms row_room event_room k)) o k.rows_are
