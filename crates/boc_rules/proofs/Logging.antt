-- A log stays that of its run, with room for the events of all rows.
use Rattle.std.proofs.Common.{◌≡◌, ℕ, ◌+◌, ◌*◌, ◌<◌, ◌≤◌, List, [], ◌∷◌, ◌++◌, length, sym, ◌∙◌, ap, subst, arith, length-append}
use Rattle.std.specs.Prelude.{slice_get}
use Rattle.std.proofs.lemmas.Option.{slice_get_within}
use Rattle.boc_program.specs.declared.limits.TheConstants.{MOST_ROWS}
use Rattle.boc_runs.specs.declared.event.Event.{Event}
use Rattle.boc_runs.specs.declared.event.Event.TheVariants.{Spawn, Start, End}
use Rattle.boc_runs.specs.declared.event.BrokenRule.TheVariants as rules
use Rattle.boc_runs.specs.declared.events.Happening.{Happening}
use Rattle.boc_runs.specs.declared.rows.Row.{Row}
use Rattle.boc_runs.specs.Happenings.{happening_of, row_in, told}
use Rattle.boc_runs.specs.Lives as lives
use Rattle.boc_program.specs.Changed.{changed}
use Rattle.boc_runs.specs.Lives.{MayStart}
use Rattle.boc_runs.specs.Legal.{Entry, entries, pending, after, life_of, entry_cowns, MayEnd, IsAllowed, IsLegal, IsComplete}
use Rattle.boc_runs.specs.Records.{AreRowsOf, Recorded, IsRecord}
use Rattle.boc_rules.specs.Log.{HasRoomFor, rooms_after}
use Rattle.boc_rules.specs.Course.{Course, IsOver, stepped}
use Rattle.boc_rules.specs.Logged.{told_of, IsLogged}
use Rattle.boc_rules.proofs.Next.{after_more, legal_more, living, well_log}
use Rattle.boc_rules.proofs.Events.{counted, start_left, end_left}
use Rattle.boc_rules.proofs.Telling.{told_more, happened_more, told_length, told_rows}
use Rattle.boc_program.proofs.ChangedItems.{length-changed}

-- an event that the log allows is allowed by the rows
allowed_of : (course : Course) (happenings : List Happening) (room : ℕ) (event : Event) → IsLogged course happenings room
    → IsAllowed course.cowns (entries (told_of course.rows happenings)) event → IsAllowed course.cowns course.rows event
allowed_of course happenings room event k a = subst (λ (rows : List Entry). IsAllowed course.cowns rows event) (sym k.rows_are) a

-- One more event has room.
pub room_left : (course : Course) (happenings : List Happening) (room : ℕ) (event : Event) → IsLogged course happenings room
    → IsAllowed course.cowns (entries (told_of course.rows happenings)) event → HasRoomFor course.rooms event → length happenings < room
room_left course happenings room (Spawn row parent offset cowns) k a has =
    let log = told_of course.rows happenings in
    omega (arith, counted course.cowns log k.legal, told_length course.rows happenings, ap length k.rows_are, k.roomy, has)
room_left course happenings room (Start row) k a has =
    let log = told_of course.rows happenings in
    omega (arith, start_left course.cowns log row k.legal a, told_length course.rows happenings, ap length k.rows_are, k.roomy)
room_left course happenings room (End row ticks status written) k a has =
    let log = told_of course.rows happenings in
    omega (arith, end_left course.cowns log row ticks status written k.legal a, told_length course.rows happenings, ap length k.rows_are, k.roomy)

-- a log has three events for each row at most
pub few_events : (course : Course) (happenings : List Happening) (room : ℕ) → IsLogged course happenings room → length happenings ≤ 3 * length course.rows
few_events course happenings room k =
    omega (arith, counted course.cowns (told_of course.rows happenings) k.legal, told_length course.rows happenings, ap length k.rows_are)

-- the number of its row has 16 bits
pub row_few : (count : ℕ) (log : List Event) (event : Event) → IsLegal count log → IsAllowed count (entries log) event → row_in event < MOST_ROWS
row_few count log (Spawn row parent offset cowns) l a = a.keeps rules.TooMany
row_few count log (Start row) l a =
    let may : MayStart (life_of (entries log)) (entry_cowns (entries log)) row = a.keeps rules.StartNotAllowed in
    let e = living (entries log) row lives.Pending may.waits in
    omega (arith, slice_get_within (entries log) row e.0 e.1, (well_log count log l).few)
row_few count log (End row ticks status written) l a =
    let may : MayEnd (entries log) row ticks written.items = a.keeps rules.EndNotAllowed in
    let e = living (entries log) row lives.Running may.runs in
    omega (arith, slice_get_within (entries log) row e.0 e.1, (well_log count log l).few)

pub numbered : (course : Course) (happenings : List Happening) (room : ℕ) (event : Event) → IsLogged course happenings room
    → IsAllowed course.cowns (entries (told_of course.rows happenings)) event → row_in event < MOST_ROWS
numbered course happenings room event k a = row_few course.cowns (told_of course.rows happenings) event k.legal a

-- the rows of an event and the rooms that are left are as many as before
pub rooms_stay : (rows : List Entry) (rooms : ℕ) (event : Event) → HasRoomFor rooms event
    → length (after rows event) + rooms_after rooms event ≡ length rows + rooms
rooms_stay rows rooms (Spawn row parent offset cowns) has =
    let first = changed rows parent (λ e. record e { last = offset }) (slice_get rows parent) in
    omega (
      arith,
      length-append first (pending parent offset cowns.items ∷ []),
      length-changed rows parent (λ (e : Entry). record e { last = offset })
          (slice_get rows parent),
      has,
    )
rooms_stay rows rooms (Start row) has = ap (λ n. n + rooms) (length-changed rows row (λ (e : Entry). record e { life = lives.Running }) (slice_get rows row))
rooms_stay rows rooms (End row ticks status written) has =
    ap (λ n. n + rooms) (length-changed rows row (λ (e : Entry). record e { life = lives.Ended; ticks = ticks; status = status; written = written.items })
    (slice_get rows row))

-- the log goes on by the event
pub log_more : (course : Course) (happenings : List Happening) (room : ℕ) (event : Event) → IsLogged course happenings room
    → IsAllowed course.cowns (entries (told_of course.rows happenings)) event
    → told_of (after course.rows event) (happenings ++ (happening_of event ∷ [])) ≡ told_of course.rows happenings ++ (event ∷ [])
log_more course happenings room event k a = told_more course.cowns course.rows happenings event k.happened (allowed_of course happenings room event k a)

-- the log goes on with the run
pub logged_more : (course : Course) (happenings : List Happening) (room : ℕ) (event : Event) → IsLogged course happenings room
    → IsAllowed course.cowns (entries (told_of course.rows happenings)) event → HasRoomFor course.rooms event
    → IsLogged (stepped course event) (happenings ++ (happening_of event ∷ [])) room
logged_more course happenings room event k a has =
    let log = told_of course.rows happenings in
    let goes_on = log_more course happenings room event k a in record {
      few = k.few;
      happened = happened_more course.cowns course.rows happenings event k.happened (allowed_of course happenings room event k a);
      legal = subst (IsLegal course.cowns) (sym goes_on) (legal_more course.cowns [] log event k.legal a);
      rows_are = ap (λ (r : List Entry). after r event) k.rows_are ∙ sym (after_more [] log event) ∙ ap entries (sym goes_on);
      roomy = omega (arith, rooms_stay course.rows course.rooms event has, k.roomy);
    }

-- the log of a run that is over is complete
pub complete_of : (course : Course) (happenings : List Happening) (room : ℕ) → IsLogged course happenings room → IsOver course.rows
    → IsComplete (told_of course.rows happenings)
complete_of course happenings room k over = subst IsOver k.rows_are over

-- and with its rows it is a record
pub record_of : (course : Course) (happenings : List Happening) (room : ℕ) (rows : List Row) → IsLogged course happenings room → AreRowsOf course.rows rows
    → IsOver course.rows
    → IsRecord (record { cowns = course.cowns; events = told happenings rows; rows = rows })
record_of course happenings room rows k are over =
    let same = told_rows course.rows rows happenings are in record {
      few = k.few;
      legal = subst (IsLegal course.cowns) (sym same) k.legal;
      complete = subst IsComplete (sym same) (complete_of course happenings room k over);
      rows_are = subst (λ (run : List Entry). AreRowsOf run rows) (k.rows_are ∙ ap entries (sym same)) are;
    }

-- a record by its parts
pub recorded_as : (r : Recorded) (cowns : ℕ) (events : List Event) (rows : List Row) → r.cowns ≡ cowns → r.events ≡ events → r.rows ≡ rows
    → IsRecord (record { cowns = cowns; events = events; rows = rows }) → IsRecord r
recorded_as r cowns events rows e f g is =
    subst (λ (x : ℕ). IsRecord (record { cowns = x; events = r.events; rows = r.rows })) (sym e)
    (subst (λ (x : List Event). IsRecord (record { cowns = cowns; events = x; rows = r.rows })) (sym f)
    (subst (λ (x : List Row). IsRecord (record { cowns = cowns; events = events; rows = x })) (sym g) is))
