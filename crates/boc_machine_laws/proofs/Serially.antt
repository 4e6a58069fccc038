-- Each row of a run that ends does so as in the serial run along the rows of its log, and the values at the end are
-- those there.
use Rattle.std.proofs.Common.{◌≡◌, ℕ, ◌<◌, List, [], ◌∷◌, ◌++◌, length, refl, sym, ◌∙◌, ap, subst, arith, ℤ, append-nil, append_assoc}
use Rattle.std.specs.Prelude.{slice_get, Some, None}
use Rattle.std.proofs.lemmas.List.{length-map}
use Rattle.arrayvec.specs.ArrayVec.{ArrayVec}
use Rattle.boc_program.specs.declared.body.EndStatus.{EndStatus}
use Rattle.boc_program.specs.declared.program.Program.{Program}
use Rattle.boc_runs.specs.declared.event.Event.{Event}
use Rattle.boc_runs.specs.declared.event.Event.TheVariants.{Spawn, Start, End}
use Rattle.boc_program.specs.Meaning.{Meaning}
use Rattle.boc_runs.specs.Serial.{behaviour_of, main_behaviour, SerialRow, Serial, children, next_behaviour, run_at_once, serial_along}
use Rattle.boc_program.specs.Changed.{changed}
use Rattle.boc_runs.specs.Lives.{Running, Ended}
use Rattle.boc_runs.specs.Run.{Member, Config, waiting, meaning_of, wish_at, next_wish, members_after_spawn, config_after, config_after_all, config_of, opening}
use Rattle.boc_runs.specs.Run.{MaySpawn, SpawnsWish, MayHappen, IsRunFrom, IsRun, IsWholeRun}
use Rattle.boc_program.proofs.ChangedItems.{place_below, front_item, length-changed}
use Rattle.boc_runs.proofs.OwnOrders.{along_more, rows_done}
use Rattle.boc_machine_laws.proofs.Rows.{with_life, life_there, with_one_more, after_spawn}
use Rattle.boc_machine_laws.proofs.Outputs.{same_items, take_all_of}
use Rattle.boc_machine_laws.proofs.Twins.{rows_along, later, before_length, Follows, running_not_pending}
use Rattle.boc_runs.specs.Legal.{entries, after}
use Rattle.boc_runs.specs.machine.AlongRows.{parents_of_rows, serial_of_log, EndedSo, EndsSerially}
use Rattle.boc_machine_laws.proofs.SerialStart.{follows_start}
use Rattle.boc_machine_laws.proofs.SerialEnd.{means_same, follows_end, mine, meant}
use Rattle.boc_machine_laws.proofs.SerialSpawn.{follows_spawn, next_of_row, next_of_none, wish_means}
use Rattle.boc_machine_laws.proofs.Counting.{parents_spawned, parents_started, parents_ended}

no_members : (ms : List Member) → length ms ≡ 0 → ms ≡ []
no_members [] h = refl
no_members (m ∷ ms) h = absurd (omega (arith, h))

-- ---- one event more

-- the parents of the rows after an event
abbrev parents_on : List ℕ → Event → List ℕ
parents_on ps (Spawn row parent offset cowns) = ps ++ (parent ∷ [])
parents_on ps (Start row) = ps
parents_on ps (End row ticks status written) = ps

spawn_first : (p : Program) (c : Config) (ps : List ℕ) (parent : ℕ) → Follows p c ps → length c.members ≡ 0
    → members_after_spawn p c.members parent ≡ waiting main_behaviour ∷ []
    → Follows p (record c { members = members_after_spawn p c.members parent }) (ps ++ (parent ∷ []))
spawn_first p c ps parent f none now =
    let same : changed c.members parent with_one_more (slice_get c.members parent) ++ (waiting main_behaviour ∷ [])
    ≡ waiting main_behaviour ∷ [] = ap (λ ms. ms ++ (waiting main_behaviour ∷ []))
    (no_members (changed c.members parent with_one_more (slice_get c.members parent))
    (length-changed c.members parent with_one_more (slice_get c.members parent) ∙ none)) in
    subst (λ ms. let d : Config = record c { members = ms } in Follows p d (ps ++ (parent ∷ []))) (same ∙ sym now)
    (follows_spawn p c ps f parent main_behaviour
    (next_of_none (rows_along p ps) parent (rows_done p ps ∙ f.same ∙ none))
    (λ h. absurd (omega (arith, h, f.same, none))))

spawn_later : (p : Program) (c : Config) (ps : List ℕ) (parent offset : ℕ) (cowns : List ℕ) → Follows p c ps
    → 0 < length c.members → SpawnsWish p c.members parent offset cowns
    → Follows p (record c { members = members_after_spawn p c.members parent }) (ps ++ (parent ∷ []))
spawn_later p c ps parent offset cowns f some s =
    let x = with_life c.members parent Running s.runs in
    let t = f.twins parent x.0 x.1 in
    let next : wish_at (meaning_of p x.0) x.0.spawned ≡ Some s.wish = sym (ap (next_wish p) x.1) ∙ s.next in
    let m = wish_means (meaning_of p x.0) x.0.spawned s.wish next in
    let same : t.row.means ≡ m.0 = means_same p ps parent x.0 m.0 t (running_not_pending x.0.life x.2) m.1 in
    let wished : slice_get t.row.means.wishes (children parent (later (rows_along p ps))) ≡ Some s.wish =
    ap (λ (z : Meaning). slice_get z.wishes (children parent (later (rows_along p ps)))) same
    ∙ ap (slice_get m.0.wishes) (sym t.spawned_is) ∙ m.2 in
    subst (λ ms. let d : Config = record c { members = ms } in Follows p d (ps ++ (parent ∷ [])))
    (sym (after_spawn p c.members parent s.wish some s.next))
    (follows_spawn p c ps f parent (behaviour_of s.wish)
    (next_of_row (rows_along p ps) parent t.row s.wish t.is wished)
    (λ h. omega (arith, place_below c.members parent x.0 x.1, f.same)))

spawn_any : (p : Program) (ms : List Member) (values : List ℤ) (ps : List ℕ) (parent offset : ℕ) (cowns : List ℕ)
    → Follows p (record { members = ms; values = values }) ps → MaySpawn p ms parent offset cowns
    → Follows p (record { members = members_after_spawn p ms parent; values = values }) (ps ++ (parent ∷ []))
spawn_any p [] values ps parent offset cowns f may =
    spawn_first p (record { members = []; values = values }) ps parent f refl refl
spawn_any p (m ∷ ms) values ps parent offset cowns f may =
    spawn_later p (record { members = m ∷ ms; values = values }) ps parent offset cowns f (omega arith) may

follows_next : (p : Program) (c : Config) (ps : List ℕ) (e : Event) → Follows p c ps → MayHappen p c e
    → Follows p (config_after p c e) (parents_on ps e)
follows_next p c ps (Spawn row parent offset cowns) f may =
    spawn_any p c.members c.values ps parent offset cowns.items f may.2
follows_next p c ps (Start row) f may = follows_start p c ps f row may
follows_next p c ps (End row ticks status written) f may = follows_end p c ps f row ticks status written.items may

-- ---- all events

-- the parents of the rows after further events
abbrev parents_after : List ℕ → List Event → List ℕ
parents_after ps [] = ps
parents_after ps (e ∷ log) = parents_after (parents_on ps e) log

follows_all : (p : Program) (c : Config) (ps : List ℕ) (log : List Event) → Follows p c ps → IsRunFrom p c log
    → Follows p (config_after_all p c log) (parents_after ps log)
follows_all p c ps [] f run = f
follows_all p c ps (e ∷ log) f run = follows_all p (config_after p c e) (parents_on ps e) log
    (follows_next p c ps e f run.0) run.1

parents_one : (log : List Event) (e : Event) → parents_of_rows (log ++ (e ∷ [])) ≡ parents_on (parents_of_rows log) e
parents_one log (Spawn row parent offset cowns) = parents_spawned log row parent offset cowns
parents_one log (Start row) = parents_started log row
parents_one log (End row ticks status written) = parents_ended log row ticks status written

-- the parents of the rows of a log
parents_from : (log more : List Event) → parents_of_rows (log ++ more) ≡ parents_after (parents_of_rows log) more
parents_from log [] = ap parents_of_rows (append-nil log)
parents_from log (e ∷ more) = ap parents_of_rows (sym (append_assoc log (e ∷ []) more))
    ∙ parents_from (log ++ (e ∷ [])) more ∙ ap (λ ps. parents_after ps more) (parents_one log e)

pub parents_are : (log : List Event) → parents_of_rows log ≡ parents_after [] log
parents_are log = parents_from [] log

-- a row of the serial run stays as it is with further rows
row_on : (p : Program) (ps : List ℕ) (e : Event) (r : ℕ) (x : SerialRow) → slice_get (rows_along p ps) r ≡ Some x
    → slice_get (rows_along p (parents_on ps e)) r ≡ Some x
row_on p ps (Spawn row parent offset cowns) r x is =
    ap (λ (s : Serial). slice_get s.rows r) (along_more p (serial_along p []) ps parent)
    ∙ front_item (rows_along p ps) (run_at_once p (serial_along p ps).values parent
    (next_behaviour (rows_along p ps) parent)) r (place_below (rows_along p ps) r x is) ∙ is
row_on p ps (Start row) r x is = is
row_on p ps (End row ticks status written) r x is = is

row_stays : (p : Program) (ps : List ℕ) (log : List Event) (r : ℕ) (x : SerialRow)
    → slice_get (rows_along p ps) r ≡ Some x → slice_get (rows_along p (parents_after ps log)) r ≡ Some x
row_stays p ps [] r x is = is
row_stays p ps (e ∷ log) r x is = row_stays p (parents_on ps e) log r x (row_on p ps e r x is)

ends_from : (p : Program) (c : Config) (ps : List ℕ) (before after : List Event) (row ticks : ℕ) (status : EndStatus)
    (written : ArrayVec ℕ) → Follows p c ps → IsRunFrom p c (before ++ End row ticks status written ∷ after)
    → EndedSo (rows_along p (parents_after ps
    (before ++ End row ticks status written ∷ after))) row ticks status written.items
ends_from p c ps [] after row ticks status written f run =
    let can = run.0 in
    let t = mine p c ps f row ticks status written.items can in
    let same : t.row.means ≡ can.means = meant p c ps f row ticks status written.items can in
    record {
      serial = t.row;
      is = row_stays p ps after row t.row t.is;
      ticks_are = can.ticks_are ∙ ap (λ (m : Meaning). m.ticks) (sym same);
      status_is = can.status_is ∙ ap (λ (m : Meaning). m.status) (sym same);
      written_are = can.written_is ∙ ap (λ (m : Meaning). m.written) (sym same);
    }
ends_from p c ps (e ∷ before) after row ticks status written f run =
    ends_from p (config_after p c e) (parents_on ps e) before after row ticks status written
    (follows_next p c ps e f run.0) run.1

-- ---- the laws

none_yet : (p : Program) → Follows p (opening p) []
none_yet p = record {
  same = refl;
  twins = λ r m e. absurd (let g : None ≡ Some m = e in cc);
  childless = λ r h. refl;
  ordered = λ a b m n e. absurd (let g : None ≡ Some m = e in cc);
  values_are = λ d n over not_over. ap (λ qs. slice_get (serial_along p qs).values d)
      (sym (take_all_of n [] (omega arith)));
  many = refl;
}

pub ends_serially : (p : Program) (log : List Event) → IsRun p log → EndsSerially p log
ends_serially p log run before after row ticks status written split =
    subst (λ ps. EndedSo (rows_along p ps) row ticks status written.items)
    (sym (ap parents_of_rows split ∙ parents_are (before ++ End row ticks status written ∷ after)))
    (ends_from p (opening p) [] before after row ticks status written (none_yet p) (subst (IsRun p) split run))

pub values_at_end : (p : Program) (log : List Event) → IsWholeRun p log
    → (config_of p log).values ≡ (serial_of_log p log).values
values_at_end p log whole =
    let c = config_of p log in
    let ps = parents_after [] log in
    let f = follows_all p (opening p) [] log (none_yet p) whole.run in
    let over : (r : ℕ) (m : Member) → slice_get c.members r ≡ Some m
    → m.life ≡ Ended = λ r m e. let l : Some m.life ≡ Some Ended = sym (life_there c.members r m e)
    ∙ whole.over.ended r (place_below c.members r m e) in cc in
    same_items c.values (serial_along p ps).values
    (f.many ∙ sym (ap (λ qs. length (serial_along p qs).values) (sym (take_all_of (length ps) ps (omega arith)))
    ∙ before_length p ps (length ps)))
    (λ d. f.values_are d (length ps) (λ r m e h l. over r m e)
    (λ r m e h l z. omega (arith, l, place_below c.members r m e, f.same))
    ∙ ap (λ qs. slice_get (serial_along p qs).values d) (take_all_of (length ps) ps (omega arith)))
    ∙ ap (λ qs. (serial_along p qs).values) (sym (parents_are log))

-- there are as many rows of the log as of the run
pub rows_are_members : (p : Program) (log : List Event) → IsRun p log
    → length (entries log) ≡ length (config_of p log).members
rows_are_members p log run =
    sym (length-map (entries log) (λ e. e.parent)) ∙ ap (length {A = ℕ}) (parents_are log)
    ∙ (follows_all p (opening p) [] log (none_yet p) run).same
