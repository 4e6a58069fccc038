-- A run beside the serial run along its log, event by event.
use Rattle.std.proofs.Common.{◌≡◌, ℕ, ◌+◌, ◌<◌, List, [], ◌∷◌, ◌++◌, length, refl, sym, ◌∙◌, ap, subst, arith, ℤ, append-nil, append_assoc}
use Rattle.std.specs.Prelude.{slice_get, nat_eq, Some, None}
use Rattle.std.proofs.lemmas.List.Sums.{sum_by-append}
use Rattle.boc_program.specs.declared.program.Program.{Program}
use Rattle.boc_program.specs.Meaning.{Meaning}
use Rattle.boc_program.specs.Changed.{changed}
use Rattle.boc_program.proofs.ChangedItems.{place_below, length-changed}
use Rattle.boc_runs.specs.declared.event.Event.{Event}
use Rattle.boc_runs.specs.declared.event.Event.TheVariants.{Spawn, Start, End}
use Rattle.boc_runs.specs.Serial.{behaviour_of, main_behaviour, SerialRow, children, serial_along}
use Rattle.boc_runs.specs.Lives.{Running}
use Rattle.boc_runs.specs.Run.{Member, Config, waiting, meaning_of, wish_at, next_wish, members_after_spawn, config_after, opening}
use Rattle.boc_runs.specs.Run.{MaySpawn, SpawnsWish, MayHappen}
use Rattle.boc_runs.specs.machine.AlongRows.{parents_of_rows}
use Rattle.boc_runs.proofs.OwnOrders.{rows_done}
use Rattle.boc_machine_laws.proofs.Core.{one_if}
use Rattle.boc_machine_laws.proofs.Rows.{with_life, with_one_more, after_spawn}
use Rattle.boc_machine_laws.proofs.Outputs.{take_all_of}
use Rattle.boc_machine_laws.proofs.Twins.{rows_along, later, Follows, running_not_pending}
use Rattle.boc_machine_laws.proofs.SerialStart.{follows_start}
use Rattle.boc_machine_laws.proofs.SerialEnd.{means_same, follows_end}
use Rattle.boc_machine_laws.proofs.SerialSpawn.{follows_spawn, next_of_row, next_of_none, wish_means}
use Rattle.boc_machine_laws.proofs.Counting.{parents_spawned, parents_started, parents_ended}

-- who has children among the rows, with one row more
pub children_more : (rows : List SerialRow) (row : SerialRow) (r : ℕ) → 0 < length rows
    → children r (later (rows ++ (row ∷ []))) ≡ children r (later rows) + one_if (nat_eq row.parent r)
children_more [] row r h = absurd (omega arith)
children_more (main ∷ others) row r h = omega (arith, sum_by-append (λ x. one_if (nat_eq x.parent r)) others (row ∷ []))

no_members : (ms : List Member) → length ms ≡ 0 → ms ≡ []
no_members [] h = refl
no_members (m ∷ ms) h = absurd (omega (arith, h))

-- the parents of the rows after an event
abbrev pub parents_on : List ℕ → Event → List ℕ
parents_on ps (Spawn row parent offset cowns) = ps ++ (parent ∷ [])
parents_on ps (Start row) = ps
parents_on ps (End row ticks status written) = ps

spawn_first : (p : Program) (c : Config) (ps : List ℕ) (parent : ℕ) → Follows p c ps → length c.members ≡ 0
    → members_after_spawn p c.members parent ≡ waiting main_behaviour ∷ []
    → Follows p (record c { members = members_after_spawn p c.members parent }) (ps ++ (parent ∷ []))
spawn_first p c ps parent f none now =
    let same : changed c.members parent with_one_more (slice_get c.members parent) ++ (waiting main_behaviour ∷ [])
    ≡ waiting main_behaviour ∷ [] = ap (λ ms. ms ++ (waiting main_behaviour ∷ []))
    (no_members (changed c.members parent with_one_more (slice_get c.members parent))
    (length-changed c.members parent with_one_more (slice_get c.members parent) ∙ none)) in
    subst (λ ms. let d : Config = record c { members = ms } in Follows p d (ps ++ (parent ∷ []))) (same ∙ sym now)
    (follows_spawn p c ps f parent main_behaviour
    (next_of_none (rows_along p ps) parent (rows_done p ps ∙ f.same ∙ none))
    (λ h. absurd (omega (arith, h, f.same, none))))

spawn_later : (p : Program) (c : Config) (ps : List ℕ) (parent offset : ℕ) (cowns : List ℕ) → Follows p c ps
    → 0 < length c.members → SpawnsWish p c.members parent offset cowns
    → Follows p (record c { members = members_after_spawn p c.members parent }) (ps ++ (parent ∷ []))
spawn_later p c ps parent offset cowns f some s =
    let x = with_life c.members parent Running s.runs in
    let t = f.twins parent x.0 x.1 in
    let next : wish_at (meaning_of p x.0) x.0.spawned ≡ Some s.wish = sym (ap (next_wish p) x.1) ∙ s.next in
    let m = wish_means (meaning_of p x.0) x.0.spawned s.wish next in
    let same : t.row.means ≡ m.0 = means_same p ps parent x.0 m.0 t (running_not_pending x.0.life x.2) m.1 in
    let wished : slice_get t.row.means.wishes (children parent (later (rows_along p ps))) ≡ Some s.wish =
    ap (λ (z : Meaning). slice_get z.wishes (children parent (later (rows_along p ps)))) same
    ∙ ap (slice_get m.0.wishes) (sym t.spawned_is) ∙ m.2 in
    subst (λ ms. let d : Config = record c { members = ms } in Follows p d (ps ++ (parent ∷ [])))
    (sym (after_spawn p c.members parent s.wish some s.next))
    (follows_spawn p c ps f parent (behaviour_of s.wish)
    (next_of_row (rows_along p ps) parent t.row s.wish t.is wished)
    (λ h. omega (arith, place_below c.members parent x.0 x.1, f.same)))

spawn_any : (p : Program) (ms : List Member) (values : List ℤ) (ps : List ℕ) (parent offset : ℕ) (cowns : List ℕ)
    → Follows p (record { members = ms; values = values }) ps → MaySpawn p ms parent offset cowns
    → Follows p (record { members = members_after_spawn p ms parent; values = values }) (ps ++ (parent ∷ []))
spawn_any p [] values ps parent offset cowns f may =
    spawn_first p (record { members = []; values = values }) ps parent f refl refl
spawn_any p (m ∷ ms) values ps parent offset cowns f may =
    spawn_later p (record { members = m ∷ ms; values = values }) ps parent offset cowns f (omega arith) may

-- an event that is allowed keeps a run beside the serial run
pub follows_next : (p : Program) (c : Config) (ps : List ℕ) (e : Event) → Follows p c ps → MayHappen p c e
    → Follows p (config_after p c e) (parents_on ps e)
follows_next p c ps (Spawn row parent offset cowns) f may =
    spawn_any p c.members c.values ps parent offset cowns.items f may.2
follows_next p c ps (Start row) f may = follows_start p c ps f row may
follows_next p c ps (End row ticks status written) f may = follows_end p c ps f row ticks status written.items may

-- the parents of the rows after further events
abbrev pub parents_after : List ℕ → List Event → List ℕ
parents_after ps [] = ps
parents_after ps (e ∷ log) = parents_after (parents_on ps e) log

pub parents_one : (log : List Event) (e : Event) → parents_of_rows (log ++ (e ∷ [])) ≡ parents_on (parents_of_rows log) e
parents_one log (Spawn row parent offset cowns) = parents_spawned log row parent offset cowns
parents_one log (Start row) = parents_started log row
parents_one log (End row ticks status written) = parents_ended log row ticks status written

parents_from : (log more : List Event) → parents_of_rows (log ++ more) ≡ parents_after (parents_of_rows log) more
parents_from log [] = ap parents_of_rows (append-nil log)
parents_from log (e ∷ more) = ap parents_of_rows (sym (append_assoc log (e ∷ []) more))
    ∙ parents_from (log ++ (e ∷ [])) more ∙ ap (λ ps. parents_after ps more) (parents_one log e)

-- the parents of the rows of a log
pub parents_are : (log : List Event) → parents_of_rows log ≡ parents_after [] log
parents_are log = parents_from [] log

-- before the first event
pub none_yet : (p : Program) → Follows p (opening p) []
none_yet p = record {
  same = refl;
  twins = λ r m e. absurd (let g : None ≡ Some m = e in cc);
  childless = λ r h. refl;
  ordered = λ a b m n e. absurd (let g : None ≡ Some m = e in cc);
  values_are = λ d n over not_over. ap (λ qs. slice_get (serial_along p qs).values d)
      (sym (take_all_of n [] (omega arith)));
  many = refl;
}
