-- A whole run beside the serial run along the rows of its log: each behaviour has started on the inputs that it has there.
use Rattle.std.proofs.Common.{◌≡◌, ◌∙◌, ℕ, ◌<◌, List, [], ◌∷◌, ◌++◌, length, refl, sym, ap, subst, arith}
use Rattle.std.specs.Prelude.{slice_get, Some, None}
use Rattle.boc_program.specs.declared.program.Program.{Program}
use Rattle.boc_program.specs.Meaning.{Meaning}
use Rattle.boc_program.specs.Changed.{changed}
use Rattle.boc_program.proofs.ChangedItems.{place_below, length-changed}
use Rattle.boc_runs.specs.declared.event.Event.{Event}
use Rattle.boc_runs.specs.declared.event.Event.TheVariants.{Spawn, Start, End}
use Rattle.boc_runs.specs.Lives.{Running}
use Rattle.boc_runs.specs.Run.{Member, Config, waiting, meaning_of, wish_at, next_wish, members_after_spawn, config_after, config_after_all, config_of, opening}
use Rattle.boc_runs.specs.Run.{MaySpawn, SpawnsWish, MayHappen, IsRunFrom, IsRun}
use Rattle.boc_runs.specs.Serial.{behaviour_of, main_behaviour, children, serial_along}
use Rattle.boc_runs.proofs.OwnOrders.{rows_done}
use Rattle.boc_machine_laws.proofs.Outputs.{take_all_of}
use Rattle.boc_machine_laws.proofs.Rows.{with_life, with_one_more, after_spawn}
use Rattle.boc_machine_laws.proofs.SerialEnd.{means_same, follows_end}
use Rattle.boc_machine_laws.proofs.SerialSpawn.{follows_spawn, next_of_row, next_of_none, wish_means}
use Rattle.boc_machine_laws.proofs.SerialStart.{follows_start}
use Rattle.boc_machine_laws.proofs.Twins.{Follows, later, rows_along, running_not_pending}

no_members : (ms : List Member) → length ms ≡ 0 → ms ≡ []
no_members [] h = refl
no_members (m ∷ ms) h = absurd (omega (arith, h))

-- the parents of the rows after an event
abbrev pub parents_on : List ℕ → Event → List ℕ
parents_on ps (Spawn row parent offset cowns) = ps ++ (parent ∷ [])
parents_on ps (Start row) = ps
parents_on ps (End row ticks status written) = ps

-- and after further events
abbrev pub parents_after : List ℕ → List Event → List ℕ
parents_after ps [] = ps
parents_after ps (e ∷ log) = parents_after (parents_on ps e) log

spawn_first : (p : Program) (c : Config) (ps : List ℕ) (parent : ℕ) → Follows p c ps → length c.members ≡ 0
    → members_after_spawn p c.members parent ≡ waiting main_behaviour ∷ []
    → Follows p (record c { members = members_after_spawn p c.members parent }) (ps ++ (parent ∷ []))
spawn_first p c ps parent f none now =
    let same : changed c.members parent with_one_more (slice_get c.members parent) ++ (waiting main_behaviour ∷ [])
    ≡ waiting main_behaviour ∷ [] = ap (λ ms. ms ++ (waiting main_behaviour ∷ []))
    (no_members (changed c.members parent with_one_more (slice_get c.members parent))
    (length-changed c.members parent with_one_more (slice_get c.members parent) ∙ none)) in
    subst (λ ms. let d : Config = record c { members = ms } in Follows p d (ps ++ (parent ∷ []))) (same ∙ sym now)
    (follows_spawn p c ps f parent main_behaviour
    (next_of_none (rows_along p ps) parent (rows_done p ps ∙ f.same ∙ none))
    (λ h. absurd (omega (arith, h, f.same, none))))

spawn_later : (p : Program) (c : Config) (ps : List ℕ) (parent offset : ℕ) (cowns : List ℕ) → Follows p c ps
    → 0 < length c.members → SpawnsWish p c.members parent offset cowns
    → Follows p (record c { members = members_after_spawn p c.members parent }) (ps ++ (parent ∷ []))
spawn_later p c ps parent offset cowns f some s =
    let x = with_life c.members parent Running s.runs in
    let t = f.twins parent x.0 x.1 in
    let next : wish_at (meaning_of p x.0) x.0.spawned ≡ Some s.wish = sym (ap (next_wish p) x.1) ∙ s.next in
    let m = wish_means (meaning_of p x.0) x.0.spawned s.wish next in
    let same : t.row.means ≡ m.0 = means_same p ps parent x.0 m.0 t (running_not_pending x.0.life x.2) m.1 in
    let wished : slice_get t.row.means.wishes (children parent (later (rows_along p ps))) ≡ Some s.wish =
    ap (λ (z : Meaning). slice_get z.wishes (children parent (later (rows_along p ps)))) same
    ∙ ap (slice_get m.0.wishes) (sym t.spawned_is) ∙ m.2 in
    subst (λ ms. let d : Config = record c { members = ms } in Follows p d (ps ++ (parent ∷ [])))
    (sym (after_spawn p c.members parent s.wish some s.next))
    (follows_spawn p c ps f parent (behaviour_of s.wish)
    (next_of_row (rows_along p ps) parent t.row s.wish t.is wished)
    (λ h. omega (arith, place_below c.members parent x.0 x.1, f.same)))

spawn_any : (p : Program) (c : Config) (ms : List Member) (ps : List ℕ) (parent offset : ℕ) (cowns : List ℕ) → c.members ≡ ms
    → Follows p c ps → MaySpawn p ms parent offset cowns
    → Follows p (record c { members = members_after_spawn p c.members parent }) (ps ++ (parent ∷ []))
spawn_any p c [] ps parent offset cowns is f may =
    spawn_first p c ps parent f (ap (length {A = Member}) is) (ap (λ ms. members_after_spawn p ms parent) is)
spawn_any p c (m ∷ ms) ps parent offset cowns is f may =
    spawn_later p c ps parent offset cowns f (let many = ap (length {A = Member}) is in omega (arith, many))
    (subst (λ xs. SpawnsWish p xs parent offset cowns) (sym is) may)

follows_next : (p : Program) (c : Config) (ps : List ℕ) (e : Event) → Follows p c ps → MayHappen p c e
    → Follows p (config_after p c e) (parents_on ps e)
follows_next p c ps (Spawn row parent offset cowns) f may = spawn_any p c c.members ps parent offset cowns.items refl f may.2
follows_next p c ps (Start row) f may = follows_start p c ps f row may
follows_next p c ps (End row ticks status written) f may = follows_end p c ps f row ticks status written.items may

follows_all : (p : Program) (c : Config) (ps : List ℕ) (log : List Event) → Follows p c ps → IsRunFrom p c log
    → Follows p (config_after_all p c log) (parents_after ps log)
follows_all p c ps [] f run = f
follows_all p c ps (e ∷ log) f run = follows_all p (config_after p c e) (parents_on ps e) log (follows_next p c ps e f run.0) run.1

none_yet : (p : Program) → Follows p (opening p) []
none_yet p = record {
  same = refl;
  twins = λ r m e. absurd (let g : None ≡ Some m = e in cc);
  childless = λ r h. refl;
  ordered = λ a b m n e. absurd (let g : None ≡ Some m = e in cc);
  values_are = λ d n over not_over. ap (λ qs. slice_get (serial_along p qs).values d) (sym (take_all_of n [] (omega arith)));
  many = refl;
}

-- a run follows the serial run along its rows
pub follows : (p : Program) (log : List Event) → IsRun p log → Follows p (config_of p log) (parents_after [] log)
follows p log run = follows_all p (opening p) [] log (none_yet p) run
