-- A run beside the rows of its log: the events that are put to it, its end, and the rows of its record.
use Rattle.std.proofs.Common.{◌≡◌, ℕ, zero, suc, List, [], ◌∷◌, ◌++◌, length, map, refl, sym, ◌∙◌, ap, arith}
use Rattle.std.specs.Prelude.{slice_get, slice_set, Option, Some, None}
use Rattle.std.proofs.lemmas.List.{map-append, length-map}
use Rattle.boc_program.specs.declared.program.Program.{Program}
use Rattle.boc_runs.specs.declared.rows.Row.{Row}
use Rattle.boc_runs.specs.declared.event.Event.{Event}
use Rattle.boc_runs.specs.declared.event.Event.TheVariants.{Spawn, Start, End}
use Rattle.boc_runs.specs.Serial.{behaviour_of}
use Rattle.boc_program.specs.Changed.{changed}
use Rattle.boc_runs.specs.Lives.{Life, Pending, Running, Ended}
use Rattle.boc_runs.specs.Legal.{Entry, entries, after, after_all, pending, IsComplete}
use Rattle.boc_runs.specs.Records.{AreRowsOf}
use Rattle.boc_runs.specs.Run.{Member, Config, waiting, config_of, config_after, config_after_all, opening, members_after_spawn, started_on, MaySpawn}
use Rattle.boc_runs.specs.Run.{MayHappen, IsRunFrom, IsWholeRun}
use Rattle.boc_runs.specs.machine.AlongRows.{cowns_of_rows, parents_of_rows}
use Rattle.boc_machine_laws.proofs.Rows.{after_spawn, with_one_more}
use Rattle.boc_machine_laws.proofs.Counting.{map_changed}
use Rattle.std.proofs.lemmas.Option.{slice_get-map}

-- ---- what has become of the rows, in the log and in the run

abbrev entry_lives : List Entry → List Life
entry_lives rows = map (λ e. e.life) rows

abbrev member_lives : List Member → List Life
member_lives ms = map (λ m. m.life) ms

-- one item changed, of which f sees what it becomes
map_becomes_at : {A : Type 0} (f : A → Life) (g : A → A) (l : Life) → ((x : A) → f (g x) ≡ l)
    → (xs : List A) (i : ℕ) (o : Option A) → slice_get xs i ≡ o → map f (changed xs i g o) ≡ slice_set (map f xs) i l
map_becomes_at f g l same [] i None e = refl
map_becomes_at f g l same [] i (Some y) e = absurd (let h : None ≡ Some y = e in cc)
map_becomes_at f g l same (x ∷ xs) zero None e = absurd (let h : Some x ≡ None = e in cc)
map_becomes_at f g l same (x ∷ xs) zero (Some y) e = ap (λ z. z ∷ map f xs) (same y)
map_becomes_at f g l same (x ∷ xs) (suc i) None e = ap (λ zs. f x ∷ zs) (map_becomes_at f g l same xs i None e)
map_becomes_at f g l same (x ∷ xs) (suc i) (Some y) e = ap (λ zs. f x ∷ zs) (map_becomes_at f g l same xs i (Some y) e)

map_becomes : {A : Type 0} (f : A → Life) (g : A → A) (l : Life) → ((x : A) → f (g x) ≡ l) → (xs : List A) (i : ℕ)
    → map f (changed xs i g (slice_get xs i)) ≡ slice_set (map f xs) i l
map_becomes f g l same xs i = map_becomes_at f g l same xs i (slice_get xs i) refl

map_kept_at : (g : Member → Member) → ((m : Member) → (g m).life ≡ m.life)
    → (ms : List Member) (i : ℕ) (o : Option Member) → slice_get ms i ≡ o
    → member_lives (changed ms i g o) ≡ member_lives ms
map_kept_at g same [] i None e = refl
map_kept_at g same [] i (Some y) e = absurd (let h : None ≡ Some y = e in cc)
map_kept_at g same (x ∷ xs) zero None e = refl
map_kept_at g same (x ∷ xs) zero (Some y) e =
    (let h : x ≡ y = (let q : Some x ≡ Some y = e in cc) in
    ap (λ z. z ∷ member_lives xs) (same y ∙ ap (λ (m : Member). m.life) (sym h)))
map_kept_at g same (x ∷ xs) (suc i) None e = refl
map_kept_at g same (x ∷ xs) (suc i) (Some y) e = ap (λ zs. x.life ∷ zs) (map_kept_at g same xs i (Some y) e)

-- a spawn puts a pending row behind the others
spawned_lives : (p : Program) (ms : List Member) (parent offset : ℕ) (cowns : List ℕ)
    → MaySpawn p ms parent offset cowns → member_lives (members_after_spawn p ms parent)
    ≡ member_lives ms ++ (Pending ∷ [])
spawned_lives p [] parent offset cowns may = refl
spawned_lives p (m ∷ ms) parent offset cowns may =
    ap (map (λ (x : Member). x.life)) (after_spawn p (m ∷ ms) parent may.wish (omega arith) may.next)
    ∙ map-append (λ (x : Member). x.life) (changed (m ∷ ms) parent with_one_more (slice_get (m ∷ ms) parent))
    (waiting (behaviour_of may.wish) ∷ [])
    ∙ ap (λ zs. zs ++ (Pending ∷ [])) (map_kept_at with_one_more (λ x. refl) (m ∷ ms) parent
    (slice_get (m ∷ ms) parent) refl)

lives_next : (p : Program) (c : Config) (rows : List Entry) (e : Event) → entry_lives rows ≡ member_lives c.members
    → MayHappen p c e → entry_lives (after rows e) ≡ member_lives (config_after p c e).members
lives_next p c rows (Spawn row parent offset cowns) same may =
    map-append (λ (x : Entry). x.life) (changed rows parent (λ x. record x { last = offset }) (slice_get rows parent))
    (pending parent offset cowns.items ∷ [])
    ∙ ap (λ zs. zs ++ (Pending ∷ [])) (map_changed (λ x. x.life) rows parent (λ x. record x { last = offset })
    (λ x. refl) ∙ same)
    ∙ sym (spawned_lives p c.members parent offset cowns.items may.2)
lives_next p c rows (Start row) same may =
    map_becomes (λ (x : Entry). x.life) (λ x. record x { life = Running }) Running (λ x. refl) rows row
    ∙ ap (λ ls. slice_set ls row Running) same
    ∙ sym (map_becomes (λ (m : Member). m.life) (started_on c.values) Running (λ m. refl) c.members row)
lives_next p c rows (End row ticks status written) same may =
    map_becomes (λ (x : Entry). x.life) (λ x. record x {
      life = Ended;
      ticks = ticks;
      status = status;
      written =
          written.items;
    }) Ended (λ x. refl) rows row
    ∙ ap (λ ls. slice_set ls row Ended) same
    ∙ sym (map_becomes (λ (m : Member). m.life) (λ m. record m { life = Ended }) Ended (λ m. refl) c.members row)

lives_from : (p : Program) (c : Config) (rows : List Entry) (log : List Event)
    → entry_lives rows ≡ member_lives c.members → IsRunFrom p c log
    → entry_lives (after_all rows log) ≡ member_lives (config_after_all p c log).members
lives_from p c rows [] same run = same
lives_from p c rows (e ∷ log) same run = lives_from p (config_after p c e) (after rows e) log
    (lives_next p c rows e same run.0) run.1

-- a whole run is over by the rules of records too
pub whole_is_complete : (p : Program) (log : List Event) → IsWholeRun p log → IsComplete log
whole_is_complete p log whole =
    let ms = (config_of p log).members in
    let same : entry_lives (entries log) ≡ member_lives ms = lives_from p (opening p) [] log refl whole.run in
    let many : length (entries log) ≡ length ms = sym (length-map (entries log) (λ e. e.life))
    ∙ ap (length {A = Life}) same ∙ length-map ms (λ m. m.life) in
    record {
      some = omega (arith, many, whole.over.some);
      ended = λ r l. sym (slice_get-map (λ (e : Entry). e.life) (entries log) r) ∙ ap (λ ls. slice_get ls r) same
          ∙ slice_get-map (λ (m : Member). m.life) ms r ∙ whole.over.ended r (omega (arith, l, many));
    }

-- ---- the rows of a record

map_rows : {X : Type 0} (f : Entry → X) (g : Row → X) (es : List Entry) (rows : List Row) → length rows ≡ length es
    → ((r : ℕ) (e : Entry) (x : Row) → slice_get es r ≡ Some e → slice_get rows r ≡ Some x → g x ≡ f e)
    → map g rows ≡ map f es
map_rows f g [] [] l h = refl
map_rows f g [] (x ∷ rows) l h = absurd (omega (arith, l))
map_rows f g (e ∷ es) [] l h = absurd (omega (arith, l))
map_rows f g (e ∷ es) (x ∷ rows) l h = ap (λ z. z ∷ map g rows) (h 0 e x refl refl)
    ∙ ap (λ zs. f e ∷ zs) (map_rows f g es rows (omega (arith, l)) (λ r a b c d. h (suc r) a b c d))

pub record_cowns : (log : List Event) (rows : List Row) → AreRowsOf (entries log) rows
    → map (λ r. r.cowns.items) rows ≡ cowns_of_rows log
record_cowns log rows are = map_rows (λ e. e.cowns) (λ r. r.cowns.items) (entries log) rows are.all
    (λ r e x a b. (are.each r e x a b).cowns)

pub record_parents : (log : List Event) (rows : List Row) → AreRowsOf (entries log) rows
    → map (λ r. r.parent) rows ≡ parents_of_rows log
record_parents log rows are = map_rows (λ e. e.parent) (λ r. r.parent) (entries log) rows are.all
    (λ r e x a b. (are.each r e x a b).parent)
