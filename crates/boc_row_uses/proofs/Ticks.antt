-- A row of a log that has ended has the ticks that the behaviour of the run means.
use Rattle.std.proofs.Common.{◌≡◌, ◌∙◌, ℕ, zero, suc, ◌+◌, List, [], ◌∷◌, ◌++◌, length, refl, sym, ap, subst, inl, inr, arith, length-append}
use Rattle.std.specs.Prelude.{slice_get, Some, None}
use Rattle.boc_program.specs.declared.program.Program.{Program}
use Rattle.boc_program.specs.declared.body.EndStatus.{EndStatus}
use Rattle.boc_program.specs.declared.short.Input.{Input}
use Rattle.boc_program.specs.Changed.{changed}
use Rattle.boc_program.specs.Meaning.{Meaning}
use Rattle.boc_program.proofs.ChangedItems.{length-changed}
use Rattle.boc_runs.specs.declared.event.Event.{Event}
use Rattle.boc_runs.specs.declared.event.Event.TheVariants.{Spawn, Start, End}
use Rattle.boc_runs.specs.Legal.{Entry, after, after_all, entries, pending}
use Rattle.boc_runs.specs.Lives.{Life, Pending, Running, Ended}
use Rattle.boc_runs.specs.Serial.{Behaviour, behaviour_of, main_behaviour}
use Rattle.boc_runs.specs.Run.{Member, Config, CanEnd, MayHappen, MaySpawn, IsRun, IsRunFrom, config_after, config_after_all, config_of, meaning_of}
use Rattle.boc_runs.specs.Run.{members_after_spawn, opening, started_on, waiting}
use Rattle.boc_machine_laws.proofs.Rows.{after_spawn, changed_later, changed_other, changed_same, with_one_more}
use Rattle.boc_machine_laws.proofs.Twins.{mapped, read_changed, read_more}

-- where a row has ended, its ticks are those that its behaviour means
pub record HaveTicks (p : Program) (ms : List Member) (es : List Entry) : Type 0 where
  pub same : length es ≡ length ms
  pub ticks_are : (r : ℕ) (m : Member) (e : Entry) (means : Meaning) → slice_get ms r ≡ Some m → slice_get es r ≡ Some e → m.life ≡ Ended
      → meaning_of p m ≡ Some means → e.ticks ≡ means.ticks

-- ---- one item changed, or one more

-- an item of a list with one changed is like the one that was there, as far as the change keeps it
kept : {A B : Type 0} (g : A → B) (f : A → A) → ((x : A) → g (f x) ≡ g x) → (xs : List A) (i r : ℕ) (y : A)
    → slice_get (changed xs i f (slice_get xs i)) r ≡ Some y → (x : A) × (slice_get xs r ≡ Some x) × (g y ≡ g x)
kept g f keeps [] i r y e = absurd (let none : None ≡ Some y = e in cc)
kept g f keeps (x ∷ xs) zero zero y e = (let same : f x ≡ y = (let h : Some (f x) ≡ Some y = e in cc) in (x, refl, ap g (sym same) ∙ keeps x))
kept g f keeps (x ∷ xs) zero (suc r) y e = (y, e, refl)
kept g f keeps (x ∷ xs) (suc i) zero y e =
    let same : x ≡ y = (let h : Some x ≡ Some y = ap (λ ys. slice_get ys 0) (sym (changed_later x xs i f (slice_get xs i))) ∙ e in cc) in
    (x, refl, ap g (sym same))
kept g f keeps (x ∷ xs) (suc i) (suc r) y e =
    kept g f keeps xs i r y (ap (λ ys. slice_get ys (suc r)) (sym (changed_later x xs i f (slice_get xs i))) ∙ e)

-- what a behaviour means depends on what it is and on its inputs
same_meaning : (p : Program) (m x : Member) → m.behaviour ≡ x.behaviour → m.inputs ≡ x.inputs → meaning_of p m ≡ meaning_of p x
same_meaning p m x behaviour inputs =
    ap (λ (b : Behaviour). meaning_of p (record m { behaviour = b })) behaviour
    ∙ ap (λ (i : List Input). meaning_of p (record m { behaviour = x.behaviour; inputs = i })) inputs

not_ended : (life : Life) → life ≡ Pending → life ≡ Ended → ⊥
not_ended life e f = let g : Pending ≡ Ended = sym e ∙ f in cc

running_not_ended : (life : Life) → Running ≡ life → life ≡ Ended → ⊥
running_not_ended life e f = let g : Running ≡ Ended = e ∙ f in cc

one_more : (p : Program) (ms : List Member) (es : List Entry) (b : Behaviour) (e : Entry) → HaveTicks p ms es → HaveTicks p (ms ++ waiting b ∷ []) (es ++ e ∷ [])
one_more p ms es b e h = record {
  same = length-append es (e ∷ []) ∙ ap (λ (n : ℕ). n + 1) h.same ∙ sym (length-append ms (waiting b ∷ []));
  ticks_are = λ r m x means at_m at_x over meant. elim (read_more ms (waiting b) r m at_m) [
    | inl old ↦ elim (read_more es e r x at_x) [
      | inl there ↦ h.ticks_are r m x means old.1 there.1 over meant
      | inr new ↦ absurd (omega (arith, old.0, new.0, h.same))
    ]
    | inr new ↦ absurd (not_ended m.life (ap (λ (y : Member). y.life) (sym new.1)) over)
  ];
}

-- ---- one event more

-- a parent spawned one more, which its ticks and its meaning don't tell
spawned : (p : Program) (ms : List Member) (es : List Entry) (parent offset : ℕ) → HaveTicks p ms es
    → HaveTicks p (changed ms parent with_one_more (slice_get ms parent)) (changed es parent (λ e. record e { last = offset }) (slice_get es parent))
spawned p ms es parent offset h = record {
  same = length-changed es parent (λ e. record e { last = offset }) (slice_get es parent) ∙ h.same
      ∙ sym (length-changed ms parent with_one_more (slice_get ms parent));
  ticks_are = λ r m e means at_m at_e over meant.
      let life = kept (λ (x : Member). x.life) with_one_more (λ x. refl) ms parent r m at_m in
      let behaviour = kept (λ (x : Member). x.behaviour) with_one_more (λ x. refl) ms parent r m at_m in
      let inputs = kept (λ (x : Member). x.inputs) with_one_more (λ x. refl) ms parent r m at_m in
      let entry = kept (λ (x : Entry). x.ticks) (λ e. record e { last = offset }) (λ x. refl) es parent r e at_e in
      let one : life.0 ≡ behaviour.0 = (let q : Some life.0 ≡ Some behaviour.0 = sym life.1 ∙ behaviour.1 in cc) in
      let two : inputs.0 ≡ behaviour.0 = (let q : Some inputs.0 ≡ Some behaviour.0 = sym inputs.1 ∙ behaviour.1 in cc) in
      entry.2 ∙ h.ticks_are r behaviour.0 entry.0 means behaviour.1 entry.1 (ap (λ (x : Member). x.life) (sym one) ∙ sym life.2 ∙ over)
      (sym (same_meaning p m behaviour.0 behaviour.2 (inputs.2 ∙ ap (λ (x : Member). x.inputs) two)) ∙ meant);
}

spawn_keeps : (p : Program) (ms : List Member) (es : List Entry) (parent offset : ℕ) (cowns : List ℕ) → HaveTicks p ms es → MaySpawn p ms parent offset cowns
    → HaveTicks p (members_after_spawn p ms parent)
    (changed es parent (λ e. record e { last = offset }) (slice_get es parent) ++ pending parent offset cowns ∷ [])
spawn_keeps p [] [] parent offset cowns h may = one_more p [] [] main_behaviour (pending parent offset cowns) h
spawn_keeps p [] (e ∷ es) parent offset cowns h may = absurd (omega (arith, h.same))
spawn_keeps p (m ∷ ms) es parent offset cowns h may =
    subst (λ xs. HaveTicks p xs (changed es parent (λ e. record e { last = offset }) (slice_get es parent) ++ pending parent offset cowns ∷ []))
    (sym (after_spawn p (m ∷ ms) parent may.wish (omega arith) may.next))
    (one_more p _ _ (behaviour_of may.wish) (pending parent offset cowns) (spawned p (m ∷ ms) es parent offset h))

start_keeps : (p : Program) (c : Config) (es : List Entry) (row : ℕ) → HaveTicks p c.members es
    → HaveTicks p (changed c.members row (started_on c.values) (slice_get c.members row)) (changed es row (λ e. record e { life = Running }) (slice_get es row))
start_keeps p c es row h = record {
  same = length-changed es row (λ e. record e { life = Running }) (slice_get es row) ∙ h.same
      ∙ sym (length-changed c.members row (started_on c.values) (slice_get c.members row));
  ticks_are = λ r m e means at_m at_e over meant.
      let entry = kept (λ (x : Entry). x.ticks) (λ e. record e { life = Running }) (λ x. refl) es row r e at_e in
      elim (read_changed c.members row (started_on c.values) r m at_m) [
        | inl this ↦ absurd (running_not_ended m.life (ap (λ (x : Member). x.life) this.1.2) over)
        | inr other ↦ entry.2 ∙ h.ticks_are r m entry.0 means other.1 entry.1 over meant
      ];
}

end_keeps : (p : Program) (ms : List Member) (es : List Entry) (row ticks : ℕ) (status : EndStatus) (written : List ℕ) → HaveTicks p ms es
    → CanEnd p ms row ticks status written
    → HaveTicks p (changed ms row (λ m. record m { life = Ended }) (slice_get ms row))
    (changed es row (λ e. record e { life = Ended; ticks = ticks; status = status; written = written }) (slice_get es row))
end_keeps p ms es row ticks status written h can =
    let f : Member → Member = λ m. record m { life = Ended } in
    let g : Entry → Entry = λ e. record e { life = Ended; ticks = ticks; status = status; written = written } in
    record {
      same = length-changed es row g (slice_get es row) ∙ h.same ∙ sym (length-changed ms row f (slice_get ms row));
      ticks_are = λ r m e means at_m at_e over meant. elim (read_changed ms row f r m at_m) [
        | inl this ↦
            let entry = mapped g (slice_get es row) e
            (sym (changed_same es row g) ∙ sym (ap (slice_get (changed es row g (slice_get es row))) this.0) ∙ at_e) in
            let is : can.member ≡ this.1.0 = (let q : Some can.member ≡ Some this.1.0 = sym can.is ∙ this.1.1 in cc) in
            let means_it : Some can.means ≡ Some means =
            sym can.meant ∙ ap (meaning_of p) is ∙ ap (meaning_of p) this.1.2 ∙ meant in
            let one : can.means ≡ means = cc in
            ap (λ (x : Entry). x.ticks) (sym entry.2) ∙ can.ticks_are ∙ ap (λ (x : Meaning). x.ticks) one
        | inr other ↦ h.ticks_are r m e means other.1 (sym (changed_other es row r g (slice_get es row) other.0) ∙ at_e) over meant
      ];
    }

next_keeps : (p : Program) (c : Config) (es : List Entry) (event : Event) → HaveTicks p c.members es → MayHappen p c event
    → HaveTicks p (config_after p c event).members (after es event)
next_keeps p c es (Spawn row parent offset cowns) h may = spawn_keeps p c.members es parent offset cowns.items h may.2
next_keeps p c es (Start row) h may = start_keeps p c es row h
next_keeps p c es (End row ticks status written) h may = end_keeps p c.members es row ticks status written.items h may

all_keep : (p : Program) (c : Config) (es : List Entry) (log : List Event) → HaveTicks p c.members es → IsRunFrom p c log
    → HaveTicks p (config_after_all p c log).members (after_all es log)
all_keep p c es [] h run = h
all_keep p c es (event ∷ log) h run = all_keep p (config_after p c event) (after es event) log (next_keeps p c es event h run.0) run.1

none_yet : (p : Program) → HaveTicks p [] []
none_yet p = record {
  same = refl;
  ticks_are = λ r m e means at_m at_e over meant. absurd (let none : None ≡ Some m = at_m in cc);
}

-- the rows of a run that have ended have the ticks that their behaviours mean
pub run_ticks : (p : Program) (log : List Event) → IsRun p log → HaveTicks p (config_of p log).members (entries log)
run_ticks p log run = all_keep p (opening p) [] log (none_yet p) run
