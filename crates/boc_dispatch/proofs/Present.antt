-- A running row's inputs are the values that its cowns have now.
use Rattle.std.proofs.Common.{◌≡◌, ◌≢◌, ℕ, zero, suc, ◌+◌, ◌<◌, inl, inr, List, [], ◌∷◌, refl, sym, ◌∙◌, ap, subst, arith}
use Rattle.std.specs.Prelude.{slice_get, ℤ, Option, Some, None}
use Rattle.std.specs.Option.{option_map, option_map_or}
use Rattle.std.specs.List.{Contains}
use Rattle.std.proofs.lemmas.Bool.{cases_lt}
use Rattle.boc_program.specs.declared.program.Program.{Program}
use Rattle.boc_runs.specs.declared.event.Event.{Event}
use Rattle.boc_runs.specs.declared.event.Event.TheVariants.{Spawn, Start, End}
use Rattle.boc_program.specs.Meaning.{Wish}
use Rattle.boc_program.specs.Changed.{changed}
use Rattle.boc_runs.specs.Lives.{Life, Pending, Running, Ended, MayStart, Overlap}
use Rattle.boc_runs.specs.Serial.{behaviour_of, main_behaviour, inputs_of, after_outputs}
use Rattle.boc_runs.specs.Run.{Member, Config, config_after, config_after_all, config_of, opening, next_wish, waiting, spawned_by, started_on}
use Rattle.boc_runs.specs.Run.{members_after_spawn, values_after_end, values_written, state_of, member_cowns, MayHappen, IsRunFrom, IsRun}
use Rattle.boc_runs.specs.machine.Queues.{times}
use Rattle.boc_machine_laws.proofs.Twins.{read_changed, read_more}
use Rattle.boc_machine_laws.proofs.Outputs.{contains_times, outputs_elsewhere, inputs_alike}

-- two behaviours share no cown
abbrev pub Apart : Member → Member → Type 0
Apart m n = (d : ℕ) → 0 < times d m.behaviour.cowns → 0 < times d n.behaviour.cowns → ⊥

-- running rows share no cown, and the inputs of each are the values that its cowns have now
pub record ArePresent (c : Config) : Type 0 where
  pub apart : (r q : ℕ) (m n : Member) → r ≢ q → slice_get c.members r ≡ Some m → slice_get c.members q ≡ Some n → m.life ≡ Running → n.life ≡ Running
      → Apart m n
  pub present : (r : ℕ) (m : Member) → slice_get c.members r ≡ Some m → m.life ≡ Running → m.inputs ≡ inputs_of m.behaviour.cowns c.values

-- who runs ran before, with the same cowns and inputs
record RanSo (rows : List Member) (r : ℕ) (m : Member) : Type 0 where
  before : Member
  is : slice_get rows r ≡ Some before
  runs : before.life ≡ Running
  cowns : m.behaviour.cowns ≡ before.behaviour.cowns
  inputs : m.inputs ≡ before.inputs

never_runs : (m n : Member) (life : Life) → m ≡ n → m.life ≡ life → n.life ≡ Running → life ≡ Running
never_runs m n life same is runs = sym is ∙ ap (λ (x : Member). x.life) same ∙ runs

-- ---- a spawn

abbrev one_more : Member → Member
one_more m = record m { spawned = m.spawned + 1 }

spawn_ran : (p : Program) (rows : List Member) (parent r : ℕ) (m : Member) → slice_get (members_after_spawn p rows parent) r ≡ Some m → m.life ≡ Running
    → RanSo rows r m
spawn_ran p [] parent zero m is runs =
    let same : waiting main_behaviour ≡ m = (let f : Some (waiting main_behaviour) ≡ Some m = is in cc) in
    absurd (let h : Pending ≡ Running = never_runs (waiting main_behaviour) m Pending same refl runs in cc)
spawn_ran p [] parent (suc r) m is runs = absurd (let f : None ≡ Some m = is in cc)
spawn_ran p (main ∷ others) parent r m is runs = by_wish (next_wish p (slice_get (main ∷ others) parent)) is
  where
    by_wish : (w : Option Wish) → slice_get (spawned_by (main ∷ others) parent w) r ≡ Some m → RanSo (main ∷ others) r m
    by_wish None is = record { before = m; is = is; runs = runs; cowns = refl; inputs = refl }
    by_wish (Some w) is =
        elim (read_more (changed (main ∷ others) parent one_more (slice_get (main ∷ others) parent)) (waiting (behaviour_of w)) r m is) [
          | inl q ↦ elim (read_changed (main ∷ others) parent one_more r m q.1) [
            | inl h ↦ record {
              before = h.1.0;
              is = ap (slice_get (main ∷ others)) h.0 ∙ h.1.1;
              runs = ap (λ (x : Member). x.life) h.1.2 ∙ runs;
              cowns = sym (ap (λ (x : Member). x.behaviour.cowns) h.1.2);
              inputs = sym (ap (λ (x : Member). x.inputs) h.1.2);
            }
            | inr h ↦ record { before = m; is = h.1; runs = runs; cowns = refl; inputs = refl }
          ]
          | inr q ↦ absurd (let h : Pending ≡ Running = never_runs (waiting (behaviour_of w)) m Pending q.1 refl runs in cc)
        ]

spawn_present : (p : Program) (c : Config) (parent : ℕ) → ArePresent c → ArePresent (record c { members = members_after_spawn p c.members parent })
spawn_present p c parent k = record {
  apart = λ r q m n other is js runs goes d a b.
      let x = spawn_ran p c.members parent r m is runs in
      let y = spawn_ran p c.members parent q n js goes in
      k.apart r q x.before y.before other x.is y.is x.runs y.runs d (subst (λ (cs : List ℕ). 0 < times d cs) x.cowns a)
      (subst (λ (cs : List ℕ). 0 < times d cs) y.cowns b);
  present = λ r m is runs.
      let x = spawn_ran p c.members parent r m is runs in
      x.inputs ∙ k.present r x.before x.is x.runs ∙ ap (λ cs. inputs_of cs c.values) (sym x.cowns);
}

-- ---- a start

-- rows with a cown in common overlap
overlap : (rows : List Member) (r q : ℕ) (x y : Member) (d : ℕ) → slice_get rows r ≡ Some x → slice_get rows q ≡ Some y → 0 < times d x.behaviour.cowns
    → 0 < times d y.behaviour.cowns → Overlap (member_cowns rows) r q
overlap rows r q x y d is js a b = (
  d,
  subst (λ (o : Option Member). Contains (option_map_or (λ m. m.behaviour.cowns) o []) d) (sym is) (contains_times d x.behaviour.cowns a),
  subst (λ (o : Option Member). Contains (option_map_or (λ m. m.behaviour.cowns) o []) d) (sym js) (contains_times d y.behaviour.cowns b),
)

module _ (c : Config) (row : ℕ) (may : MayStart (state_of c.members) (member_cowns c.members) row) (k : ArePresent c) where
  abbrev started : List Member
  started = changed c.members row (started_on c.values) (slice_get c.members row)

  -- the row that starts is apart from one that runs
  start_apart : (q : ℕ) (x m n : Member) → slice_get c.members row ≡ Some x → started_on c.values x ≡ m → slice_get c.members q ≡ Some n → n.life ≡ Running
      → Apart m n
  start_apart q x m n is same js goes d a b =
      may.none_running q (ap (λ o. option_map (λ (z : Member). z.life) o) js ∙ ap Some goes)
      (overlap c.members row q x n d is js (subst (λ (z : Member). 0 < times d z.behaviour.cowns) (sym same) a) b)

  start_present : ArePresent (record c { members = started })
  start_present = record {
    apart = λ r q m n other is js runs goes d a b.
        elim (read_changed c.members row (started_on c.values) r m is) [
          | inl x ↦ elim (read_changed c.members row (started_on c.values) q n js) [
            | inl y ↦ other (x.0 ∙ sym y.0)
            | inr y ↦ start_apart q x.1.0 m n x.1.1 x.1.2 y.1 goes d a b
          ]
          | inr x ↦ elim (read_changed c.members row (started_on c.values) q n js) [
            | inl y ↦ start_apart r y.1.0 n m y.1.1 y.1.2 x.1 runs d b a
            | inr y ↦ k.apart r q m n other x.1 y.1 runs goes d a b
          ]
        ];
    present = λ r m is runs.
        elim (read_changed c.members row (started_on c.values) r m is) [
          | inl x ↦ subst (λ (z : Member). z.inputs ≡ inputs_of z.behaviour.cowns c.values) x.1.2 refl
          | inr x ↦ k.present r m x.1 runs
        ];
  }

-- ---- an end

abbrev with_end : Member → Member
with_end m = record m { life = Ended }

end_ran : (rows : List Member) (row r : ℕ) (m : Member) → slice_get (changed rows row with_end (slice_get rows row)) r ≡ Some m → m.life ≡ Running
    → (r ≢ row) × (slice_get rows r ≡ Some m)
end_ran rows row r m is runs =
    elim (read_changed rows row with_end r m is) [
      | inl x ↦ absurd (let h : Ended ≡ Running = never_runs (with_end x.1.0) m Ended x.1.2 refl runs in cc)
      | inr x ↦ x
    ]

end_present : (c : Config) (row : ℕ) (member : Member) (outputs : List ℤ) (values : List ℤ) → slice_get c.members row ≡ Some member → member.life ≡ Running
    → values ≡ after_outputs c.values member.behaviour.cowns outputs → ArePresent c
    → ArePresent (record { members = changed c.members row with_end (slice_get c.members row); values = values })
end_present c row member outputs values is_row runs_row values_are k = record {
  apart = λ r q m n other is js runs goes.
      k.apart r q m n other (end_ran c.members row r m is runs).1 (end_ran c.members row q n js goes).1 runs goes;
  present = λ r m is runs.
      let x = end_ran c.members row r m is runs in
      k.present r m x.1 runs
      ∙ inputs_alike m.behaviour.cowns c.values values (λ d a.
      let none : times d member.behaviour.cowns ≡ 0 =
      elim (cases_lt 0 (times d member.behaviour.cowns)) [
        | inl b ↦ absurd (k.apart r row m member x.0 x.1 is_row runs runs_row d a b)
        | inr b ↦ omega arith
      ] in
      sym (outputs_elsewhere c.values member.behaviour.cowns outputs d none) ∙ ap (λ vs. slice_get vs d) (sym values_are));
}

-- ---- along a run

event_present : (p : Program) (c : Config) (e : Event) → MayHappen p c e → ArePresent c → ArePresent (config_after p c e)
event_present p c (Spawn row parent offset cowns) may k = spawn_present p c parent k
event_present p c (Start row) may k = start_present c row may k
event_present p c (End row ticks status written) may k =
    end_present c row may.member may.means.outputs (values_after_end p c.values (slice_get c.members row)) may.is may.runs
    (ap (values_after_end p c.values) may.is ∙ ap (values_written c.values may.member.behaviour.cowns) may.meant) k

present_from : (p : Program) (c : Config) (log : List Event) → IsRunFrom p c log → ArePresent c → ArePresent (config_after_all p c log)
present_from p c [] run k = k
present_from p c (e ∷ log) run k = present_from p (config_after p c e) log run.1 (event_present p c e run.0 k)

pub inputs_present : (p : Program) (log : List Event) → IsRun p log → (r : ℕ) (m : Member) → slice_get (config_of p log).members r ≡ Some m → m.life ≡ Running
    → m.inputs ≡ inputs_of m.behaviour.cowns (config_of p log).values
inputs_present p log run =
    (present_from p (opening p) log run (record {
      apart = λ r q m n other is. absurd (let h : None ≡ Some m = is in cc);
      present = λ r m is. absurd (let h : None ≡ Some m = is in cc);
    })).present
