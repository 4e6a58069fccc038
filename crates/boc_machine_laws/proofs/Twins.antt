-- A run beside the serial run along the rows of its log: each row that has started has the inputs that it has there, and
-- the value of a cown is the one there after the rows that wrote it so far.
use Rattle.std.proofs.Common.{◌≡◌, ◌≢◌, ℕ, suc, ◌<◌, ◌≤◌, ◌⊎◌, inl, inr, List, [], ◌∷◌, ◌++◌, length, take, refl, sym, ◌∙◌, ap, subst, arith, ℤ, length-append}
use Rattle.std.proofs.Common.{rules}
use Rattle.std.specs.Prelude.{slice_get, Option, Some, None, option_map}
use Rattle.std.specs.Option.{option_map_or}
use Rattle.std.specs.List.{Contains}
use Rattle.std.proofs.lemmas.Bool.{cases_lt}
use Rattle.boc_program.specs.declared.short.Input.{Input}
use Rattle.boc_program.specs.declared.program.Program.{Program}
use Rattle.boc_program.specs.Programs.{initial_values}
use Rattle.boc_runs.specs.Serial.{inputs_of, after_outputs, SerialRow, Serial, meaning_if, children, next_behaviour, run_at_once, after_turn, after_turns}
use Rattle.boc_runs.specs.Serial.{serial_along}
use Rattle.boc_program.specs.Changed.{changed}
use Rattle.boc_runs.specs.Lives.{Life, Pending, Running, Ended}
use Rattle.boc_runs.specs.Run.{Member, Config, member_cowns}
use Rattle.boc_runs.specs.machine.Queues.{times}
use Rattle.boc_program.proofs.ChangedItems.{place_below, last_item, front_item}
use Rattle.boc_runs.proofs.Behaviours.{length-after_outputs}
use Rattle.boc_machine_laws.proofs.Lists.{same_or_not}
use Rattle.boc_machine_laws.proofs.Rows.{changed_same, changed_other}
use Rattle.boc_machine_laws.proofs.Outputs.{contains_times}

-- ---- the serial run

-- the values before a row's turn, given by the parents of the rows
abbrev pub before_row : Program → List ℕ → ℕ → List ℤ
before_row p ps n = (serial_along p (take n ps)).values

abbrev pub rows_along : Program → List ℕ → List SerialRow
rows_along p ps = (serial_along p ps).rows

-- the rows but main
abbrev pub later : List SerialRow → List SerialRow
later [] = []
later (main ∷ others) = others

pub values_length : (p : Program) (s : Serial) (ps : List ℕ) → length (after_turns p s ps).values ≡ length s.values
values_length p s [] = refl
values_length p s (q ∷ ps) =
    let row = run_at_once p s.values q (next_behaviour s.rows q) in
    values_length p (after_turn p s q) ps ∙ length-after_outputs s.values row.behaviour.cowns row.means.outputs

pub before_length : (p : Program) (ps : List ℕ) (n : ℕ) → length (before_row p ps n) ≡ length (initial_values p.cowns)
before_length p ps n = values_length p (serial_along p []) (take n ps)

-- ---- what follows

-- a behaviour of the run beside its row of the serial run
pub record Twin (p : Program) (ps : List ℕ) (r : ℕ) (m : Member) : Type 0 where
  pub row : SerialRow
  pub is : slice_get (rows_along p ps) r ≡ Some row
  pub behaviour_is : row.behaviour ≡ m.behaviour
  pub inputs_are : row.inputs ≡ inputs_of m.behaviour.cowns (before_row p ps r)
  pub means_are : row.means ≡ meaning_if (slice_get p.bodies m.behaviour.kind) m.behaviour.args row.inputs
  pub writes : before_row p ps (suc r) ≡ after_outputs (before_row p ps r) m.behaviour.cowns row.means.outputs
  pub begun : m.life ≢ Pending → m.inputs ≡ row.inputs
  pub spawned_is : m.spawned ≡ children r (later (rows_along p ps))

-- one that lives on stays beside its row, if it has the inputs of the row once it has started
pub twin_lives : (p : Program) (ps : List ℕ) (r : ℕ) (m : Member) (inputs : List Input) (life : Life)
    (t : Twin p ps r m) → (life ≢ Pending → inputs ≡ t.row.inputs)
    → Twin p ps r (record m { inputs = inputs; life = life })
twin_lives p ps r m inputs life t begun = search rules

-- of the rows over a cown those before this one have ended, and the others not
abbrev pub EndedBefore : List Member → ℕ → ℕ → Type 0
EndedBefore ms d n = (r : ℕ) (m : Member) → slice_get ms r ≡ Some m → 0 < times d m.behaviour.cowns → r < n
    → m.life ≡ Ended

abbrev pub OpenAfter : List Member → ℕ → ℕ → Type 0
OpenAfter ms d n = (r : ℕ) (m : Member) → slice_get ms r ≡ Some m → 0 < times d m.behaviour.cowns → n ≤ r
    → m.life ≢ Ended

pub record Follows (p : Program) (c : Config) (ps : List ℕ) : Type 0 where
  pub same : length ps ≡ length c.members
  pub twins : (r : ℕ) (m : Member) → slice_get c.members r ≡ Some m → Twin p ps r m
  pub childless : (r : ℕ) → length ps ≤ r → children r (later (rows_along p ps)) ≡ 0
  -- of two rows over a cown the later one starts only after the end of the earlier one
  pub ordered : (a b : ℕ) (m n : Member) → slice_get c.members a ≡ Some m → slice_get c.members b ≡ Some n → a < b
      → (d : ℕ) → 0 < times d m.behaviour.cowns → 0 < times d n.behaviour.cowns → n.life ≢ Pending → m.life ≡ Ended
  pub values_are : (d n : ℕ) → ((r : ℕ) (m : Member) → slice_get c.members r ≡ Some m → 0 < times d m.behaviour.cowns
      → r < n → m.life ≡ Ended)
      → ((r : ℕ) (m : Member) → slice_get c.members r ≡ Some m → 0 < times d m.behaviour.cowns → n ≤ r → m.life ≢ Ended)
      → slice_get c.values d ≡ slice_get (before_row p ps n) d
  pub many : length c.values ≡ length (initial_values p.cowns)

-- ---- lives

pub over_if : (l : Life) → l ≢ Pending → l ≢ Running → l ≡ Ended
over_if Pending n m = absurd (n refl)
over_if Running n m = absurd (m refl)
over_if Ended n m = refl

pub ended_not_pending : (l : Life) → l ≡ Ended → l ≢ Pending
ended_not_pending l e f = let g : Ended ≡ Pending = sym e ∙ f in cc

pub running_not_pending : (l : Life) → l ≡ Running → l ≢ Pending
running_not_pending l e f = let g : Running ≡ Pending = sym e ∙ f in cc

-- ---- reading lists

pub mapped : {A B : Type 0} (f : A → B) (o : Option A) (y : B) → option_map f o ≡ Some y → (x : A) × (o ≡ Some x)
    × (f x ≡ y)
mapped f None y e = absurd (let g : None ≡ Some y = e in cc)
mapped f (Some x) y e = (x, refl, let g : Some (f x) ≡ Some y = e in cc)

-- a behaviour in a list with one changed is the changed one, or was there
pub read_changed : (ms : List Member) (r : ℕ) (g : Member → Member) (k : ℕ) (m' : Member)
    → slice_get (changed ms r g (slice_get ms r)) k ≡ Some m'
    → ((k ≡ r) × ((m : Member) × (slice_get ms r ≡ Some m) × (g m ≡ m'))) ⊎ ((k ≢ r) × (slice_get ms k ≡ Some m'))
read_changed ms r g k m' e =
    elim (same_or_not k r) [
      | inl q ↦ inl (
        q,
        mapped g (slice_get ms r) m'
            (sym (changed_same ms r g) ∙ sym (ap (slice_get (changed ms r g (slice_get ms r))) q) ∙ e),
      )
      | inr n ↦ inr (n, sym (changed_other ms r k g (slice_get ms r) n) ∙ e)
    ]

-- in a list with one more
pub read_more : {A : Type 0} (xs : List A) (x : A) (k : ℕ) (y : A) → slice_get (xs ++ (x ∷ [])) k ≡ Some y
    → ((k < length xs) × (slice_get xs k ≡ Some y)) ⊎ ((k ≡ length xs) × (x ≡ y))
read_more xs x k y e =
    elim (cases_lt k (length xs)) [
      | inl l ↦ inl (l, sym (front_item xs x k l) ∙ e)
      | inr ge ↦
          let q : k ≡ length xs = omega (arith, ge, place_below (xs ++ (x ∷ [])) k y e, length-append xs (x ∷ [])) in
          inr (q, let g : Some x ≡ Some y = sym (last_item xs x) ∙ ap (slice_get (xs ++ (x ∷ []))) (sym q) ∙ e in cc)
    ]

-- the cowns of a row contain those of its behaviour
pub has_cown : (ms : List Member) (r : ℕ) (m : Member) (d : ℕ) → slice_get ms r ≡ Some m
    → 0 < times d m.behaviour.cowns → Contains (member_cowns ms r) d
has_cown ms r m d e h = subst (λ (cs : List ℕ). Contains cs d)
    (sym (ap (λ o. option_map_or (λ (x : Member). x.behaviour.cowns) o []) e)) (contains_times d m.behaviour.cowns h)

-- where one behaviour changes and stays beside its row, all do
pub twins_changed : (p : Program) (ps : List ℕ) (ms : List Member) (r : ℕ) (g : Member → Member)
    → ((k : ℕ) (m : Member) → slice_get ms k ≡ Some m → Twin p ps k m)
    → ((m : Member) → slice_get ms r ≡ Some m → Twin p ps r (g m))
    → (k : ℕ) (m' : Member) → slice_get (changed ms r g (slice_get ms r)) k ≡ Some m' → Twin p ps k m'
twins_changed p ps ms r g twins here k m' e =
    elim (read_changed ms r g k m' e) [
      | inl q ↦ subst (λ (z : Member). Twin p ps k z) q.1.2
          (subst (λ (z : ℕ). Twin p ps z (g q.1.0)) (sym q.0) (here q.1.0 q.1.1))
      | inr q ↦ twins k m' q.1
    ]
