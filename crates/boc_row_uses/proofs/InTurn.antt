-- The uses of a run's rows are those of its behaviours in turn.
use Rattle.std.proofs.Common.{◌≡◌, ◌≢◌, ◌∙◌, ℕ, suc, ◌+◌, List, [], ◌∷◌, ◌++◌, map, Option, refl, sym, ap, arith, ℤ}
use Rattle.std.specs.Prelude.{slice_get, Some}
use Rattle.boc_program.specs.declared.program.Program.{Program}
use Rattle.boc_program.specs.declared.short.Input.{Input}
use Rattle.boc_program.specs.Meaning.{Meaning}
use Rattle.boc_program.specs.Programs.{initial_values}
use Rattle.boc_program.proofs.ChangedItems.{place_below}
use Rattle.boc_runs.specs.declared.event.Event.{Event}
use Rattle.boc_runs.specs.Lives.{Pending, Ended}
use Rattle.boc_runs.specs.Run.{Member, Config, config_of, IsWholeRun}
use Rattle.boc_runs.specs.Serial.{Behaviour, after_outputs, inputs_of, meaning_if}
use Rattle.boc_machine_laws.proofs.Rows.{life_there}
use Rattle.boc_machine_laws.proofs.Twins.{Follows, before_row, ended_not_pending}
use Rattle.boc_uses.specs.declared.uses.Use.{Use}
use Rattle.boc_row_uses.specs.RowUses.{behaviour_uses, row_uses}
use Rattle.boc_row_uses.specs.InTurn.{uses_in_turn, values_after}
use Rattle.boc_row_uses.proofs.Following.{follows, parents_after}

abbrev pub behaviours : List Member → List Behaviour
behaviours members = map (λ m. m.behaviour) members

module _ (p : Program) (c : Config) (ps : List ℕ) (f : Follows p c ps) (begun : (r : ℕ) (m : Member) → slice_get c.members r ≡ Some m → m.life ≢ Pending) where
  -- a behaviour of the run started on the values before its row
  inputs_are : (n : ℕ) (m : Member) → slice_get c.members n ≡ Some m → m.inputs ≡ inputs_of m.behaviour.cowns (before_row p ps n)
  inputs_are n m e = let t = f.twins n m e in t.begun (begun n m e) ∙ t.inputs_are

  -- and left those after it
  values_are : (n : ℕ) (m : Member) → slice_get c.members n ≡ Some m → values_after p m.behaviour (before_row p ps n) ≡ before_row p ps (suc n)
  values_are n m e =
      let t = f.twins n m e in
      ap (λ (inputs : List Input). after_outputs (before_row p ps n) m.behaviour.cowns
      (meaning_if (slice_get p.bodies m.behaviour.kind) m.behaviour.args inputs).outputs) (sym t.inputs_are)
      ∙ ap (λ (means : Meaning). after_outputs (before_row p ps n) m.behaviour.cowns means.outputs) (sym t.means_are)
      ∙ sym t.writes

  in_turn_from : (n : ℕ) (ms : List Member) → ((k : ℕ) (m : Member) → slice_get ms k ≡ Some m → slice_get c.members (k + n) ≡ Some m)
      → row_uses p ms ≡ uses_in_turn p (before_row p ps n) (behaviours ms)
  in_turn_from n [] at = refl
  in_turn_from n (m ∷ ms) at =
      let here : slice_get c.members n ≡ Some m =
      ap (slice_get c.members) (let same : n ≡ 0 + n = omega arith in same) ∙ at 0 m refl in
      let later : (k : ℕ) (x : Member) → slice_get ms k ≡ Some x → slice_get c.members (k + suc n) ≡ Some x =
      λ k x e. ap (slice_get c.members) (let same : k + suc n ≡ suc k + n = omega arith in same) ∙ at (suc k) x e in
      ap (λ (inputs : List Input). behaviour_uses p m.behaviour inputs ++ row_uses p ms) (inputs_are n m here)
      ∙ ap (λ (rest : List (Option Use)). behaviour_uses p m.behaviour (inputs_of m.behaviour.cowns (before_row p ps n)) ++ rest)
      (in_turn_from (suc n) ms later
      ∙ ap (λ (values : List ℤ). uses_in_turn p values (behaviours ms)) (sym (values_are n m here)))

  pub in_turn : row_uses p c.members ≡ uses_in_turn p (before_row p ps 0) (behaviours c.members)
  in_turn = in_turn_from 0 c.members (λ k m e. ap (slice_get c.members) (let same : k + 0 ≡ k = omega arith in same) ∙ e)

-- after a whole run each behaviour has ended
pub all_ended : (p : Program) (log : List Event) → IsWholeRun p log → (r : ℕ) (m : Member) → slice_get (config_of p log).members r ≡ Some m → m.life ≡ Ended
all_ended p log whole r m e =
    let members = (config_of p log).members in
    let l : Some m.life ≡ Some Ended = sym (life_there members r m e) ∙ whole.over.ended r (place_below members r m e) in
    cc

pub uses_in_number_order : (p : Program) (log : List Event) → IsWholeRun p log
    → row_uses p (config_of p log).members ≡ uses_in_turn p (initial_values p.cowns) (behaviours (config_of p log).members)
uses_in_number_order p log whole =
    in_turn p (config_of p log) (parents_after [] log) (follows p log whole.run) (λ r m e. ended_not_pending m.life (all_ended p log whole r m e))

pub one_answer : (p : Program) (log other : List Event) → IsWholeRun p log → IsWholeRun p other
    → behaviours (config_of p log).members ≡ behaviours (config_of p other).members
    → row_uses p (config_of p log).members ≡ row_uses p (config_of p other).members
one_answer p log other whole whole' same =
    uses_in_number_order p log whole
    ∙ ap (λ (bs : List Behaviour). uses_in_turn p (initial_values p.cowns) bs) same
    ∙ sym (uses_in_number_order p other whole')
