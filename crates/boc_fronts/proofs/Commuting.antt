-- Turns over different cowns may come either way.
use Rattle.std.proofs.Common.{◌≡◌, ◌≢◌, ℕ, zero, suc, ◌<◌, inl, inr, List, [], ◌∷◌, ◌++◌, length, refl, sym, ◌∙◌, ap, arith, ℤ, append_assoc}
use Rattle.std.specs.Prelude.{slice_get, nat_eq, Some, option_map}
use Rattle.boc_program.specs.declared.short.Input.{Input}
use Rattle.boc_program.specs.declared.program.Program.{Program}
use Rattle.boc_runs.specs.Serial.{Behaviour, behaviour_of, inputs_of, after_outputs, SerialRow, Serial, meaning_if, wish_of_row, children}
use Rattle.boc_runs.specs.Serial.{next_behaviour, run_at_once, with_row, after_turn}
use Rattle.boc_runs.specs.machine.Queues.{times}
use Rattle.boc_program.proofs.ChangedItems.{front_item}
use Rattle.boc_runs.proofs.Behaviours.{length-after_outputs}
use Rattle.boc_machine_laws.proofs.Lists.{same_or_not, not_eq}
use Rattle.boc_machine_laws.proofs.Core.{one_if}
use Rattle.boc_machine_laws.proofs.Outputs.{outputs_elsewhere, outputs_alike, inputs_alike, same_items}
use Rattle.boc_fronts.proofs.AlongLogs.{children_more}
use Rattle.boc_fronts.specs.Apart.{AreApart, Commute}

some_times : (n : ℕ) → n ≢ 0 → 0 < n
some_times zero h = absurd (h refl)
some_times (suc n) h = omega arith

-- outputs over different cowns may be written either way
pub outputs_swapped : (values : List ℤ) (cs ds : List ℕ) (xs ys : List ℤ) → ((d : ℕ) → 0 < times d cs → times d ds ≡ 0)
    → after_outputs (after_outputs values cs xs) ds ys ≡ after_outputs (after_outputs values ds ys) cs xs
outputs_swapped values cs ds xs ys apart =
    same_items (after_outputs (after_outputs values cs xs) ds ys) (after_outputs (after_outputs values ds ys) cs xs)
    (length-after_outputs (after_outputs values cs xs) ds ys ∙ length-after_outputs values cs xs
    ∙ sym (length-after_outputs (after_outputs values ds ys) cs xs ∙ length-after_outputs values ds ys))
    (λ d. elim (same_or_not (times d cs) 0) [
      | inl none ↦
          outputs_alike (after_outputs values cs xs) values ds ys d (length-after_outputs values cs xs)
          (outputs_elsewhere values cs xs d none)
          ∙ sym (outputs_elsewhere (after_outputs values ds ys) cs xs d none)
      | inr some ↦
          let none : times d ds ≡ 0 = apart d (some_times (times d cs) some) in
          outputs_elsewhere (after_outputs values cs xs) ds ys d none
          ∙ sym (outputs_alike (after_outputs values ds ys) values cs xs d (length-after_outputs values ds ys)
          (outputs_elsewhere values ds ys d none))
    ])

-- a row more changes nothing of the next behaviour of a row that is not its parent
pub next_stays : (rows : List SerialRow) (x : SerialRow) (b : ℕ) → b < length rows → x.parent ≢ b
    → next_behaviour (rows ++ (x ∷ [])) b ≡ next_behaviour rows b
next_stays [] x b low apart = absurd (omega (arith, low))
next_stays (main ∷ others) x b low apart =
    let none : one_if (nat_eq x.parent b) ≡ 0 = ap one_if (not_eq x.parent b apart) in
    let same : children b (others ++ (x ∷ [])) ≡ children b others =
    omega (arith, children_more (main ∷ others) x b (omega arith), none) in
    ap (λ k. option_map behaviour_of (wish_of_row (slice_get ((main ∷ others) ++ (x ∷ [])) b) k)) same
    ∙ ap (λ o. option_map behaviour_of (wish_of_row o (children b others))) (front_item (main ∷ others) x b low)

-- the row of a behaviour on inputs
abbrev row_on : Program → ℕ → Behaviour → List Input → SerialRow
row_on p parent b inputs = record {
  parent = parent;
  behaviour = b;
  inputs = inputs;
  means = meaning_if (slice_get p.bodies b.kind) b.args inputs;
}

-- two turns, of which the first takes nothing from the second
pub both_turns : (p : Program) (s : Serial) (a b : ℕ) (first second : Behaviour) → a ≢ b → b < length s.rows
    → next_behaviour s.rows a ≡ Some first → next_behaviour s.rows b ≡ Some second
    → ((d : ℕ) → 0 < times d second.cowns → times d first.cowns ≡ 0)
    → after_turn p (after_turn p s a) b
    ≡ with_row (with_row s (run_at_once p s.values a (Some first))) (run_at_once p s.values b (Some second))
both_turns p s a b first second differ there first_is second_is apart =
    let x : SerialRow = run_at_once p s.values a (Some first) in
    let t : Serial = with_row s x in
    let same : inputs_of second.cowns t.values ≡ inputs_of second.cowns s.values =
    inputs_alike second.cowns t.values s.values
    (λ d h. outputs_elsewhere s.values first.cowns x.means.outputs d (apart d h)) in
    ap (λ o. after_turn p (with_row s (run_at_once p s.values a o)) b) first_is
    ∙ ap (λ o. with_row t (run_at_once p t.values b o)) (next_stays s.rows x b there differ ∙ second_is)
    ∙ ap (λ i. with_row t (row_on p b second i)) same

pub turns_commute : (p : Program) (s : Serial) (a b : ℕ) → AreApart s a b → Commute p s a b
turns_commute p s a b h =
    let x : SerialRow = run_at_once p s.values a (Some h.first) in
    let y : SerialRow = run_at_once p s.values b (Some h.second) in
    let none : (d : ℕ) → 0 < times d h.second.cowns → times d h.first.cowns ≡ 0 = λ d has.
    elim (same_or_not (times d h.first.cowns) 0) [
      | inl e ↦ e
      | inr n ↦ absurd (omega (arith, has, h.apart d (some_times (times d h.first.cowns) n)))
    ] in
    let one = both_turns p s a b h.first h.second h.differ h.there_too h.first_is h.second_is none in
    let other = both_turns p s b a h.second h.first (λ e. h.differ (sym e)) h.there h.second_is h.first_is h.apart in
    record {
      first = x;
      second = y;
      one_way = ap (λ (t : Serial). t.rows) one ∙ append_assoc s.rows (x ∷ []) (y ∷ []);
      other_way = ap (λ (t : Serial). t.rows) other ∙ append_assoc s.rows (y ∷ []) (x ∷ []);
      values = ap (λ (t : Serial). t.values) one
          ∙ outputs_swapped s.values h.first.cowns h.second.cowns x.means.outputs y.means.outputs h.apart
          ∙ sym (ap (λ (t : Serial). t.values) other);
    }
