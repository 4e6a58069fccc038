-- The cowns that are marked.
use Rattle.std.proofs.Common.{◌≡◌, ◌≢◌, inl, inr, ℕ, ◌+◌, ◌<◌, ◌≤◌, Bool, true, false, ◌||◌, List, length, take, refl, sym, ap, ◌∙◌, arith}
use Rattle.std.specs.Prelude.{nat_eq, replicate, slice_index, slice_set}
use Rattle.std.proofs.lemmas.Bool.{cases_eq}
use Rattle.std.proofs.lemmas.Bool.Decides.{nat_tests}
use Rattle.std.proofs.lemmas.List.{get_or-replicate, get_or-set_same, get_or-set_other, length-set, length-replicate, take_all}
use Rattle.std.proofs.lemmas.List.Folds.{list_any_more}
use Rattle.boc_program.specs.declared.limits.TheConstants.{MOST_COWNS}
use Rattle.boc_turns.specs.Turns.{among}
use Rattle.boc_turns.specs.Course.{marked}

-- the first i of these cowns are marked
pub record AreMarks (cowns : List ℕ) (i : ℕ) (marks : List Bool) : Type 0 where
  pub whole : length marks ≡ MOST_COWNS
  pub each : (c : ℕ) → c < MOST_COWNS → marked marks c ≡ among (take i cowns) c

pub marks_none : (cowns : List ℕ) (marks : List Bool) → marks ≡ replicate MOST_COWNS false → AreMarks cowns 0 marks
marks_none cowns marks is = rw is (record {
  whole = length-replicate {A = Bool} MOST_COWNS false;
  each = λ c low. get_or-replicate {A = Bool} MOST_COWNS c false false low;
})

either_true : (b : Bool) → (b || true) ≡ true
either_true true = refl
either_true false = refl

either_false : (b : Bool) → (b || false) ≡ b
either_false true = refl
either_false false = refl

same_test : (c x : ℕ) → c ≡ x → nat_eq c x ≡ true
same_test c x e = grind (arith, nat_tests)

other_test : (c x : ℕ) → c ≢ x → nat_eq c x ≡ false
other_test c x ne = grind (arith, nat_tests)

pub marks_more : (cowns : List ℕ) (i : ℕ) (marks : List Bool) → i < length cowns → slice_index cowns i < MOST_COWNS → AreMarks cowns i marks
    → AreMarks cowns (i + 1) (slice_set marks (slice_index cowns i) true)
marks_more cowns i marks h low m = record {
  whole = length-set marks (slice_index cowns i) true ∙ m.whole;
  each = λ c small. (
      let x : ℕ = slice_index cowns i in
      let more = list_any_more (nat_eq c) cowns i 0 h in
      elim (cases_eq c x) [
        | inl e ↦ (
            let here : marked (slice_set marks x true) c ≡ true =
            ap (marked (slice_set marks x true)) e ∙ get_or-set_same marks x true false (omega (arith, low, m.whole)) in
            here ∙ (sym (either_true (among (take i cowns) c)) ∙ (ap (λ (b : Bool). among (take i cowns) c || b) (sym (same_test c x e)) ∙ sym more)))
        | inr ne ↦ (
            let other : marked (slice_set marks x true) c ≡ marked marks c = get_or-set_other marks x c true false ne in
            other ∙ (m.each c small ∙ (sym (either_false (among (take i cowns) c))
            ∙ (ap (λ (b : Bool). among (take i cowns) c || b) (sym (other_test c x ne)) ∙ sym more))))
      ]);
}

pub marks_all : (cowns : List ℕ) (i : ℕ) (marks : List Bool) → length cowns ≤ i → AreMarks cowns i marks → (c : ℕ) → c < MOST_COWNS
    → marked marks c ≡ among cowns c
marks_all cowns i marks all m c low = m.each c low ∙ ap (λ (l : List ℕ). among l c) (take_all i cowns all)
