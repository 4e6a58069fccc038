-- At which places rows are reported.
use Rattle.std.proofs.Common.{◌≡◌, ◌≢◌, ◌∙◌, ℕ, zero, suc, ◌+◌, ◌<◌, ◌≤◌, inl, inr, List, [], ◌∷◌, ◌++◌, length, map, take, Option, Some, None, refl, sym, ap, subst, arith}
use Rattle.std.proofs.lemmas.List.{map-append}
use Rattle.std.specs.Prelude.{replicate, slice_get, slice_set}
use Rattle.boc_program.proofs.ChangedItems.{place_below, set_other, set_same}
use Rattle.boc_runs.specs.Serial.{Behaviour}
use Rattle.boc_runs.specs.Run.{Member}
use Rattle.boc_machine_laws.proofs.Lists.{same_or_not}
use Rattle.boc_eval.specs.declared.instance.Instance.{Instance}
use Rattle.boc_eval.specs.declared.instance.ToldRow.{ToldRow}
use Rattle.boc_eval.specs.Instances.{AreRowsOf, AreTrueOf, IsTrueOf, behaviour_in}
use Rattle.boc_eval.proofs.Taking.{take_next}
use Rattle.boc_dispatch.specs.Told.{ArePlaced, IsPlaced, LacksRow}
use Rattle.boc_dispatch.proofs.Driven.{got_replicate}

past : {A : Type 0} (xs : List A) (y : A) → slice_get xs (length xs) ≡ Some y → ⊥
past xs y is = omega (arith, place_below xs (length xs) y is)

-- ---- places

-- nothing is reported yet
pub none_placed : (told : List ToldRow) (rows : ℕ) (places : List ℕ) → places ≡ replicate rows (length told) → length places ≡ rows
    → ArePlaced told 0 rows places
none_placed told rows places is count = record {
  all = count;
  each = λ row place there. (let last : place ≡ length told = got_replicate rows (length told) place row (ap (λ xs. slice_get xs row) (sym is) ∙ there) in record {
    there = λ t e. absurd (past told t (ap (slice_get told) (sym last) ∙ e));
    missing = λ none k t below. absurd (omega (arith, below));
  });
}

module _ (told : List ToldRow) (k rows : ℕ) (places : List ℕ) (t : ToldRow) (is : slice_get told k ≡ Some t) (before : ArePlaced told k rows places) where
  other_row : (row place : ℕ) → row ≢ t.row → IsPlaced told k row place → IsPlaced told (suc k) row place
  other_row row place other old = record {
    there = old.there;
    missing = λ none j u below e.
        (elim (same_or_not j k) [
          | inl same ↦
              let one : t ≡ u = (let f : Some t ≡ Some u = sym is ∙ ap (slice_get told) (sym same) ∙ e in cc) in
              λ same_row. other (sym same_row ∙ ap (λ (x : ToldRow). x.row) (sym one))
          | inr apart ↦ old.missing none j u (omega (arith, below, apart)) e
        ]);
  }

  -- the next one is of a row that has no place
  pub passed_over : rows ≤ t.row → ArePlaced told (suc k) rows places
  passed_over far = record {
    all = before.all;
    each = λ row place there.
        (let below = place_below places row place there in
        other_row row place (λ same. absurd (omega (arith, far, below, same, before.all))) (before.each row place there));
  }

  own_row : (row place : ℕ) → row ≡ t.row → k ≡ place → IsPlaced told (suc k) row place
  own_row row place same own = record {
    there = λ u e.
        (let one : t ≡ u = (let f : Some t ≡ Some u = sym is ∙ ap (slice_get told) own ∙ e in cc) in
        ap (λ (x : ToldRow). x.row) (sym one) ∙ sym same);
    missing = λ none. absurd (let f : Some t ≡ None = sym is ∙ ap (slice_get told) own ∙ none in cc);
  }

  -- the next one is of a row that gets this place
  pub placed_next : t.row < rows → (after : List ℕ) → after ≡ slice_set places t.row k → length after ≡ length places → ArePlaced told (suc k) rows after
  placed_next below after changed count = record {
    all = count ∙ before.all;
    each = λ row place there.
        (elim (same_or_not row t.row) [
          | inl same ↦
              let here : slice_get after row ≡ Some k =
              (λ i. slice_get (changed i) (same i)) ∙ set_same places t.row k (omega (arith, below, before.all)) in
              own_row row place same (let e : Some k ≡ Some place = sym here ∙ there in cc)
          | inr other ↦
              let old : slice_get places row ≡ Some place =
              sym (set_other places t.row row k other) ∙ ap (λ xs. slice_get xs row) (sym changed) ∙ there in
              other_row row place other (before.each row place old)
        ]);
  }

-- a row that isn't told
pub lacks : (told : List ToldRow) (rows : ℕ) (places : List ℕ) (row place : ℕ) → ArePlaced told (length told) rows places → row < rows
    → slice_get places row ≡ Some place → slice_get told place ≡ None → LacksRow told rows
lacks told rows places row place placed below is none = record {
  row = row;
  below = below;
  untold = λ k t e. (placed.each row place is).missing none k t (place_below told k t e) e;
}

-- what is reported at a place is true
true_at : (run : List Member) (told : List ToldRow) (k : ℕ) (t : ToldRow) → AreTrueOf run told → slice_get told k ≡ Some t → IsTrueOf run t
true_at run [] k t are is = absurd (let none : None ≡ Some t = is in cc)
true_at run (first ∷ told) zero t are is = subst (IsTrueOf run) (let e : Some first ≡ Some t = is in cc) are.0
true_at run (first ∷ told) (suc k) t are is = true_at run told k t are.1 is

-- a row of a run by what is reported of it
pub told_is : (run : List Member) (told : List ToldRow) (rows : ℕ) (places : List ℕ) (row place : ℕ) (t : ToldRow)
    → ArePlaced told (length told) rows places → slice_get places row ≡ Some place → slice_get told place ≡ Some t → AreTrueOf run told
    → (m : Member) × (slice_get run row ≡ Some m) × (m.behaviour ≡ behaviour_in t.instance)
told_is run told rows places row place t placed is there are =
    let one = true_at run told place t are there in
    let same : t.row ≡ row = (placed.each row place is).there t there in
    (one.member, ap (slice_get run) (sym same) ∙ one.is, one.behaviour_is)

-- one row more by what is reported of it
pub one_more_row : (run : List Member) (told : List ToldRow) (rows : ℕ) (places : List ℕ) (row place : ℕ) (t : ToldRow) (instances after : List Instance)
    → ArePlaced told (length told) rows places → slice_get places row ≡ Some place → slice_get told place ≡ Some t → AreTrueOf run told
    → map behaviour_in instances ≡ map (λ m. m.behaviour) (take row run) → after ≡ instances ++ t.instance ∷ []
    → map behaviour_in after ≡ map (λ m. m.behaviour) (take (row + 1) run)
one_more_row run told rows places row place t instances after placed is there are before more =
    let one = told_is run told rows places row place t placed is there are in
    ap (map behaviour_in) more ∙ map-append behaviour_in instances (t.instance ∷ [])
    ∙ ap (λ bs. bs ++ behaviour_in t.instance ∷ []) before ∙ ap (λ b. map (λ (m : Member). m.behaviour) (take row run) ++ b ∷ []) (sym one.2)
    ∙ sym (map-append (λ (m : Member). m.behaviour) (take row run) (one.0 ∷ []))
    ∙ ap (map (λ (m : Member). m.behaviour)) (sym (take_next run row one.0 one.1))
    ∙ ap (λ n. map (λ (m : Member). m.behaviour) (take n run)) (let e : suc row ≡ row + 1 = omega arith in e)
