-- The ends that are left, remedy by remedy.
use Rattle.std.proofs.Common.{◌≡◌, ℕ, ◌+◌, List, length, get_or, Some, subst, arith}
use Rattle.std.specs.Prelude.{slice_get}
use Rattle.std.specs.List.{AllZip, range_with_len}
use Rattle.std.proofs.lemmas.Option.{get_or_from_slice_get, slice_get_within}
use Rattle.boc_plans.proofs.Numbered.{range_long, range_at}
use Rattle.boc_remedies.specs.declared.ends.Ends.{Ends}
use Rattle.boc_remedies.specs.Questions.{Asked}
use Rattle.boc_remedies.specs.declared.remedy.Remedy.{Remedy}
use Rattle.boc_remedies.specs.Ends.{AreAllEnds, AreEndsAfter}

-- the ends that are left with the remedy at this place
abbrev pub AreEndsAt : Asked → List Remedy → ℕ → Ends → Type 0
AreEndsAt question remedies place ends = (remedy : Remedy) → slice_get remedies place ≡ Some remedy → AreEndsAfter question remedy ends

-- all ends, from the places of the remedies
pub all_from_places : (question : Asked) (remedies : List Remedy) (all : List Ends)
    → AllZip (λ (place : ℕ) (ends : Ends). AreEndsAt question remedies place ends) (range_with_len 0 (length remedies)) all
    → AreAllEnds question remedies all
all_from_places question remedies all z =
    let P : ℕ → Ends → Type 0 = λ (place : ℕ) (ends : Ends). AreEndsAt question remedies place ends in
    record {
      whole = range_long P 0 (length remedies) all z;
      at = λ k remedy ends there is. (
          let e : 0 + k ≡ k = omega arith in
          let got : P (0 + k) (get_or all k ends) = range_at P ends 0 (length remedies) all z k (slice_get_within remedies k remedy there) in
          let same : get_or all k ends ≡ ends = get_or_from_slice_get all k ends ends is in
          subst (λ (x : Ends). P k x) same (subst (λ (place : ℕ). P place (get_or all k ends)) e got) remedy there);
    }
