-- Remedies that are counted.
use Rattle.std.proofs.Common.{◌≡◌, ℕ, zero, suc, ◌+◌, Bool, true, false, List, [], ◌∷◌, ◌++◌, length, arith, refl, ap, sym, Some, None}
use Rattle.std.specs.Prelude.{slice_get, slice_set}
use Rattle.boc_remedies.specs.declared.remedy.Remedy.{Remedy}
use Rattle.boc_remedies.specs.InOrder.{first_place}
use Rattle.boc_remedies.specs.Remedies.{is_same}
use Rattle.boc_many_runs.specs.declared.counted.Counted.{Counted}
use Rattle.boc_many_runs.specs.Union.{counted}

abbrev pub is_of : Remedy → Counted → Bool
is_of remedy c = is_same c.remedy remedy

-- one that is there is raised
there_by : (c : Counted) (all : List Counted) (remedy : Remedy) (own : Counted)
    → ((k : ℕ) → k ≡ first_place (is_of remedy) all → slice_get all k ≡ Some own → slice_set all k (record own { runs = own.runs + 1 }) ≡ counted all remedy)
    → (b : Bool) → is_of remedy c ≡ b → (k : ℕ) → k ≡ first_place (is_of remedy) (c ∷ all) → slice_get (c ∷ all) k ≡ Some own
    → slice_set (c ∷ all) k (record own { runs = own.runs + 1 }) ≡ counted (c ∷ all) remedy
there_by c all remedy own rest true e zero k_is got = let same : c ≡ own = (let g : Some c ≡ Some own = got in cc) in rw (sym same) (rw e refl)
there_by c all remedy own rest true e (suc k) k_is got = absurd (let none : suc k ≡ 0 = rw e at k_is in omega (arith, none))
there_by c all remedy own rest false e zero k_is got =
    absurd (let some : 0 ≡ suc (first_place (is_of remedy) all) = rw e at k_is in omega (arith, some))
there_by c all remedy own rest false e (suc k) k_is got =
    let next : suc k ≡ suc (first_place (is_of remedy) all) = rw e at k_is in
    rw e (ap (λ xs. c ∷ xs) (rest k (omega (arith, next)) got))

pub counted_there : (all : List Counted) (remedy : Remedy) (place : ℕ) (own : Counted) → place ≡ first_place (is_of remedy) all
    → slice_get all place ≡ Some own → slice_set all place (record own { runs = own.runs + 1 }) ≡ counted all remedy
counted_there [] remedy place own at is = absurd (let g : None ≡ Some own = is in cc)
counted_there (c ∷ all) remedy place own at is =
    there_by c all remedy own (λ k k_is got. counted_there all remedy k own k_is got) (is_of remedy c) refl place at is

-- one that is new comes last
new_by : (c : Counted) (all : List Counted) (remedy : Remedy)
    → (length all ≡ first_place (is_of remedy) all → counted all remedy ≡ all ++ record { remedy = remedy; runs = 1 } ∷ [])
    → length (c ∷ all) ≡ first_place (is_of remedy) (c ∷ all) → (b : Bool) → is_of remedy c ≡ b
    → counted (c ∷ all) remedy ≡ c ∷ (all ++ record { remedy = remedy; runs = 1 } ∷ [])
new_by c all remedy rest long true e = absurd (let none : length (c ∷ all) ≡ 0 = rw e at long in omega (arith, none))
new_by c all remedy rest long false e =
    let next : length (c ∷ all) ≡ suc (first_place (is_of remedy) all) = rw e at long in
    rw e (ap (λ xs. c ∷ xs) (rest (omega (arith, next))))

pub counted_new : (all : List Counted) (remedy : Remedy) → length all ≡ first_place (is_of remedy) all
    → counted all remedy ≡ all ++ record { remedy = remedy; runs = 1 } ∷ []
counted_new [] remedy at = refl
counted_new (c ∷ all) remedy at = new_by c all remedy (counted_new all remedy) at (is_of remedy c) refl
