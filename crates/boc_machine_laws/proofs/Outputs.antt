-- Values after outputs are written to cowns, and inputs read from values, cown by cown.
use Rattle.std.proofs.Common.{◌≡◌, ◌≢◌, ℕ, zero, suc, ◌<◌, ◌≤◌, inl, inr, List, [], ◌∷◌, ◌++◌, length, take, refl, sym, ◌∙◌, ap, subst, arith, ℤ, pos}
use Rattle.std.proofs.Common.{length-set}
use Rattle.std.specs.Prelude.{slice_get, slice_set, slice_index_or, Some, None}
use Rattle.std.specs.List.{Contains}
use Rattle.std.proofs.lemmas.Bool.{cases_lt}
use Rattle.boc_program.specs.declared.short.Input.{Input}
use Rattle.boc_runs.specs.Serial.{inputs_of, after_outputs}
use Rattle.boc_runs.specs.machine.Queues.{times}
use Rattle.boc_program.proofs.ChangedItems.{set_same, set_other, none_past}
use Rattle.boc_program.proofs.RisingNumbers.{has_first, has_later}
use Rattle.boc_machine_laws.proofs.Lists.{same_or_not, times-here, times-other}

-- a number that stands in a list is contained in it
pub contains_times : (c : ℕ) (cs : List ℕ) → 0 < times c cs → Contains cs c
contains_times c [] h = absurd (omega (arith, h))
contains_times c (d ∷ cs) h =
    elim (same_or_not d c) [
      | inl e ↦ subst (λ (z : ℕ). Contains (z ∷ cs) c) (sym e) (has_first c cs)
      | inr n ↦ has_later d c cs (contains_times c cs (subst (λ (k : ℕ). 0 < k) (times-other c d cs n) h))
    ]

-- one value written to a cown that isn't this one
pub outputs_elsewhere : (values : List ℤ) (cs : List ℕ) (vs : List ℤ) (d : ℕ) → times d cs ≡ 0
    → slice_get (after_outputs values cs vs) d ≡ slice_get values d
outputs_elsewhere values [] vs d h = refl
outputs_elsewhere values (c ∷ cs) [] d h = refl
outputs_elsewhere values (c ∷ cs) (v ∷ vs) d h =
    let apart : d ≢ c = λ e. omega (arith, h, ap (λ z. times z (c ∷ cs)) e, times-here c cs) in
    outputs_elsewhere (slice_set values c v) cs vs d (omega (arith, h, times-other d c cs (λ e. apart (sym e))))
    ∙ set_other values c d v apart

set_alike : (values others : List ℤ) (c d : ℕ) (v : ℤ) → length values ≡ length others
    → slice_get values d ≡ slice_get others d → slice_get (slice_set values c v) d ≡ slice_get (slice_set others c v) d
set_alike values others c d v l e =
    elim (same_or_not d c) [
      | inl q ↦ elim (cases_lt c (length values)) [
        | inl low ↦ ap (slice_get (slice_set values c v)) q ∙ set_same values c v low
            ∙ sym (ap (slice_get (slice_set others c v)) q ∙ set_same others c v (omega (arith, low, l)))
        | inr high ↦ none_past (slice_set values c v) d (omega (arith, high, q, length-set values c v))
            ∙ sym (none_past (slice_set others c v) d (omega (arith, high, q, l, length-set others c v)))
      ]
      | inr n ↦ set_other values c d v n ∙ e ∙ sym (set_other others c d v n)
    ]

-- the same outputs, where a cown's value was the same
pub outputs_alike : (values others : List ℤ) (cs : List ℕ) (vs : List ℤ) (d : ℕ) → length values ≡ length others
    → slice_get values d ≡ slice_get others d
    → slice_get (after_outputs values cs vs) d ≡ slice_get (after_outputs others cs vs) d
outputs_alike values others [] vs d l e = e
outputs_alike values others (c ∷ cs) [] d l e = e
outputs_alike values others (c ∷ cs) (v ∷ vs) d l e =
    outputs_alike (slice_set values c v) (slice_set others c v) cs vs d
    (omega (arith, l, length-set values c v, length-set others c v)) (set_alike values others c d v l e)

-- ---- reading

read_alike : (values others : List ℤ) (d : ℕ) (z : ℤ) → slice_get values d ≡ slice_get others d
    → slice_index_or values d z ≡ slice_index_or others d z
read_alike [] [] d z e = refl
read_alike [] (y ∷ others) zero z e = absurd (let f : None ≡ Some y = e in cc)
read_alike [] (y ∷ others) (suc d) z e = read_alike [] others d z e
read_alike (x ∷ values) [] zero z e = absurd (let f : Some x ≡ None = e in cc)
read_alike (x ∷ values) [] (suc d) z e = read_alike values [] d z e
read_alike (x ∷ values) (y ∷ others) zero z e = (let f : Some x ≡ Some y = e in cc)
read_alike (x ∷ values) (y ∷ others) (suc d) z e = read_alike values others d z e

-- what stands in a list stands in it with one more in front
more : (c d : ℕ) (cs : List ℕ) → 0 < times d cs → 0 < times d (c ∷ cs)
more c d cs h =
    elim (same_or_not c d) [
      | inl e ↦ omega (arith, ap (λ z. times d (z ∷ cs)) e, times-here d cs)
      | inr n ↦ omega (arith, h, times-other d c cs n)
    ]

-- the same inputs, where the values of the cowns are the same
pub inputs_alike : (cs : List ℕ) (values others : List ℤ)
    → ((d : ℕ) → 0 < times d cs → slice_get values d ≡ slice_get others d) → inputs_of cs values ≡ inputs_of cs others
inputs_alike [] values others e = refl
inputs_alike (c ∷ cs) values others e =
    let first : slice_index_or values c (pos 0) ≡ slice_index_or others c (pos 0) =
    read_alike values others c (pos 0) (e c (omega (arith, times-here c cs))) in
    let one : ℤ → Input = λ v. record { cown = c; value = v } in
    ap (λ v. one v ∷ inputs_of cs values) first
    ∙ ap (λ zs. one (slice_index_or others c (pos 0)) ∷ zs) (inputs_alike cs values others (λ d h. e d (more c d cs h)))

-- lists with the same items are the same
pub same_items : {A : Type 0} (xs ys : List A) → length xs ≡ length ys → ((i : ℕ) → slice_get xs i ≡ slice_get ys i)
    → xs ≡ ys
same_items [] [] l e = refl
same_items [] (y ∷ ys) l e = absurd (omega (arith, l))
same_items (x ∷ xs) [] l e = absurd (omega (arith, l))
same_items (x ∷ xs) (y ∷ ys) l e =
    let first : x ≡ y = (let f : Some x ≡ Some y = e 0 in cc) in
    ap (λ z. z ∷ xs) first ∙ ap (λ zs. y ∷ zs) (same_items xs ys (omega (arith, l)) (λ i. e (suc i)))

-- ---- beginnings of lists

pub take_more : (n : ℕ) (xs : List ℕ) (x : ℕ) → n ≤ length xs → take n (xs ++ (x ∷ [])) ≡ take n xs
take_more zero xs x h = refl
take_more (suc n) [] x h = absurd (omega arith)
take_more (suc n) (y ∷ xs) x h = ap (λ zs. y ∷ zs) (take_more n xs x (omega arith))

pub take_all_of : (n : ℕ) (xs : List ℕ) → length xs ≤ n → take n xs ≡ xs
take_all_of zero [] h = refl
take_all_of (suc n) [] h = refl
take_all_of zero (x ∷ xs) h = absurd (omega arith)
take_all_of (suc n) (x ∷ xs) h = ap (λ zs. x ∷ zs) (take_all_of n xs (omega arith))
