-- Lists that are kept in two parts, of which the first items count.
use Rattle.std.proofs.Common.{◌≡◌, ◌∙◌, ℕ, zero, suc, ◌-◌, ◌<◌, ◌≤◌, List, [], ◌∷◌, ◌++◌, length, get_or, set, take, refl, sym, ap, arith}
use Rattle.std.specs.Prelude.{slice_get, Some}
use Rattle.std.proofs.lemmas.List.{set-append_left}
use Rattle.std.proofs.lemmas.Option.{slice_get_read}
use Rattle.std.proofs.Math.Seq.{take-set-lt}

-- an item of the first part
pub first_at : {A : Type 0} (xs ys : List A) (i : ℕ) → i < length xs → slice_get (xs ++ ys) i ≡ slice_get xs i
first_at [] ys i h = absurd (omega arith)
first_at (x ∷ xs) ys zero h = refl
first_at (x ∷ xs) ys (suc i) h = first_at xs ys i (omega arith)

-- an item of the second part
pub rest_at : {A : Type 0} (xs ys : List A) (i : ℕ) → length xs ≤ i → slice_get (xs ++ ys) i ≡ slice_get ys (i - length xs)
rest_at [] ys i h = ap (slice_get ys) (let e : i ≡ i - 0 = omega arith in e)
rest_at (x ∷ xs) ys zero h = absurd (omega arith)
rest_at (x ∷ xs) ys (suc i) h = rest_at xs ys i (omega arith) ∙ ap (slice_get ys) (let e : i - length xs ≡ suc i - suc (length xs) = omega arith in e)

-- writing over an item of the second part
pub set_rest : {A : Type 0} (xs ys : List A) (i : ℕ) (a : A) → length xs ≤ i → set (xs ++ ys) i a ≡ xs ++ set ys (i - length xs) a
set_rest [] ys i a h = ap (λ n. set ys n a) (let e : i ≡ i - 0 = omega arith in e)
set_rest (x ∷ xs) ys zero a h = absurd (omega arith)
set_rest (x ∷ xs) ys (suc i) a h = ap (λ l. x ∷ l) (set_rest xs ys i a (omega arith)
    ∙ ap (λ n. xs ++ set ys n a) (let e : i - length xs ≡ suc i - suc (length xs) = omega arith in e))

-- what stands at a place is what was read there
read_is : {A : Type 0} (xs : List A) (i : ℕ) (r l : A) → i < length xs → r ≡ get_or xs i r → slice_get xs i ≡ Some l → r ≡ l
read_is xs i r l h is got = let e : Some r ≡ Some l = sym (slice_get_read xs (length xs) i r refl h is) ∙ got in cc

-- changing an item of the first part
pub changed_first : {A : Type 0} (f : A → A) (xs ys : List A) (i : ℕ) (r x l : A) → i < length xs → r ≡ get_or xs i r → x ≡ f (get_or xs i r)
    → slice_get (xs ++ ys) i ≡ Some l
    → set xs i x ++ ys ≡ set (xs ++ ys) i (f l)
changed_first f xs ys i r x l h is new got =
    ap (λ a. set xs i a ++ ys) (new ∙ ap f (sym is ∙ read_is xs i r l h is (sym (first_at xs ys i h) ∙ got)))
    ∙ sym (set-append_left xs ys i (f l) h)

-- changing an item of the second part
pub changed_rest : {A : Type 0} (f : A → A) (xs ys : List A) (i : ℕ) (r x l : A) → length xs ≤ i → i - length xs < length ys → r ≡ get_or ys (i - length xs) r
    → x ≡ f (get_or ys (i - length xs) r) → slice_get (xs ++ ys) i ≡ Some l
    → xs ++ set ys (i - length xs) x ≡ set (xs ++ ys) i (f l)
changed_rest f xs ys i r x l past h is new got =
    ap (λ a. xs ++ set ys (i - length xs) a) (new ∙ ap f (sym is ∙ read_is ys (i - length xs) r l h is (sym (rest_at xs ys i past) ∙ got)))
    ∙ sym (set_rest xs ys i (f l) past)

-- an item of the first n
taken_at : {A : Type 0} (n : ℕ) (xs : List A) (i : ℕ) → i < n → slice_get (take n xs) i ≡ slice_get xs i
taken_at zero xs i h = absurd (omega arith)
taken_at (suc n) [] i h = refl
taken_at (suc n) (x ∷ xs) zero h = refl
taken_at (suc n) (x ∷ xs) (suc i) h = taken_at n xs i (omega arith)

-- changing an item of the first n
pub changed_taken : {A : Type 0} (f : A → A) (n : ℕ) (xs ys : List A) (i : ℕ) (l : A) → i < n → ((k : A) → slice_get xs i ≡ Some k → ys ≡ set xs i (f k))
    → slice_get (take n xs) i ≡ Some l
    → take n ys ≡ set (take n xs) i (f l)
changed_taken f n xs ys i l h change got = ap (take n) (change l (sym (taken_at n xs i h) ∙ got)) ∙ take-set-lt n xs i (f l) h
