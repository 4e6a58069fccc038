-- Lists of numbers: how often one stands there, and where.
use Rattle.std.proofs.Common.{zero, suc, ◌≡◌, ℕ, ◌+◌, ◌<◌, ◌≤◌, ◌≢◌, ◌⊎◌, Bool, true, false, cond, ◌&&◌, eqb, List, [], ◌∷◌, ◌++◌, length, get_or, refl, sym}
use Rattle.std.proofs.Common.{◌∙◌, ap, subst, inl, inr, arith, append_assoc}
use Rattle.std.specs.Prelude.{Option, Some, None}
use Rattle.std.proofs.lemmas.Bool.{cases_eq}
use Rattle.std.proofs.lemmas.Bool.Decides.{Decides-eqb}
use Rattle.boc_runs.specs.machine.Queues.{times}

-- two numbers are one or not
pub same_or_not : (x y : ℕ) → (x ≡ y) ⊎ (x ≢ y)
same_or_not x y = cases_eq x y

pub times-append : (x : ℕ) (xs ys : List ℕ) → times x (xs ++ ys) ≡ times x xs + times x ys
times-append x [] ys = omega arith
times-append x (y ∷ xs) ys = omega (arith, times-append x xs ys)

pub times-here : (x : ℕ) (xs : List ℕ) → times x (x ∷ xs) ≡ 1 + times x xs
times-here x xs = ap (λ b. cond b 1 0 + times x xs) ((Decides-eqb x x).1 refl)

pub times-other : (x y : ℕ) (xs : List ℕ) → y ≢ x → times x (y ∷ xs) ≡ times x xs
times-other x y xs h =
    elim (eqb y x) as (λ b. (b ≡ true → y ≡ x) → cond b 1 0 + times x xs ≡ times x xs) [
      | true ↦ λ k. absurd (h (k refl))
      | false ↦ λ k. omega arith
    ] (Decides-eqb y x).0

-- where it stands
pub found : (x : ℕ) (xs : List ℕ) → 0 < times x xs → (ahead : List ℕ) × (behind : List ℕ) × (xs ≡ ahead ++ (x ∷ behind))
found x [] h = absurd (omega arith)
found x (y ∷ xs) h =
    elim (same_or_not y x) [
      | inl e ↦ ([], xs, ap (λ z. z ∷ xs) e)
      | inr n ↦
          let rest = found x xs (subst (λ (k : ℕ). 0 < k) (times-other x y xs n) h) in
          (y ∷ rest.0, rest.1, ap (λ zs. y ∷ zs) rest.2)
    ]

-- a list has a last, or is empty
pub last_of : (xs : List ℕ) → (xs ≡ []) ⊎ ((front : List ℕ) × (x : ℕ) × (xs ≡ front ++ (x ∷ [])))
last_of [] = inl refl
last_of (x ∷ xs) =
    elim (last_of xs) [
      | inl e ↦ inr ([], x, ap (λ ys. x ∷ ys) e)
      | inr p ↦ inr (x ∷ p.0, p.1, ap (λ ys. x ∷ ys) p.2)
    ]

-- one end added
pub end_injective : (xs ys : List ℕ) (x y : ℕ) → xs ++ (x ∷ []) ≡ ys ++ (y ∷ []) → (xs ≡ ys) × (x ≡ y)
end_injective [] [] x y e = (refl, cc)
end_injective [] (b ∷ []) x y e = absurd (let f : x ∷ [] ≡ b ∷ (y ∷ []) = e in cc)
end_injective [] (b ∷ (c ∷ ys)) x y e = absurd (let f : x ∷ [] ≡ b ∷ (c ∷ (ys ++ (y ∷ []))) = e in cc)
end_injective (a ∷ []) [] x y e = absurd (let f : a ∷ (x ∷ []) ≡ y ∷ [] = e in cc)
end_injective (a ∷ (c ∷ xs)) [] x y e = absurd (let f : a ∷ (c ∷ (xs ++ (x ∷ []))) ≡ y ∷ [] = e in cc)
end_injective (a ∷ xs) (b ∷ ys) x y e =
    let f : a ∷ (xs ++ (x ∷ [])) ≡ b ∷ (ys ++ (y ∷ [])) = e in
    let rest = end_injective xs ys x y (cc) in
    let h : a ≡ b = cc in
    (ap (λ z. z ∷ xs) h ∙ ap (λ zs. b ∷ zs) rest.0, rest.1)

-- a place in a list with one more at the end is the end, or a place in the list
pub place_in_longer : (xs ahead behind : List ℕ) (w x : ℕ) → xs ++ (w ∷ []) ≡ ahead ++ (x ∷ behind)
    → ((behind ≡ []) × (x ≡ w) × (xs ≡ ahead)) ⊎
    ((rest : List ℕ) × (behind ≡ rest ++ (w ∷ [])) × (xs ≡ ahead ++ (x ∷ rest)))
place_in_longer xs ahead behind w x e =
    elim (last_of behind) [
      | inl n ↦
          let h = end_injective xs ahead w x (e ∙ ap (λ zs. ahead ++ (x ∷ zs)) n) in
          inl (n, sym h.1, h.0)
      | inr p ↦
          let h = end_injective xs (ahead ++ (x ∷ p.0)) w p.1
          (e ∙ ap (λ zs. ahead ++ (x ∷ zs)) p.2 ∙ sym (append_assoc ahead (x ∷ p.0) (p.1 ∷ []))) in
          inr (p.0, p.2 ∙ ap (λ z. p.0 ++ (z ∷ [])) (sym h.1), h.0)
    ]

-- ---- reading at a place, with a default

pub read_there : {A : Type 0} (xs : List (Option A)) (i : ℕ) (x : A) → get_or xs i None ≡ Some x → i < length xs
read_there [] i x e = absurd (let f : None ≡ Some x = e in cc)
read_there (y ∷ xs) zero x e = omega arith
read_there (y ∷ xs) (suc i) x e = omega (arith, read_there xs i x e)

pub read_past : {A : Type 0} (xs : List (Option A)) (i : ℕ) → length xs ≤ i → get_or xs i None ≡ None
read_past [] i h = refl
read_past (y ∷ xs) zero h = absurd (omega arith)
read_past (y ∷ xs) (suc i) h = read_past xs i (omega arith)

pub read_pushed : {A : Type 0} (xs : List (Option A)) (x : Option A) → get_or (xs ++ (x ∷ [])) (length xs) None ≡ x
read_pushed [] x = refl
read_pushed (y ∷ xs) x = read_pushed xs x

pub read_front : {A : Type 0} (xs : List (Option A)) (x : Option A) (i : ℕ) → i ≢ length xs
    → get_or (xs ++ (x ∷ [])) i None ≡ get_or xs i None
read_front [] x zero n = absurd (n refl)
read_front [] x (suc i) n = refl
read_front (y ∷ xs) x zero n = refl
read_front (y ∷ xs) x (suc i) n = read_front xs x i (λ e. n (ap suc e))

-- ---- tests

pub not_eq : (x y : ℕ) → x ≢ y → eqb x y ≡ false
not_eq x y n =
    elim (eqb x y) as (λ b. (b ≡ true → x ≡ y) → b ≡ false) [
      | true ↦ λ h. absurd (n (h refl))
      | false ↦ λ h. refl
    ] (Decides-eqb x y).0

pub not_true : (b : Bool) → (b ≡ true → ⊥) → b ≡ false
not_true true n = absurd (n refl)
not_true false n = refl

pub and_true : (a b : Bool) → (a && b) ≡ true → (a ≡ true) × (b ≡ true)
and_true true b h = (refl, h)
and_true false b h = absurd (let f : false ≡ true = h in cc)

pub no_less : (n : ℕ) → (0 < n → ⊥) → n ≡ 0
no_less zero h = refl
no_less (suc n) h = absurd (h (omega arith))

pub same_numbers : (x y : ℕ) → x ≡ y → eqb x y ≡ true
same_numbers x y e = (Decides-eqb x y).1 e
