-- When the digits of a text are those of a number.
use Rattle.std.proofs.Common.{◌≡◌, ℕ, ◌+◌, ◌-◌, ◌*◌, ◌^◌, ◌<◌, ◌≤◌, List, [], ◌∷◌, length, get_or, take, drop, arith, sym, ap, subst, ◌∙◌, refl, decimal, zero}
use Rattle.std.proofs.Common.{suc, lit<}
use Rattle.std.specs.Prelude.{fold, Bool, false, Option, Some, None, MatchOption}
use Rattle.std.specs.Str.Parse.{AllDigits, digits_value}
use Rattle.std.specs.Int.{IsInRange}
use Rattle.std.specs.Char.{is_ascii_digit}
use Rattle.std.proofs.lemmas.Bool.Decides.{nat_tests}
use Rattle.std.proofs.lemmas.Str.Parse.{IsNumeralModel, FoldsDigits, numerals_by_fold, numerals_by_value, tells_digits, tells_by_index}
use Rattle.std.proofs.lemmas.Fmt.{digits_decimal, digits_value-decimal, decimal-digits_value, decimal_nonempty, decimal_digit, first_decimal}
use Rattle.std.proofs.lemmas.List.Sums.{fold-append, fold_more}
use Rattle.std.proofs.lemmas.List.{take-append-drop, take_all}

-- the number so far, and then digits
abbrev pub value_after : ℕ → List ℕ → ℕ
value_after n ds = fold (λ v d. 10 * v + (d - 48)) n ds

abbrev pub value_of : List ℕ → ℕ
value_of ds = value_after 0 ds

-- each byte is a digit
abbrev pub AreDigits : List ℕ → Type 0
AreDigits ds = (i : ℕ) → i < length ds → IsInRange 48 57 (get_or ds i 0)

folds : FoldsDigits value_after
folds = record { empty = λ n. refl; more = λ n c cs h. ap (λ v. value_after (v + (c - 48)) cs) (omega arith) }

std_own : IsNumeralModel (AllDigits 10) (digits_value 10)
std_own = numerals_by_value (AllDigits 10) tells_digits

pub own : IsNumeralModel AreDigits value_of
own = numerals_by_fold AreDigits tells_by_index value_after folds

value_grows : (ds : List ℕ) (v : ℕ) → v ≤ value_after v ds
value_grows [] v = omega arith
value_grows (d ∷ ds) v = let h = value_grows ds (10 * v + (d - 48)) in omega arith

-- the digits so far with one more are worth at most what all are
pub value-front : (ds : List ℕ) (i : ℕ) → i < length ds → 10 * value_of (take i ds) + (get_or ds i 0 - 48) ≤ value_of ds
value-front ds i lt =
    let whole : value_after (value_of (take (i + 1) ds)) (drop (i + 1) ds) ≡ value_of ds =
    sym (fold-append (λ v d. 10 * v + (d - 48)) 0 (take (i + 1) ds) (drop (i + 1) ds)) ∙ ap value_of (take-append-drop (i + 1) ds) in
    let more = fold_more (λ v d. 10 * v + (d - 48)) 0 ds i 0 lt in
    let grows = value_grows (drop (i + 1) ds) (value_of (take (i + 1) ds)) in
    omega arith

fits : (n : ℕ) → n < 2 ^ 32 → n < 2 ^ 64
fits n h = omega arith

-- the text of a small number has digits alone, and is worth that number
pub decimal-are_digits : (n : ℕ) (ds : List ℕ) → n < 2 ^ 32 → ds ≡ decimal n → AreDigits ds
decimal-are_digits n ds h e = subst AreDigits (sym e) (digits_decimal own n (fits n h))

pub decimal_value : (n : ℕ) (ds : List ℕ) → n < 2 ^ 32 → ds ≡ decimal n → value_of ds ≡ n
decimal_value n ds h e = ap value_of e ∙ digits_value-decimal own n (fits n h)

-- a byte that is no digit is in the text of no number
pub none_with : (ds : List ℕ) (i : ℕ) → i < length ds → ¬ (IsInRange 48 57 (get_or ds i 0)) → (n : ℕ) → n < 2 ^ 32 → ds ≡ decimal n → ⊥
none_with ds i lt unlike n h e = unlike (decimal-are_digits n ds h e i lt)

-- nor are digits whose front is worth too much
pub none_above : (ds : List ℕ) (i : ℕ) → i < length ds → 2 ^ 32 ≤ 10 * value_of (take i ds) + (get_or ds i 0 - 48) → (n : ℕ) → n < 2 ^ 32 → ds ≡ decimal n → ⊥
none_above ds i lt large n h e = omega (arith, value-front ds i lt, decimal_value n ds h e)

-- the text of a number has a digit, and begins with 0 at the number 0 alone
pub leads : (n : ℕ) (ds : List ℕ) → n < 2 ^ 32 → ds ≡ decimal n → (0 < length ds) × (get_or ds 0 0 ≡ 48 → length ds ≡ 1)
leads zero ds h e = let one = ap length (e ∙ decimal_digit 0 (lit< tt)) in (omega arith, λ z. one)
leads (suc n) ds h e =
    let some = decimal_nonempty (suc n) (fits (suc n) h) in
    let first = first_decimal (suc n) (omega arith) (fits (suc n) h) in
    (subst (λ l. 0 < length l) (sym e) some, λ z. absurd (omega (arith, first, z, ap (λ l. get_or l 0 0) e)))

-- what a number is worth whose digits are all there
abbrev pub HasValue : List ℕ → Option ℕ → Type 0
HasValue ds r = MatchOption r ((n : ℕ) → n < 2 ^ 32 → ds ≡ decimal n → ⊥) (λ n. (n < 2 ^ 32) × AllDigits 10 ds × (digits_value 10 ds ≡ n))

pub number_read : (ds : List ℕ) (r : Option ℕ) → 0 < length ds → (get_or ds 0 0 ≡ 48 → length ds ≡ 1) → HasValue ds r
    → MatchOption r ((n : ℕ) → n < 2 ^ 32 → ds ≡ decimal n → ⊥) (λ n. ds ≡ decimal n)
number_read ds None some lead h = h
number_read ds (Some n) some lead h =
    let small : digits_value 10 ds < 2 ^ 64 = omega (arith, h.2, h.0) in
    sym (decimal-digits_value std_own ds h.1 some lead small) ∙ ap decimal h.2

pub no_digit : (b : ℕ) (r : Bool) → r ≡ is_ascii_digit b → r ≡ false → ¬ (IsInRange 48 57 b)
no_digit b r e failed h = let f : is_ascii_digit b ≡ false = sym e ∙ failed in grind (arith, nat_tests)

-- where the loop over the digits has come to its end, the number is what they are worth
pub all_read : (ds : List ℕ) (i n : ℕ) → n < 2 ^ 32 → length ds ≤ i → ((k : ℕ) → k < i → IsInRange 48 57 (get_or ds k 0)) → n ≡ value_of (take i ds)
    → i ≤ length ds → (n < 2 ^ 32) × AllDigits 10 ds × (digits_value 10 ds ≡ n)
all_read ds i n small end digits value within =
    let all : AllDigits 10 ds = own.to ds (λ k h. digits k (omega arith)) in
    (small, all, sym (own.same ds all) ∙ sym (value ∙ ap value_of (take_all i ds end)))
