-- What comes after the first token doesn't matter.
use Rattle.std.proofs.Common.{◌≡◌, ◌∙◌, ℕ, zero, suc, ◌+◌, ◌<◌, ◌≤◌, ◌⊎◌, ◌++◌, ◌||◌, ◌==◌, inl, inr, Bool, true, false, true≢false, List, [], ◌∷◌}
use Rattle.std.proofs.Common.{length, codes, refl, ap, sym, subst, arith}
use Rattle.std.proofs.lemmas.Bool.Decides.{nat_tests}
use Rattle.std.specs.Prelude.{cond, if◌then◌else◌, nat_lt}
use Rattle.std.specs.Str.{byte, bytes_eq}
use Rattle.std.specs.List.{take_while}
use Rattle.std.proofs.lemmas.List.Sums.{take_while-cons}
use Rattle.std.proofs.lemmas.Slice.Eq.{bytes_eq-Decides}
use Rattle.boc_reader.specs.Tokens.{is_blank, is_name_byte}
use Rattle.boc_input.specs.FirstTokens.{begins_program, first_run, from_token, is_told, opens}

-- behind a first token that is there the text goes on as it does
abbrev Kept : Bool → List ℕ → List ℕ → Type 0
Kept inside xs ys = 0 < length (from_token inside xs) → from_token inside (xs ++ ys) ≡ from_token inside xs ++ ys

pub token_kept : (inside : Bool) (xs ys : List ℕ) → Kept inside xs ys
token_kept inside [] ys some = absurd (omega (arith, some))
token_kept true (b ∷ bs) ys some = go (b == byte "\n") (token_kept false bs ys) (token_kept true bs ys) some
  where
    go : (test : Bool) → Kept false bs ys → Kept true bs ys → 0 < length (if test then from_token false bs else from_token true bs)
        → (if test then from_token false (bs ++ ys) else from_token true (bs ++ ys)) ≡ (if test then from_token false bs else from_token true bs) ++ ys
    go true outside inside some = outside some
    go false outside inside some = inside some
token_kept false (b ∷ bs) ys some = go (b == byte "#") (is_blank b) (token_kept false bs ys) (token_kept true bs ys) some
  where
    go : (comment blank : Bool) → Kept false bs ys → Kept true bs ys
        → 0 < length (if comment then from_token true bs else if blank then from_token false bs else b ∷ bs)
        → (if comment then from_token true (bs ++ ys) else if blank then from_token false (bs ++ ys) else b ∷ bs ++ ys)
        ≡ (if comment then from_token true bs else if blank then from_token false bs else b ∷ bs) ++ ys
    go true blank outside inside some = inside some
    go false true outside inside some = outside some
    go false false outside inside some = refl

-- a run that ends within a text is that of the longer text
pub run_kept : (p : ℕ → Bool) (xs ys : List ℕ) → length (take_while p xs) < length xs → take_while p (xs ++ ys) ≡ take_while p xs
run_kept p [] ys ends = absurd (omega (arith, ends))
run_kept p (b ∷ bs) ys ends =
    take_while-cons p b (bs ++ ys)
    ∙ go (p b) (run_kept p bs ys) (subst (λ run. length run < suc (length bs)) (take_while-cons p b bs) ends) ∙ sym (take_while-cons p b bs)
  where
    go : (test : Bool) → (length (take_while p bs) < length bs → take_while p (bs ++ ys) ≡ take_while p bs)
        → length (cond test (b ∷ take_while p bs) []) < suc (length bs)
        → cond test (b ∷ take_while p (bs ++ ys)) [] ≡ cond test (b ∷ take_while p bs) []
    go true kept ends = ap (λ run. b ∷ run) (kept (omega (arith, ends)))
    go false kept ends = refl

-- and a longer text has no shorter run
pub run_grows : (p : ℕ → Bool) (xs ys : List ℕ) → length (take_while p xs) ≤ length (take_while p (xs ++ ys))
run_grows p [] ys = omega arith
run_grows p (b ∷ bs) ys =
    subst (λ run. length run ≤ length (take_while p (b ∷ bs ++ ys))) (sym (take_while-cons p b bs))
    (subst (λ run. length (cond (p b) (b ∷ take_while p bs) []) ≤ length run) (sym (take_while-cons p b (bs ++ ys))) (go (p b) (run_grows p bs ys)))
  where
    go : (test : Bool) → length (take_while p bs) ≤ length (take_while p (bs ++ ys))
        → length (cond test (b ∷ take_while p bs) []) ≤ length (cond test (b ∷ take_while p (bs ++ ys)) [])
    go true grows = omega (arith, grows)
    go false grows = omega arith

-- a run is no longer than its text
run_within : (p : ℕ → Bool) (xs : List ℕ) → length (take_while p xs) ≤ length xs
run_within p [] = omega arith
run_within p (b ∷ bs) = subst (λ run. length run ≤ suc (length bs)) (sym (take_while-cons p b bs)) (go (p b) (run_within p bs))
  where
    go : (test : Bool) → length (take_while p bs) ≤ length bs → length (cond test (b ∷ take_while p bs) []) ≤ suc (length bs)
    go true within = omega (arith, within)
    go false within = omega arith

-- a word that a program begins with is short
opens_short : (run : List ℕ) → opens run ≡ true → length run ≤ 4
opens_short run is = go (bytes_eq run (codes "cown")) (bytes_eq run (codes "def")) (bytes_eq run (codes "main")) refl refl refl is
  where
    long : (word : List ℕ) → length word ≤ 4 → bytes_eq run word ≡ true → length run ≤ 4
    long word few same = subst (λ w. length w ≤ 4) (sym ((bytes_eq-Decides run word).0 same)) few

    go : (cown def main : Bool) → bytes_eq run (codes "cown") ≡ cown → bytes_eq run (codes "def") ≡ def → bytes_eq run (codes "main") ≡ main
        → (cown || def || main) ≡ true → length run ≤ 4
    go true def main a b c h = long (codes "cown") (omega arith) a
    go false true main a b c h = long (codes "def") (omega arith) b
    go false false true a b c h = long (codes "main") (omega arith) c
    go false false false a b c h = cc

-- a longer run is none
pub long_opens_none : (run : List ℕ) → 4 < length run → opens run ≡ false
long_opens_none run long = go (opens run) refl
  where
    go : (test : Bool) → opens run ≡ test → test ≡ false
    go true is = absurd (let few = opens_short run is in omega (arith, few, long))
    go false is = refl

-- a first token that ends within a text, or is too long, tells whether a program begins so
told_by : (text : List ℕ) → (length (first_run text) < length (from_token false text)) ⊎ (4 < length (first_run text)) → (more : List ℕ)
    → begins_program (text ++ more) ≡ begins_program text
told_by text (inl ends) more =
    let kept : from_token false (text ++ more) ≡ from_token false text ++ more = token_kept false text more (omega (arith, ends)) in
    ap opens (ap (take_while is_name_byte) kept ∙ run_kept is_name_byte (from_token false text) more ends)
told_by text (inr long) more =
    let some : length (first_run text) ≤ length (from_token false text) = run_within is_name_byte (from_token false text) in
    let kept : from_token false (text ++ more) ≡ from_token false text ++ more = token_kept false text more (omega (arith, long, some)) in
    let grows : length (first_run text) ≤ length (take_while is_name_byte (from_token false text ++ more)) =
    run_grows is_name_byte (from_token false text) more in
    let after : length (first_run text) ≤ length (first_run (text ++ more)) =
    subst (λ rest. length (first_run text) ≤ length (take_while is_name_byte rest)) (sym kept) grows in
    long_opens_none (first_run (text ++ more)) (omega (arith, long, after)) ∙ sym (long_opens_none (first_run text) long)

-- a test that a number is less, or that it is not
pub less_than : (a b : ℕ) → nat_lt a b ≡ true → a < b
less_than a b is = grind (arith, nat_tests)

pub no_less : (a b : ℕ) → nat_lt a b ≡ false → b ≤ a
no_less a b is = grind (arith, nat_tests)

pub told : (text more : List ℕ) → is_told text ≡ true → begins_program (text ++ more) ≡ begins_program text
told text more is =
    told_by text (go (nat_lt (length (first_run text)) (length (from_token false text))) (nat_lt 4 (length (first_run text))) refl refl is) more
  where
    go : (ends long : Bool) → nat_lt (length (first_run text)) (length (from_token false text)) ≡ ends → nat_lt 4 (length (first_run text)) ≡ long
        → (ends || long) ≡ true → (length (first_run text) < length (from_token false text)) ⊎ (4 < length (first_run text))
    go true long a b h = inl (less_than (length (first_run text)) (length (from_token false text)) a)
    go false true a b h = inr (less_than 4 (length (first_run text)) b)
    go false false a b h = cc
