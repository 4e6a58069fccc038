-- No byte of a string or a number in JSON is one that means something to a page.
use Rattle.std.proofs.Common.{◌≡◌, ◌≢◌, ℕ, zero, suc, ◌+◌, ◌/◌, ◌%◌, ◌<◌, ◌≤◌, ◌⊎◌, inl, inr}
use Rattle.std.proofs.Common.{Bool, true, false, cond, List, [], ◌∷◌, ◌++◌, refl, sym, ap, ◌∙◌, arith}
use Rattle.std.specs.Prelude.{◌==◌, ◌||◌, ◌&&◌, nat_lt, not, codes, decimal, flat_map}
use Rattle.std.specs.List.{list_all}
use Rattle.std.specs.Fmt.{digit_glyph, digits, digits_onto}
use Rattle.std.proofs.lemmas.Bool.Decides.{Decides-eqb, Decides-ltb, nat_tests}
use Rattle.std.proofs.lemmas.List.Folds.{list_all-append}
use Rattle.boc_names.specs.Names.{Text}
use Rattle.boc_page.specs.Json.{coded, escaped, escaped_text, is_coded, joined_lists, joined_numbers}
use Rattle.boc_page.specs.Json.{joined_strings, key_text, lists_member, lists_text, more_lists}
use Rattle.boc_page.specs.Json.{more_numbers, more_strings, number_member, numbers_member, numbers_text}
use Rattle.boc_page.specs.Json.{string_member, string_text, strings_member, strings_text}

-- whether a byte stands for itself
abbrev pub plain : ℕ → Bool
plain byte = not (is_coded byte)

-- each byte does
pub record Inert (text : Text) : Type 0 where
  pub all : list_all plain text ≡ true

-- ---- texts

pub lit : (text : Text) → list_all plain text ≡ true → Inert text
lit text is = record { all = is }

pub both : (a b : Text) → Inert a → Inert b → Inert (a ++ b)
both a b p q = record { all = list_all-append plain a b ∙ (λ i. p.all i && q.all i) }

pub flat : {A : Type 0} (f : A → Text) → ((x : A) → Inert (f x)) → (xs : List A) → Inert (flat_map f xs)
flat f h [] = record { all = refl }
flat f h (x ∷ xs) = both (f x) (flat_map f xs) (h x) (flat f h xs)

bools : (b : Bool) → (b ≡ true) ⊎ (b ≡ false)
bools true = inl refl
bools false = inr refl

choose : (b : Bool) (x y : Text) → (b ≡ true → Inert x) → (b ≡ false → Inert y) → Inert (cond b x y)
choose true x y p q = p refl
choose false x y p q = q refl

-- ---- numbers

plain_at : (b : ℕ) → 32 ≤ b → b ≢ 60 → b ≢ 62 → b ≢ 38 → plain b ≡ true
plain_at b low p q r = grind (arith, nat_tests)

glyph : (d : ℕ) → plain (digit_glyph false d) ≡ true
glyph d = elim (bools (nat_lt d 10)) [
  | inl e ↦ let low : d < 10 = (Decides-ltb d 10).0 e in ap (λ (b : Bool). plain (cond b (48 + d) (87 + d))) e
      ∙ plain_at (48 + d) (omega arith) (omega arith) (omega arith) (omega arith)
  | inr e ↦ ap (λ (b : Bool). plain (cond b (48 + d) (87 + d))) e ∙ plain_at (87 + d) (omega arith) (omega arith) (omega arith) (omega arith)
]

onto : (k n : ℕ) (acc : Text) → Inert acc → Inert (digits_onto k 10 false n acc)
onto zero n acc p = p
onto (suc k) n acc p = let next : Inert (digit_glyph false (n % 10) ∷ acc) = record { all = λ i. glyph (n % 10) i && p.all i } in
    choose (n / 10 == 0) (digit_glyph false (n % 10) ∷ acc) (digits_onto k 10 false (n / 10) (digit_glyph false (n % 10) ∷ acc)) (λ e. next)
    (λ e. onto k (n / 10) (digit_glyph false (n % 10) ∷ acc) next)

pub inert_decimal : (n : ℕ) → Inert (decimal n)
unfolding digits
inert_decimal n = onto 64 n [] (record { all = refl })

-- ---- strings

quoted : (b : ℕ) → (b == 34 || b == 92) ≡ true → plain b ≡ true
quoted b e = elim (bools (b == 34)) [
  | inl h ↦ ap plain ((Decides-eqb b 34).0 h)
  | inr h ↦ ap plain ((Decides-eqb b 92).0 (sym (ap (λ (t : Bool). t || b == 92) h) ∙ e))
]

inert_coded : (b : ℕ) → Inert (coded b)
inert_coded b = record { all = λ i. glyph (b / 16) i && (glyph (b % 16) i && true) }

inert_escaped : (b : ℕ) → Inert (escaped b)
inert_escaped b = choose (b == 34 || b == 92) (92 ∷ b ∷ []) (cond (is_coded b) (coded b) (b ∷ [])) (λ e. record { all = λ i. quoted b e i && true })
    (λ e. choose (is_coded b) (coded b) (b ∷ []) (λ f. inert_coded b) (λ f. record { all = ap (λ (t : Bool). not t && true) f }))

pub inert_string : (s : Text) → Inert (string_text s)
inert_string s = both (codes "\"") (escaped_text s ++ codes "\"") (lit (codes "\"") refl)
    (both (escaped_text s) (codes "\"") (flat escaped inert_escaped s) (lit (codes "\"") refl))

-- ---- lists

-- a text in brackets
bracketed : (a : Text) → Inert a → Inert (codes "[" ++ a ++ codes "]")
bracketed a p = both (codes "[") (a ++ codes "]") (lit (codes "[") refl) (both a (codes "]") p (lit (codes "]") refl))

-- a text after a comma
after_comma : (a : Text) → Inert a → Inert (codes "," ++ a)
after_comma a p = both (codes ",") a (lit (codes ",") refl) p

inert_joined_numbers : (numbers : List ℕ) → Inert (joined_numbers numbers)
inert_joined_numbers [] = record { all = refl }
inert_joined_numbers (n ∷ numbers) = both (decimal n) (more_numbers numbers) (inert_decimal n)
    (flat (λ m. codes "," ++ decimal m) (λ m. after_comma (decimal m) (inert_decimal m)) numbers)

pub inert_numbers : (numbers : List ℕ) → Inert (numbers_text numbers)
inert_numbers numbers = bracketed (joined_numbers numbers) (inert_joined_numbers numbers)

inert_joined_lists : (lists : List (List ℕ)) → Inert (joined_lists lists)
inert_joined_lists [] = record { all = refl }
inert_joined_lists (list ∷ lists) = both (numbers_text list) (more_lists lists) (inert_numbers list)
    (flat (λ own. codes "," ++ numbers_text own) (λ own. after_comma (numbers_text own) (inert_numbers own)) lists)

pub inert_lists : (lists : List (List ℕ)) → Inert (lists_text lists)
inert_lists lists = bracketed (joined_lists lists) (inert_joined_lists lists)

inert_joined_strings : (strings : List Text) → Inert (joined_strings strings)
inert_joined_strings [] = record { all = refl }
inert_joined_strings (s ∷ strings) = both (string_text s) (more_strings strings) (inert_string s)
    (flat (λ own. codes "," ++ string_text own) (λ own. after_comma (string_text own) (inert_string own)) strings)

pub inert_strings : (strings : List Text) → Inert (strings_text strings)
inert_strings strings = bracketed (joined_strings strings) (inert_joined_strings strings)

-- ---- members

pub inert_key : (key : Text) → Inert key → Inert (key_text key)
unfolding key_text
inert_key key p = both (codes ",\"") (key ++ codes "\":") (lit (codes ",\"") refl) (both key (codes "\":") p (lit (codes "\":") refl))

pub inert_number_member : (key : Text) (n : ℕ) → list_all plain key ≡ true → Inert (number_member key n)
unfolding number_member
inert_number_member key n p = both (key_text key) (decimal n) (inert_key key (lit key p)) (inert_decimal n)

pub inert_string_member : (key s : Text) → list_all plain key ≡ true → Inert (string_member key s)
unfolding string_member
inert_string_member key s p = both (key_text key) (string_text s) (inert_key key (lit key p)) (inert_string s)

pub inert_numbers_member : (key : Text) (numbers : List ℕ) → list_all plain key ≡ true → Inert (numbers_member key numbers)
unfolding numbers_member
inert_numbers_member key numbers p = both (key_text key) (numbers_text numbers) (inert_key key (lit key p)) (inert_numbers numbers)

pub inert_lists_member : (key : Text) (lists : List (List ℕ)) → list_all plain key ≡ true → Inert (lists_member key lists)
unfolding lists_member
inert_lists_member key lists p = both (key_text key) (lists_text lists) (inert_key key (lit key p)) (inert_lists lists)

pub inert_strings_member : (key : Text) (strings : List Text) → list_all plain key ≡ true → Inert (strings_member key strings)
unfolding strings_member
inert_strings_member key strings p = both (key_text key) (strings_text strings) (inert_key key (lit key p)) (inert_strings strings)
