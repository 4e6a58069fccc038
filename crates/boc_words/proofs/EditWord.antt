-- Where the word of an edit is split.
use Rattle.std.proofs.Common.{suc, ◌≡◌, ◌≢◌, ◌⊎◌, ℕ, ◌^◌, ◌<◌, List, [], ◌∷◌, ◌++◌, length, get_or, arith, ap, ap₂, ◌∙◌, decimal, Some, None, inl, inr}
use Rattle.std.proofs.Common.{refl, sym, subst}
use Rattle.std.specs.Int.{IsInRange}
use Rattle.std.specs.Str.Parse.{digits_value}
use Rattle.std.proofs.lemmas.Str.Parse.{IsNumeralModel, numerals_by_value, tells_by_index}
use Rattle.std.proofs.lemmas.Fmt.{decimal_injective, digits_decimal}
use Rattle.std.proofs.lemmas.Str.Pattern.{IsSplitOnceResult, NoCharPasses-char, drop_at_char, split_parts, split_after}
use Rattle.std.specs.Str.Pattern.{RFindsChar}
use Rattle.std.specs.Str.{NoCharPasses}
use Rattle.std.specs.Option.{MatchOption}
use Rattle.std.proofs.Common.{zero, ◌==◌, ◌+◌, ◌≤◌, take, drop, take-append-drop, Option}
use denote.Ref.{Bor}
use Rattle.std.specs.Prelude.{string_bytes}
use Rattle.boc_plans.specs.declared.edit.Change.{Change}
use Rattle.boc_plans.specs.declared.edit.Change.TheVariants.{Ticks, Offset, Cost}
use Rattle.boc_plans.specs.Fractions.{Fraction}
use Rattle.boc_words.specs.declared.asked.AskedEdit.{AskedEdit}
use Rattle.boc_words.specs.declared.asked.AskedEdit.TheVariants.{Row, Def}
use Rattle.boc_words.specs.EditWords.{HasOther, IsCostWord, IsEditWord, IsPart, IsWritable, IsWritableChange}
use Rattle.boc_words.specs.EditWords.{change_word, cost_word, edit_word, equals_sign}

abbrev AreDigits : List ℕ → Type 0
AreDigits ds = (i : ℕ) → i < length ds → IsInRange 48 57 (get_or ds i 0)

own : IsNumeralModel AreDigits (digits_value 10)
own = numerals_by_value AreDigits tells_by_index

-- no digit is the sign behind a number
no_sign : (sign n : ℕ) → (sign < 48) ⊎ (57 < sign) → n < 2 ^ 32 → (i : ℕ) → i < length (decimal n) → get_or (decimal n) i 0 ≢ sign
no_sign sign n other h i lt = λ e. let d : IsInRange 48 57 (get_or (decimal n) i 0) = digits_decimal own n (omega arith) i lt in omega (arith, other)

-- two lists round the first of a sign are the same lists
round_sign : (sign : ℕ) (xs ys us vs : List ℕ) → ((i : ℕ) → i < length xs → get_or xs i 0 ≢ sign) → ((i : ℕ) → i < length us → get_or us i 0 ≢ sign)
    → xs ++ (sign ∷ ys) ≡ us ++ (sign ∷ vs) → (xs ≡ us) × (ys ≡ vs)
round_sign sign [] ys [] vs free clear e = (refl, cc)
round_sign sign [] ys (u ∷ us) vs free clear e = absurd (clear 0 (omega arith) cc)
round_sign sign (x ∷ xs) ys [] vs free clear e = absurd (free 0 (omega arith) cc)
round_sign sign (x ∷ xs) ys (u ∷ us) vs free clear e =
    let head : x ≡ u = cc in
    let rest : xs ++ (sign ∷ ys) ≡ us ++ (sign ∷ vs) = cc in
    let both = round_sign sign xs ys us vs (λ i l. free (suc i) (omega (arith, l))) (λ i l. clear (suc i) (omega (arith, l))) rest in
    (ap₂ (λ y ys. y ∷ ys) head both.0, both.1)

-- the numbers round a stroke are told by the word
pub same_numbers : (a b c d : ℕ) → a < 2 ^ 32 → c < 2 ^ 32 → b < 2 ^ 32 → d < 2 ^ 32 → decimal a ++ (47 ∷ decimal b) ≡ decimal c ++ (47 ∷ decimal d)
    → (a ≡ c) × (b ≡ d)
same_numbers a b c d fa fc fb fd e =
    let both = round_sign 47 (decimal a) (decimal b) (decimal c) (decimal d) (no_sign 47 a (inl (omega arith)) fa)
    (no_sign 47 c (inl (omega arith)) fc) e in
    (decimal_injective a c (omega arith) (omega arith) both.0, decimal_injective b d (omega arith) (omega arith) both.1)

module _ (sign : ℕ) (ascii : sign < 128) (other : (sign < 48) ⊎ (57 < sign)) where
  -- a word with no sign has no number before it
  pub without_sign : (w : List ℕ) → IsSplitOnceResult sign w None → (n : ℕ) (rest : List ℕ) → n < 2 ^ 32 → w ≡ decimal n ++ (sign ∷ rest) → ⊥
  without_sign w h n rest small e = split_after sign w (decimal n) rest None h ascii e (no_sign sign n other small)

  -- what stands before the sign is the number, and what stands behind it the rest
  pub sides : (w : List ℕ) (x : Bor (List ℕ) × Bor (List ℕ)) → IsSplitOnceResult sign w (Some x) → (n : ℕ) (rest : List ℕ) → n < 2 ^ 32
      → w ≡ decimal n ++ (sign ∷ rest) → (x.0.now ≡ decimal n) × (x.1.now ≡ rest)
  sides w x h n rest small e = split_after sign w (decimal n) rest (Some x) h ascii e (no_sign sign n other small)

  -- the two sides round the sign
  pub both : (w : List ℕ) (x : Bor (List ℕ) × Bor (List ℕ)) (first second : List ℕ) → IsSplitOnceResult sign w (Some x) → x.0.now ≡ first
      → x.1.now ≡ second → w ≡ first ++ (sign ∷ second)
  both w x first second h left right =
      (split_parts sign w (Some x) h ascii).0 ∙ ap (λ l. l ++ (sign ∷ x.1.now)) left ∙ ap (λ l. first ++ (sign ∷ l)) right

-- ---- round the last equals sign

-- the text has no such byte
abbrev HasNone : ℕ → List ℕ → Type 0
HasNone byte text = (i : ℕ) → i < length text → get_or text i 0 ≢ byte

-- two texts without a byte have none together
none_in_both : (byte : ℕ) (xs ys : List ℕ) → HasNone byte xs → HasNone byte ys → (i : ℕ) → i < length (xs ++ ys) → get_or (xs ++ ys) i 0 ≢ byte
none_in_both byte [] ys none clear i lt = clear i lt
none_in_both byte (x ∷ xs) ys none clear zero lt = none 0 (omega arith)
none_in_both byte (x ∷ xs) ys none clear (suc i) lt = none_in_both byte xs ys (λ k l. none (suc k) (omega (arith, l))) clear i (omega (arith, lt))

-- a text that has a byte in its middle has it
some_in_middle : (byte : ℕ) (xs ys : List ℕ) → HasNone byte (xs ++ (byte ∷ ys)) → ⊥
some_in_middle byte [] ys none = none 0 (omega arith) refl
some_in_middle byte (x ∷ xs) ys none = some_in_middle byte xs ys (λ k l. none (suc k) (omega (arith, l)))

-- two lists round the last of a sign are the same lists
round_last : (sign : ℕ) (xs ys us vs : List ℕ) → HasNone sign ys → HasNone sign vs → xs ++ (sign ∷ ys) ≡ us ++ (sign ∷ vs) → (xs ≡ us) × (ys ≡ vs)
round_last sign [] ys [] vs none clear e = (refl, cc)
round_last sign [] ys (u ∷ us) vs none clear e =
    let rest : ys ≡ us ++ (sign ∷ vs) = cc in
    absurd (some_in_middle sign us vs (subst (HasNone sign) rest none))
round_last sign (x ∷ xs) ys [] vs none clear e =
    let rest : xs ++ (sign ∷ ys) ≡ vs = cc in
    absurd (some_in_middle sign xs ys (subst (HasNone sign) (sym rest) clear))
round_last sign (x ∷ xs) ys (u ∷ us) vs none clear e =
    let head : x ≡ u = cc in
    let rest : xs ++ (sign ∷ ys) ≡ us ++ (sign ∷ vs) = cc in
    let both = round_last sign xs ys us vs none clear rest in
    (ap₂ (λ y ys. y ∷ ys) head both.0, both.1)

-- the numbers of a part, behind the subject
abbrev pub part_word : Fraction → List ℕ
part_word part = decimal part.over ++ (47 ∷ decimal part.under)

-- a part has no equals sign
none_in_part : (part : Fraction) → IsPart part → HasNone equals_sign (part_word part)
none_in_part part is =
    none_in_both equals_sign (decimal part.over) (47 ∷ decimal part.under) (no_sign equals_sign part.over (inr (omega arith)) (omega (arith, is.1))) behind
  where
    behind : HasNone equals_sign (47 ∷ decimal part.under)
    behind zero lt = λ e. let d : 47 ≡ 61 = e in omega (arith, d)
    behind (suc i) lt = no_sign equals_sign part.under (inr (omega arith)) (omega (arith, is.3)) i (omega (arith, lt))

-- what a split at the last of a character tells
abbrev IsLastSplit : ℕ → List ℕ → Option (Bor (List ℕ) × Bor (List ℕ)) → Type 0
IsLastSplit c bs r = MatchOption r (RFindsChar c bs None) (λ x. (i : ℕ) × (j : ℕ) × RFindsChar c bs (Some (i, j)) × (x.0.now ≡ take i bs)
    × (x.1.now ≡ drop j bs) × (i ≤ j) × (length x.0.now ≡ i) × (length x.1.now + j ≡ length bs))

-- the two sides make the word, and what stands behind has no such character
pub last_split_parts : (c : ℕ) (bs : List ℕ) (r : Option (Bor (List ℕ) × Bor (List ℕ))) → IsLastSplit c bs r → c < 128
    → MatchOption r (HasNone c bs) (λ x. (bs ≡ x.0.now ++ (c ∷ x.1.now)) × HasNone c x.1.now)
last_split_parts c bs None h low = λ i. NoCharPasses-char c bs i h low
last_split_parts c bs (Some x) h low = (
  sym (take-append-drop h.0 bs) ∙ ap₂ (λ a b. a ++ b) (sym h.3) (drop_at_char c bs h.0 h.1 h.2.1 low ∙ ap (λ l. c ∷ l) (sym h.4)),
  λ i. NoCharPasses-char c x.1.now i (subst (NoCharPasses (λ d. d == c)) (sym h.4) h.2.0) low,
)

-- a word with no equals sign has no part behind one
pub no_subject : (w subject : List ℕ) (part : Fraction) → IsLastSplit equals_sign w None → w ≡ cost_word subject part → ⊥
no_subject w subject part h e =
    some_in_middle equals_sign subject (part_word part) (subst (HasNone equals_sign) e (last_split_parts equals_sign w None h (omega arith)))

-- what stands before its last one is the subject, and what stands behind it the part
pub subject_sides : (w subject : List ℕ) (part : Fraction) (x : Bor (List ℕ) × Bor (List ℕ)) → IsLastSplit equals_sign w (Some x) → IsPart part
    → w ≡ cost_word subject part → (x.0.now ≡ subject) × (x.1.now ≡ part_word part)
subject_sides w subject part x h is e =
    let parts = last_split_parts equals_sign w (Some x) h (omega arith) in
    round_last equals_sign x.0.now x.1.now subject (part_word part) parts.1 (none_in_part part is) (sym parts.0 ∙ e)

-- a word that has no subject and no part is that of no cost
pub no_cost : (w : List ℕ) → ((subject : List ℕ) (part : Fraction) → IsPart part → w ≡ cost_word subject part → ⊥) → IsCostWord w → ⊥
no_cost w none word = none word.subject word.part word.is_part word.spells

-- and none is one whose subject is neither a row's number nor a name
pub no_named_cost : (w subject : List ℕ) (part : Fraction) → IsPart part → w ≡ cost_word subject part
    → ((n : ℕ) → n < 2 ^ 32 → subject ≡ decimal n → ⊥) → (HasOther subject → ⊥) → IsCostWord w → ⊥
no_named_cost w subject part small is no_number no_name word =
    let same : subject ≡ word.subject =
    (round_last equals_sign subject (part_word part) word.subject (part_word word.part) (none_in_part part small) (none_in_part word.part word.is_part)
    (sym is ∙ word.spells)).0 in
    elim word.named [
      | inl row ↦ no_number row.0 row.1 (same ∙ row.2)
      | inr name ↦ no_name (subst HasOther (sym same) name)
    ]

-- the word of no ticks, no offset and no cost is that of no edit
pub no_edit : (w : List ℕ) → ((row ticks : ℕ) → row < 2 ^ 32 → ticks < 2 ^ 32 → w ≡ decimal row ++ (61 ∷ decimal ticks) → ⊥)
    → ((row offset : ℕ) → row < 2 ^ 32 → offset < 2 ^ 32 → w ≡ decimal row ++ (64 ∷ decimal offset) → ⊥) → (IsCostWord w → ⊥) → IsEditWord w → ⊥
no_edit w no_ticks no_offset no_cost word = go word.edit word.writable word.spells
  where
    of_row : (row : ℕ) (change : Change) → row < 2 ^ 32 → IsWritableChange change → w ≡ decimal row ++ change_word change → ⊥
    of_row row (Ticks ticks) few writable is = no_ticks row ticks few writable is
    of_row row (Offset offset) few writable is = no_offset row offset few writable is
    of_row row (Cost part) few writable is =
        no_cost (record { subject = decimal row; part = part; named = inl (row, few, refl); is_part = writable; spells = is })

    go : (edit : AskedEdit) → IsWritable edit → w ≡ edit_word edit → ⊥
    go (Row edit) writable is = of_row edit.row edit.change writable.0 writable.1 is
    go (Def name part) writable is = no_cost (record {
      subject = string_bytes name;
      part = part;
      named = inr writable.0;
      is_part = writable.1;
      spells = is;
    })
