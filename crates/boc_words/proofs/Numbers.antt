-- The rows of a command hold at most one number for an option, which is one that the option takes.
use Rattle.std.proofs.Common.{◌≡◌, ◌∙◌, ◌||◌, ◌++◌, ℕ, Bool, true, false, List, [], ◌∷◌, Option, Some, None, pos, refl, ap, sym, inl, inr, arith}
use Rattle.std.specs.Prelude.{find, option_map, unwrap_or, if◌then◌else◌}
use Rattle.std.specs.Str.{bytes_eq}
use Rattle.std.specs.Str.Parse.{IsNumeral, digits_value, starts_with_minus, without_leading_plus}
use Rattle.std.proofs.lemmas.Int.{ints}
use Rattle.std.proofs.lemmas.Slice.Eq.{bytes_eq-Decides}
use Rattle.clap.specs.ValueTests.{accepts}
use Rattle.clap.specs.Values.{IsSignedIn}
use Rattle.clap.proofs.ValueTestLemmas.{accepts-Accepts}
use Rattle.clap.specs.declared.builder.value_parser.ValueParser.TheVariants as parsers
use Rattle.clap.specs.Walk.{Row, Text, all_of, at_row, has_row}
use Rattle.boc_words.specs.declared.arguments.Numbers.{Numbers}
use Rattle.boc_words.specs.declared.arguments.Numbers.TheVariants.{UpTo, Every}
use Rattle.boc_words.specs.Commands.{IsNumberOf, NumberOption, parser_of}
use Rattle.boc_words.specs.Words.{HasNoNumber, IsGiven, MissesNumber}

-- no text, or one that the parser of these numbers takes
abbrev pub IsOne : Numbers → Option (List Text) → Type 0
IsOne numbers None = Unit {0}
IsOne numbers (Some values) = (text : Text) × (values ≡ text ∷ []) × (accepts false (parser_of numbers) text ≡ true)

abbrev pub HasOne : NumberOption → List Row → Type 0
HasOne option rows = IsOne option.numbers (all_of option.id rows)

-- the same of each of these options
abbrev pub HaveOne : List NumberOption → List Row → Type 0
HaveOne [] rows = Unit {0}
HaveOne (option ∷ more) rows = HasOne option rows × HaveOne more rows

-- a row more, at the end, of an id that none has
pub row_added : (id : Text) (change : Row → List Row) (missing rows : List Row) → has_row id rows ≡ false → at_row id change missing rows ≡ rows ++ missing
row_added id change missing [] none = refl
row_added id change missing (r ∷ rs) none = go (bytes_eq r.id id) none (row_added id change missing rs)
  where
    go : (b : Bool) → (b || has_row id rs) ≡ false → (has_row id rs ≡ false → at_row id change missing rs ≡ rs ++ missing)
        → (if b then change r ++ rs else r ∷ at_row id change missing rs) ≡ r ∷ (rs ++ missing)
    go true clear rest = cc
    go false clear rest = ap (λ l. r ∷ l) (rest clear)

pub row_read : (id : Text) (row : Row) (rows : List Row) → has_row id rows ≡ false → bytes_eq row.id id ≡ true
    → all_of id (rows ++ (row ∷ [])) ≡ Some row.values
row_read id row [] none is = ap (λ (b : Bool). option_map (λ r. r.values) (if b then Some row else None)) is
row_read id row (r ∷ rs) none is = go (bytes_eq r.id id) none (λ clear. row_read id row rs clear is)
  where
    go : (b : Bool) → (b || has_row id rs) ≡ false → (has_row id rs ≡ false → all_of id (rs ++ (row ∷ [])) ≡ Some row.values)
        → option_map (λ r. r.values) (if b then Some r else find (λ x. bytes_eq x.id id) (rs ++ (row ∷ []))) ≡ Some row.values
    go true clear rest = cc
    go false clear rest = rest clear

-- a row more of another id
pub row_passed : (other : Text) (row : Row) (rows : List Row) → bytes_eq row.id other ≡ false → all_of other (rows ++ (row ∷ [])) ≡ all_of other rows
row_passed other row [] differs = ap (λ (b : Bool). option_map (λ r. r.values) (if b then Some row else None)) differs
row_passed other row (r ∷ rs) differs = go (bytes_eq r.id other) (row_passed other row rs differs)
  where
    go : (b : Bool) → all_of other (rs ++ (row ∷ [])) ≡ all_of other rs
        → option_map (λ r. r.values) (if b then Some r else find (λ x. bytes_eq x.id other) (rs ++ (row ∷ [])))
        ≡ option_map (λ r. r.values) (if b then Some r else find (λ x. bytes_eq x.id other) rs)
    go true rest = refl
    go false rest = rest

-- rows of another id changed
pub other_rows : (other id : Text) (change : Row → Row) (missing : Row) (rows : List Row) → bytes_eq id other ≡ false → missing.id ≡ id
    → ((r : Row) → (change r).id ≡ r.id) → all_of other (at_row id (λ r. change r ∷ []) (missing ∷ []) rows) ≡ all_of other rows
other_rows other id change missing [] differs is keeps =
    ap (λ (b : Bool). option_map (λ r. r.values) (if b then Some missing else None)) (ap (λ i. bytes_eq i other) is ∙ differs)
other_rows other id change missing (r ∷ rs) differs is keeps = go (bytes_eq r.id id) refl (other_rows other id change missing rs differs is keeps)
  where
    rest : (b : Bool) → all_of other (at_row id (λ r. change r ∷ []) (missing ∷ []) rs) ≡ all_of other rs
        → option_map (λ r. r.values) (if b then Some r else find (λ x. bytes_eq x.id other) (at_row id (λ r. change r ∷ []) (missing ∷ []) rs))
        ≡ option_map (λ r. r.values) (if b then Some r else find (λ x. bytes_eq x.id other) rs)
    rest true below = refl
    rest false below = below

    go : (b : Bool) → bytes_eq r.id id ≡ b → all_of other (at_row id (λ r. change r ∷ []) (missing ∷ []) rs) ≡ all_of other rs
        → all_of other (if b then (change r ∷ []) ++ rs else r ∷ at_row id (λ r. change r ∷ []) (missing ∷ []) rs) ≡ all_of other (r ∷ rs)
    go true same below =
        let here : bytes_eq r.id other ≡ false = ap (λ i. bytes_eq i other) ((bytes_eq-Decides r.id id).0 same) ∙ differs in
        let there : bytes_eq (change r).id other ≡ false = ap (λ i. bytes_eq i other) (keeps r) ∙ here in
        ap (λ (b : Bool). option_map (λ r. r.values) (if b then Some (change r) else find (λ x. bytes_eq x.id other) rs)) there
        ∙ sym (ap (λ (b : Bool). option_map (λ r. r.values) (if b then Some r else find (λ x. bytes_eq x.id other) rs)) here)
    go false same below = rest (bytes_eq r.id other) below

-- the number that a text spells is one of these
record Spells (numbers : Numbers) (text : Text) : Type 0 where
  value : ℕ
  taken : IsNumberOf numbers value
  numeral : IsNumeral 10 (without_leading_plus text)
  value_is : digits_value 10 (without_leading_plus text) ≡ value

-- a text that passes spells a number from 1 to this
signed : (most : ℕ) (text : Text) → IsSignedIn (pos 1) (pos most) text → Spells (UpTo most) text
signed most text passed = go (starts_with_minus text) refl
  where
    go : (b : Bool) → starts_with_minus text ≡ b → Spells (UpTo most) text
    go true minus =
        let low = rw minus at passed.2 in
        absurd (omega (arith, ints))
    go false minus =
        let numeral = rw minus at passed.0 in
        let low = rw minus at passed.2 in
        let high = rw minus at passed.3 in
        record {
          value = digits_value 10 (without_leading_plus text);
          taken = (omega (arith, ints), omega (arith, ints));
          numeral = numeral;
          value_is = refl;
        }

-- and one that passes spells a number that is taken
spells : (numbers : Numbers) (text : Text) → accepts false (parser_of numbers) text ≡ true → Spells numbers text
spells (UpTo most) text passed = signed most text (accepts-Accepts false (parsers.Signed (pos 1) (pos most)) text passed)
spells Every text passed =
    let is = accepts-Accepts false (parser_of Every) text passed in
    record { value = digits_value 10 (without_leading_plus text); taken = is.1; numeral = is.0; value_is = refl }

-- rows with at most one such number do not miss it
pub some_number : (option : NumberOption) (rows : List Row) → HasOne option rows → HasNoNumber option rows → ⊥
some_number option rows one misses = go (all_of option.id rows) one misses.given misses.none
  where
    go : (o : Option (List Text)) → IsOne option.numbers o
        → (unwrap_or o [] ≡ [] → ⊥) → ((n : ℕ) → IsNumberOf option.numbers n → IsGiven (unwrap_or o []) n → ⊥) → ⊥
    go None is given none = given refl
    go (Some values) is given none =
        let spelled = spells option.numbers is.0 is.2 in
        none spelled.value spelled.taken (record {
          text = is.0;
          alone = is.1;
          says = record { numeral = spelled.numeral; value = spelled.value_is };
        })

pub some_numbers : (options : List NumberOption) (rows : List Row) → HaveOne options rows → MissesNumber options rows → ⊥
some_numbers [] rows one misses = misses
some_numbers (option ∷ more) rows one misses = elim misses [
  | inl here ↦ some_number option rows one.0 here
  | inr below ↦ some_numbers more rows one.1 below
]
