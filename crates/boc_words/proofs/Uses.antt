-- What each use of an argument keeps: at most one number for each option.
use Rattle.std.proofs.Common.{suc, ◌≡◌, ◌∙◌, ◌&&◌, ◌==◌, ◌++◌, ℕ, Bool, true, false, not, List, [], ◌∷◌, Option, Some, None, refl, ap}
use Rattle.std.proofs.Common.{ap₂, sym, subst, length, codes, eqb-true, arith}
use Rattle.std.specs.Prelude.{if◌then◌else◌}
use Rattle.std.specs.List.{list_all}
use Rattle.std.specs.Str.{bytes_eq}
use Rattle.std.proofs.lemmas.Bool.{and_parts, ne_eqb}
use Rattle.std.proofs.lemmas.List.{append-nil}
use Rattle.std.proofs.lemmas.Slice.Eq.{bytes_eq-Decides}
use Rattle.clap.specs.Kinds.{range_kinds, value_kinds, values_kinds}
use Rattle.clap.specs.Faults.{repeat_fault, set_fault, use_fault, values_fault}
use Rattle.clap.specs.Simple.{filled, help_rule, with_index}
use Rattle.clap.specs.ValueTests.{accepts}
use Rattle.clap.specs.Values.{refused_kind}
use Rattle.clap.specs.Walk.{Row, Rule, Text, all_of, at_row, has_row, more_values, reading_by, stronger, used, values_or_missing, with_values}
use Rattle.clap.specs.declared.builder.value_parser.ValueParser.{ValueParser}
use Rattle.clap.specs.declared.error.kind.ErrorKind.TheVariants as kind
use Rattle.clap.specs.declared.parser.matches.ValueSource.{ValueSource}
use Rattle.clap.specs.declared.parser.matches.ValueSource.TheVariants.{CommandLine, DefaultValue}
use Rattle.boc_words.specs.declared.arguments.Numbers.{Numbers}
use Rattle.boc_words.specs.declared.arguments.Numbers.TheVariants.{UpTo, Every}
use Rattle.boc_words.specs.Commands.{Argument, NumberOption, flag, needed, number, operand, operands, parser_of, repeated, rule_at}
use Rattle.boc_words.proofs.Numbers.{HasOne, HaveOne, IsOne, other_rows, row_added, row_passed, row_read}
use Rattle.boc_words.proofs.Walks.{Fine, KeepsDefault, bare, neither}

-- the argument as it is built
abbrev pub built_at : ℕ → Argument → Rule
built_at i a = with_index i (filled (rule_at a))

-- ---- an option with a number

two_values : (n : ℕ) → range_kinds 1 1 (suc (suc n)) ≡ [] → ⊥
two_values n none = go (suc (suc n) == 0) (1 == suc (suc n)) (ne_eqb _ _ (λ e. omega arith)) none
  where
    go : (x y : Bool) → y ≡ false
        → (if true && x then kind.InvalidValue ∷ [] else (if y then [] else kind.WrongNumberOfValues ∷ [])) ≡ [] → ⊥
    go true y is clear = cc
    go false true is clear = cc
    go false false is clear = cc

not_there : (id : Text) (rows : List Row) → repeat_fault false id rows ≡ [] → has_row id rows ≡ false
not_there id rows none = go (has_row id rows) none
  where
    go : (b : Bool) → (if b && true then kind.ArgumentConflict ∷ [] else []) ≡ [] → b ≡ false
    go true clear = cc
    go false clear = refl

-- a text on which the parser has nothing to say passes it
passes : (parser : ValueParser) (text : Text) → value_kinds false parser text ≡ [] → accepts false parser text ≡ true
passes parser text none = go (accepts false parser text) none
  where
    go : (b : Bool) → (if b then [] else refused_kind parser ∷ []) ≡ [] → b ≡ true
    go true clear = refl
    go false clear = cc

-- the option is used for the first time, with one text, which its parser takes
record IsUsedOnce (option : NumberOption) (values : List Text) (rows : List Row) : Type 0 where
  text : Text
  alone : values ≡ text ∷ []
  clear : has_row option.id rows ≡ false
  passed : accepts false (parser_of option.numbers) text ≡ true

used_once : (i : ℕ) (option : NumberOption) (values : List Text) (rows : List Row)
    → use_fault false (built_at i (number option)) values rows ≡ [] → IsUsedOnce option values rows
used_once i option [] rows none = cc
used_once i option (text ∷ []) rows none =
    let parser : ValueParser = parser_of option.numbers in
    let both = neither (repeat_fault false option.id rows) (values_kinds false parser (text ∷ [])) none in
    record {
      text = text;
      alone = refl;
      clear = not_there option.id rows both.0;
      passed = passes parser text (neither (value_kinds false parser text) [] both.1).0;
    }
used_once i option (text ∷ more ∷ texts) rows none =
    absurd (two_values (length texts) (neither (range_kinds 1 1 (length (text ∷ more ∷ texts)))
    (set_fault false (built_at i (number option)) (text ∷ more ∷ texts) rows) none).0)

abbrev row_of_number : ℕ → NumberOption → Text → Row
row_of_number i option text = record {
  id = option.id;
  values = text ∷ [];
  count = None;
  source = Some CommandLine;
  reading = reading_by (built_at i (number option));
}

-- such a use adds a row
used_number : (i : ℕ) (option : NumberOption) (text : Text) (rows : List Row) → has_row option.id rows ≡ false
    → used (built_at i (number option)) (text ∷ []) rows ≡ rows ++ (row_of_number i option text ∷ [])
used_number i option text rows clear =
    let row : Row = row_of_number i option text in
    ap (at_row option.id (more_values CommandLine (text ∷ [])) (row ∷ []))
    (row_added option.id (λ _. []) [] rows clear ∙ append-nil rows)
    ∙ row_added option.id (more_values CommandLine (text ∷ [])) (row ∷ []) rows clear

-- a row more of another argument
row_kept : (other : NumberOption) (rows : List Row) (row : Row) → bytes_eq row.id other.id ≡ false → HasOne other rows
    → HasOne other (rows ++ (row ∷ []))
row_kept other rows row differs good = subst (IsOne other.numbers) (sym (row_passed other.id row rows differs)) good

fine_own : (i : ℕ) (option : NumberOption) → Fine (HasOne option) false (built_at i (number option))
fine_own i option values rows none good =
    let once = used_once i option values rows none in
    let row : Row = row_of_number i option once.text in
    let same : bytes_eq option.id option.id ≡ true = (bytes_eq-Decides option.id option.id).1 refl in
    subst (λ (vs : List Text). HasOne option (used (built_at i (number option)) vs rows)) (sym once.alone)
    (subst (IsOne option.numbers)
    (sym (ap (all_of option.id) (used_number i option once.text rows once.clear) ∙ row_read option.id row rows once.clear same))
    (once.text, refl, once.passed))

fine_other : (i : ℕ) (option other : NumberOption) → bytes_eq option.id other.id ≡ false
    → Fine (HasOne other) false (built_at i (number option))
fine_other i option other differs values rows none good =
    let once = used_once i option values rows none in
    subst (λ (vs : List Text). HasOne other (used (built_at i (number option)) vs rows)) (sym once.alone)
    (subst (HasOne other) (sym (used_number i option once.text rows once.clear))
    (row_kept other rows (row_of_number i option once.text) differs good))

-- ---- a flag

-- the row of the flag, with the text that stands for it
abbrev row_of_flag : ℕ → Text → ValueSource → List Text → Row
row_of_flag i id source values =
    record { id = id; values = values; count = None; source = Some source; reading = reading_by (built_at i (flag id)) }

-- a use of the flag adds a row
used_flag : (i : ℕ) (id : Text) (values : List Text) (rows : List Row) → has_row id rows ≡ false
    → used (built_at i (flag id)) values rows
    ≡ rows ++ (row_of_flag i id CommandLine (values_or_missing (built_at i (flag id)) values) ∷ [])
used_flag i id values rows clear =
    let texts : List Text = values_or_missing (built_at i (flag id)) values in
    let row : Row = row_of_flag i id CommandLine texts in
    ap (at_row id (more_values CommandLine texts) (row ∷ [])) (row_added id (λ _. []) [] rows clear ∙ append-nil rows)
    ∙ row_added id (more_values CommandLine texts) (row ∷ []) rows clear

fine_flag : (i : ℕ) (id : Text) (other : NumberOption) → bytes_eq id other.id ≡ false → Fine (HasOne other) false (built_at i (flag id))
fine_flag i id other differs values rows none good =
    let texts : List Text = values_or_missing (built_at i (flag id)) values in
    let set = neither (range_kinds 0 0 (length values)) (set_fault false (built_at i (flag id)) texts rows) none in
    let once = neither (repeat_fault false id rows) (values_fault (built_at i (flag id)) texts) set.1 in
    subst (HasOne other) (sym (used_flag i id values rows (not_there id rows once.0)))
    (row_kept other rows (row_of_flag i id CommandLine texts) differs good)

-- and so does its default
keep_flag : (i : ℕ) (id : Text) (other : NumberOption) → bytes_eq id other.id ≡ false → KeepsDefault (HasOne other) (built_at i (flag id))
keep_flag i id other differs rows good = go (has_row id rows) refl
  where
    go : (b : Bool) → has_row id rows ≡ b
        → HasOne other (if b then rows else with_values id (reading_by (built_at i (flag id))) DefaultValue (codes "false" ∷ []) rows)
    go true is = good
    go false is =
        let row : Row = row_of_flag i id DefaultValue (codes "false" ∷ []) in
        subst (HasOne other) (sym (row_added id (more_values DefaultValue (codes "false" ∷ [])) (row ∷ []) rows is))
        (row_kept other rows row differs good)

-- ---- one word

-- the row of the word
abbrev row_of_operand : ℕ → Text → List Text → Row
row_of_operand i id values =
    record { id = id; values = values; count = None; source = Some CommandLine; reading = reading_by (built_at i (operand id)) }

-- a use of it adds a row
used_operand : (i : ℕ) (id : Text) (values : List Text) (rows : List Row) → has_row id rows ≡ false
    → used (built_at i (operand id)) values rows
    ≡ rows ++ (row_of_operand i id (values_or_missing (built_at i (operand id)) values) ∷ [])
used_operand i id values rows clear =
    let texts : List Text = values_or_missing (built_at i (operand id)) values in
    let row : Row = row_of_operand i id texts in
    ap (at_row id (more_values CommandLine texts) (row ∷ [])) (row_added id (λ _. []) [] rows clear ∙ append-nil rows)
    ∙ row_added id (more_values CommandLine texts) (row ∷ []) rows clear

fine_operand : (i : ℕ) (id : Text) (other : NumberOption) → bytes_eq id other.id ≡ false → Fine (HasOne other) false (built_at i (operand id))
fine_operand i id other differs values rows none good =
    let texts : List Text = values_or_missing (built_at i (operand id)) values in
    let set = neither (range_kinds 1 1 (length values)) (set_fault false (built_at i (operand id)) texts rows) none in
    let once = neither (repeat_fault false id rows) (values_fault (built_at i (operand id)) texts) set.1 in
    subst (HasOne other) (sym (used_operand i id values rows (not_there id rows once.0)))
    (row_kept other rows (row_of_operand i id texts) differs good)

-- ---- texts and words

-- each use of the argument adds texts to its row
abbrev AddsTexts : Text → Rule → Type 0
AddsTexts id rule = (values : List Text) (rows : List Row)
    → used rule values rows ≡ with_values id (reading_by rule) CommandLine (values_or_missing rule values) rows

fine_texts : (id : Text) (rule : Rule) (other : NumberOption) → bytes_eq id other.id ≡ false → AddsTexts id rule → Fine (HasOne other) false rule
fine_texts id rule other differs adds values rows none good =
    let texts : List Text = values_or_missing rule values in
    subst (IsOne other.numbers) (sym (ap (all_of other.id) (adds values rows) ∙ other_rows other.id id
    (λ r. record r { values = r.values ++ texts; source = Some (stronger r.source CommandLine) })
    (record {
      id = id;
      values = texts;
      count = None;
      source = Some CommandLine;
      reading = reading_by rule;
    }) rows differs refl (λ r. refl))) good

-- ---- the flag of help

pub help_fine : (Good : List Row → Type 0) (i : ℕ) → Fine Good false (with_index i (filled help_rule))
help_fine Good i values rows none good = good

pub help_keeps : (Good : List Row → Type 0) (i : ℕ) → KeepsDefault Good (with_index i (filled help_rule))
help_keeps Good i = bare Good (with_index i (filled help_rule)) refl

-- ---- every argument

abbrev pub same_numbers : Numbers → Numbers → Bool
same_numbers (UpTo a) (UpTo b) = a == b
same_numbers Every Every = true
same_numbers (UpTo a) Every = false
same_numbers Every (UpTo b) = false

same_numbers-is : (a b : Numbers) → same_numbers a b ≡ true → a ≡ b
same_numbers-is (UpTo a) (UpTo b) same = ap UpTo (eqb-true a b same)
same_numbers-is Every Every same = refl
same_numbers-is (UpTo a) Every same = cc
same_numbers-is Every (UpTo b) same = cc

abbrev pub same_letter : Option ℕ → Option ℕ → Bool
same_letter None None = true
same_letter (Some a) (Some b) = a == b
same_letter None (Some b) = false
same_letter (Some a) None = false

same_letter-is : (a b : Option ℕ) → same_letter a b ≡ true → a ≡ b
same_letter-is None None same = refl
same_letter-is (Some a) (Some b) same = ap Some (eqb-true a b same)
same_letter-is None (Some b) same = cc
same_letter-is (Some a) None same = cc

-- options that are alike but for their names
abbrev pub alike : NumberOption → NumberOption → Bool
alike a b = same_letter a.letter b.letter && same_numbers a.numbers b.numbers

same_option : (a b : NumberOption) → a.id ≡ b.id → alike a b ≡ true → a ≡ b
same_option a b ids same =
    let both = and_parts (same_letter a.letter b.letter) (same_numbers a.numbers b.numbers) same in
    let make : Text → Option ℕ → Numbers → NumberOption = λ id l n. record { id = id; letter = l; numbers = n } in
    ap (λ id. make id a.letter a.numbers) ids
    ∙ ap₂ (make b.id) (same_letter-is a.letter b.letter both.0) (same_numbers-is a.numbers b.numbers both.1)

-- an option's number stays one: the argument has another name, or is the option
abbrev pub keeps : Argument → NumberOption → Bool
keeps (number option) other = if bytes_eq option.id other.id then alike option other else true
keeps (flag id) other = not (bytes_eq id other.id)
keeps (repeated id) other = not (bytes_eq id other.id)
keeps (needed id) other = not (bytes_eq id other.id)
keeps (operand id) other = not (bytes_eq id other.id)
keeps (operands id) other = not (bytes_eq id other.id)

not_true : (b : Bool) → not b ≡ true → b ≡ false
not_true true is = cc
not_true false is = refl

fine_at : (a : Argument) (i : ℕ) (other : NumberOption) → keeps a other ≡ true → Fine (HasOne other) false (built_at i a)
fine_at (number option) i other keep = go (bytes_eq option.id other.id) refl keep
  where
    go : (b : Bool) → bytes_eq option.id other.id ≡ b → (if b then alike option other else true) ≡ true
        → Fine (HasOne other) false (built_at i (number option))
    go true same fits =
        let ids : option.id ≡ other.id = (bytes_eq-Decides option.id other.id).0 same in
        let is : option ≡ other = same_option option other ids fits in
        subst (λ (o : NumberOption). Fine (HasOne o) false (built_at i (number option))) is (fine_own i option)
    go false differs fits = fine_other i option other differs
fine_at (flag id) i other keep = fine_flag i id other (not_true (bytes_eq id other.id) keep)
fine_at (repeated id) i other keep =
    fine_texts id (built_at i (repeated id)) other (not_true (bytes_eq id other.id) keep) (λ values rows. refl)
fine_at (needed id) i other keep = fine_operand i id other (not_true (bytes_eq id other.id) keep)
fine_at (operand id) i other keep = fine_operand i id other (not_true (bytes_eq id other.id) keep)
fine_at (operands id) i other keep =
    fine_texts id (built_at i (operands id)) other (not_true (bytes_eq id other.id) keep) (λ values rows. refl)

keep_at : (a : Argument) (i : ℕ) (other : NumberOption) → keeps a other ≡ true → KeepsDefault (HasOne other) (built_at i a)
keep_at (number option) i other keep = bare (HasOne other) (built_at i (number option)) refl
keep_at (flag id) i other keep = keep_flag i id other (not_true (bytes_eq id other.id) keep)
keep_at (repeated id) i other keep = bare (HasOne other) (built_at i (repeated id)) refl
keep_at (needed id) i other keep = bare (HasOne other) (built_at i (needed id)) refl
keep_at (operand id) i other keep = bare (HasOne other) (built_at i (operand id)) refl
keep_at (operands id) i other keep = bare (HasOne other) (built_at i (operands id)) refl

-- and so do the numbers of all options
pub fine_all : (a : Argument) (i : ℕ) (options : List NumberOption) → list_all (keeps a) options ≡ true
    → Fine (HaveOne options) false (built_at i a)
fine_all a i [] all values rows none good = tt
fine_all a i (option ∷ more) all values rows none good =
    let both = and_parts (keeps a option) (list_all (keeps a) more) all in
    (fine_at a i option both.0 values rows none good.0, fine_all a i more both.1 values rows none good.1)

pub keep_all : (a : Argument) (i : ℕ) (options : List NumberOption) → list_all (keeps a) options ≡ true
    → KeepsDefault (HaveOne options) (built_at i a)
keep_all a i [] all rows good = tt
keep_all a i (option ∷ more) all rows good =
    let both = and_parts (keeps a option) (list_all (keeps a) more) all in
    (keep_at a i option both.0 rows good.0, keep_all a i more both.1 rows good.1)
