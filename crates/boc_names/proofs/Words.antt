-- A text of words has one reading.
use Rattle.std.proofs.Common.{◌≡◌, ◌≢◌, ◌∙◌, ℕ, zero, suc, ◌+◌, ◌<◌, ◌^◌, ◌%◌, List, [], ◌∷◌, ◌++◌, length, take, drop, get_or, append_assoc, refl}
use Rattle.std.proofs.Common.{sym, ap, subst, arith}
use Rattle.std.specs.Prelude.{Bool, true, false, IsTrue, decimal, codes, ◌&&◌, ◌==◌, cond, position, Option, Some, None}
use Rattle.std.specs.Prelude.{MatchResult, Result, Ok, Err}
use Rattle.std.specs.Option.{option_map}
use Rattle.std.specs.List.{AllByRecursion, list_all, ends_with}
use Rattle.std.specs.Char.{is_ascii_graphic}
use Rattle.std.proofs.lemmas.Bool.Decides.{nat_tests}
use Rattle.std.proofs.lemmas.List.{append-nil, take-append-drop}
use Rattle.std.proofs.lemmas.Fmt.{decimal_by_steps, decimal_injective, decimal_nonempty}
use Rattle.std.proofs.lemmas.List.Elements.{recursion_from_All}
use Rattle.boc_program.proofs.Truth.{and_true}
use Rattle.boc_names.specs.declared.fault.NamesFaultKind.{NamesFaultKind}
use Rattle.boc_names.specs.declared.fault.NamesFaultKind.TheVariants as kinds
use Rattle.boc_names.specs.Names.{Text}
use Rattle.boc_names.specs.NamesFile.{Line, IsWord, IsFree, IsLine, HasForm, fed, lines_text, spelling, Free, NamesRow, NamesCown}
use Rattle.boc_names.specs.NamesFile.{base_len, spaced, more_words}
use Rattle.boc_names.specs.Said.{IsApart, BreaksAt, IsNext, IsNumbered, IsOfWords, PutsWords, SaysWords, IsOfRow, IsOfCown, SaysLine}
use Rattle.boc_names.specs.Said.{SaysRow, SaysCown}
use Rattle.boc_names.specs.declared.entry.Called.{Called}
use Rattle.boc_names.specs.declared.entry.Said.TheVariants.{Nothing, OfRow, OfCown}

-- no byte is a blank
abbrev pub InWord : Text → Type 0
InWord word = AllByRecursion (λ b. b ≢ 32) word

blank_is_no_letter : is_ascii_graphic 32 ≡ true → ⊥
blank_is_no_letter e = grind (arith, nat_tests)

letter_is_no_blank : (b : ℕ) → is_ascii_graphic b ≡ true → b ≢ 32
letter_is_no_blank b letter e = blank_is_no_letter (subst (λ (x : ℕ). is_ascii_graphic x ≡ true) e letter)

in_word : (word : Text) → IsTrue (list_all is_ascii_graphic word) → InWord word
in_word [] h = tt
in_word (b ∷ word) h =
    let both = and_true (is_ascii_graphic b) (list_all is_ascii_graphic word) h in
    (letter_is_no_blank b both.0, in_word word both.1)

-- a word ends where what follows is apart, so there is one way to split a text
one_split : (v w bs cs : List ℕ) → InWord v → InWord w → IsApart bs → IsApart cs → v ++ bs ≡ w ++ cs → (v ≡ w) × (bs ≡ cs)
one_split [] [] bs cs p q a b e = (refl, e)
one_split [] (d ∷ w) bs cs p q a b e = absurd (q.0 (subst IsApart e a))
one_split (d ∷ v) [] bs cs p q a b e = absurd (p.0 (subst IsApart (sym e) b))
one_split (c ∷ v) (d ∷ w) bs cs p q a b e =
    let rest = one_split v w bs cs p.1 q.1 a b (ap (drop 1) e) in
    (ap (λ x. x ∷ v) (ap (λ xs. get_or xs 0 0) e) ∙ ap (λ xs. d ∷ xs) rest.0, rest.1)

-- the word at the front of a text is one
pub one_next : (text word rest other others : Text) → IsNext text word rest → IsNext text other others → (word ≡ other) × (rest ≡ others)
one_next text word rest other others f g =
    one_split word other rest others (in_word word f.is_word.1) (in_word other g.is_word.1) f.apart g.apart (ap (drop 1) (sym f.is ∙ g.is))

-- a text before which no blank stands begins with no word
pub no_blank : (text after : Text) (first : ℕ) → text ≡ first ∷ after → first ≢ 32 → (word rest : Text) → IsNext text word rest → ⊥
no_blank text after first is other word rest next = other (ap (λ xs. get_or xs 0 0) (sym is ∙ next.is))

pub no_text : (text : Text) → length text ≡ 0 → (word rest : Text) → IsNext text word rest → ⊥
no_text text none word rest next = omega (arith, none, ap length next.is)

taken_in_word : (text : Text) (len : ℕ) → ((k : ℕ) → k < len → get_or text k 0 ≢ 32) → InWord (take len text)
taken_in_word text zero h = tt
taken_in_word [] (suc len) h = tt
taken_in_word (b ∷ text) (suc len) h =
    (h 0 (omega arith), taken_in_word text len (λ k less. h (suc k) (omega (arith, less))))

-- bytes up to a blank that are no word are at the front of no text that begins with one
pub no_word : (text after : Text) (len : ℕ) → text ≡ 32 ∷ after → BreaksAt after len → (IsWord (take len after) → ⊥) → (word rest : Text)
    → IsNext text word rest → ⊥
no_word text after len is breaks none word rest next =
    let same = one_split word (take len after) rest (drop len after) (in_word word next.is_word.1) (taken_in_word after len breaks.unbroken) next.apart
    breaks.apart (ap (drop 1) (sym next.is ∙ is) ∙ sym (take-append-drop len after)) in
    none (subst IsWord same.0 next.is_word)

pub is_next : (text after word rest : Text) (len : ℕ) → text ≡ 32 ∷ after → BreaksAt after len → word ≡ take len after → rest ≡ drop len after
    → IsWord word → IsNext text word rest
is_next text after word rest len is breaks front back each = record {
  is_word = each;
  is = is ∙ ap (λ (t : Text). 32 ∷ t) (sym (take-append-drop len after)) ∙ ap (λ (t : Text). 32 ∷ (t ++ drop len after)) (sym front)
      ∙ ap (λ (t : Text). 32 ∷ (word ++ t)) (sym back);
  apart = subst IsApart (sym back) breaks.apart;
}

-- ---- numbers

digit_is_letter : (d : ℕ) → d < 10 → is_ascii_graphic (48 + d) ≡ true
digit_is_letter d h = grind (arith, nat_tests)

letters_more : (ds : Text) (d : ℕ) → IsTrue (list_all is_ascii_graphic ds) → is_ascii_graphic d ≡ true → IsTrue (list_all is_ascii_graphic (ds ++ d ∷ []))
letters_more [] d p e = ap (λ b. b && true) e
letters_more (c ∷ ds) d p e =
    let both = and_true (is_ascii_graphic c) (list_all is_ascii_graphic ds) p in
    ap (λ b. b && list_all is_ascii_graphic (ds ++ d ∷ [])) both.0 ∙ letters_more ds d both.1 e

wide : (n : ℕ) → n < 2 ^ 32 → n < 2 ^ 64
wide n h = omega (arith, h)

decimal_letters : (n : ℕ) → n < 2 ^ 64 → IsTrue (list_all is_ascii_graphic (decimal n))
decimal_letters = decimal_by_steps (λ n ds. IsTrue (list_all is_ascii_graphic ds)) (λ n h. ap (λ b. b && true) (digit_is_letter n h))
    (λ n ds h p. letters_more ds (48 + n % 10) p (digit_is_letter (n % 10) (omega arith)))

-- a number is written as a word
decimal_word : (n : ℕ) → n < 2 ^ 32 → IsWord (decimal n)
decimal_word n h = (decimal_nonempty n (wide n h), decimal_letters n (wide n h))

pub number_next : (text : Text) (number : ℕ) (name rest : Text) → IsNumbered text number name rest → IsNext text (decimal number) (codes " " ++ name ++ rest)
number_next text number name rest n = record { is_word = decimal_word number n.small; is = n.is; apart = refl }

pub name_next : (text : Text) (number : ℕ) (name rest : Text) → IsNumbered text number name rest → IsNext (codes " " ++ name ++ rest) name rest
name_next text number name rest n = record { is_word = n.is_word; is = refl; apart = n.apart }

-- where no word begins a text, no number and name do
pub no_number_first : (text : Text) → ((word rest : Text) → IsNext text word rest → ⊥) → (number : ℕ) (name rest : Text) → IsNumbered text number name rest → ⊥
no_number_first text none number name rest n = none (decimal number) (codes " " ++ name ++ rest) (number_next text number name rest n)

-- nor where that word is no number
pub no_number : (text digits after : Text) → IsNext text digits after → ((n : ℕ) → n < 2 ^ 32 → digits ≡ decimal n → ⊥)
    → (number : ℕ) (name rest : Text) → IsNumbered text number name rest → ⊥
no_number text digits after next none number name rest n =
    none number n.small (one_next text digits after (decimal number) (codes " " ++ name ++ rest) next (number_next text number name rest n)).0

-- nor where no word follows it
pub no_name : (text digits after : Text) → IsNext text digits after → ((word rest : Text) → IsNext after word rest → ⊥)
    → (number : ℕ) (name rest : Text) → IsNumbered text number name rest → ⊥
no_name text digits after next none number name rest n =
    let same = one_next text digits after (decimal number) (codes " " ++ name ++ rest) next (number_next text number name rest n) in
    none name rest (subst (λ (t : Text). IsNext t name rest) (sym same.1) (name_next text number name rest n))

pub is_numbered : (text digits after : Text) (number : ℕ) (name rest : Text) → IsNext text digits after → number < 2 ^ 32 → digits ≡ decimal number
    → IsNext after name rest → IsNumbered text number name rest
is_numbered text digits after number name rest first small is second = record {
  small = small;
  is_word = second.is_word;
  is = first.is ∙ ap (λ (d : Text). codes " " ++ d ++ after) is ∙ ap (λ (t : Text). codes " " ++ decimal number ++ t) second.is;
  apart = second.apart;
}

-- the number and the name at the front of a text are one
pub one_numbered : (text : Text) (n m : ℕ) (a b r s : Text) → IsNumbered text n a r → IsNumbered text m b s → (n ≡ m) × (a ≡ b) × (r ≡ s)
one_numbered text n m a b r s f g =
    let first = one_next text (decimal n) (codes " " ++ a ++ r) (decimal m) (codes " " ++ b ++ s) (number_next text n a r f) (number_next text m b s g) in
    let second = one_next (codes " " ++ b ++ s) a r b s (subst (λ (t : Text). IsNext t a r) first.1 (name_next text n a r f)) (name_next text m b s g) in
    (decimal_injective n m (wide n f.small) (wide m g.small) first.0, second.0, second.1)

-- ---- words

pub spaced_apart : (words : List Text) → IsApart (spaced words)
spaced_apart [] = tt
spaced_apart (word ∷ words) = refl

first_next : (word : Text) (words : List Text) → AllByRecursion IsWord (word ∷ words) → IsNext (spaced (word ∷ words)) word (spaced words)
first_next word words each = record { is_word = each.0; is = refl; apart = spaced_apart words }

none_such : (text : Text) → (0 < length text) → ((word rest : Text) → IsNext text word rest → ⊥) → (words : List Text) → AllByRecursion IsWord words
    → text ≡ spaced words → ⊥
none_such text some none [] each is = omega (arith, some, ap length is)
none_such text some none (word ∷ words) each is =
    none word (spaced words) (subst (λ (t : Text). IsNext t word (spaced words)) (sym is) (first_next word words each))

-- a text that begins with no word is none of words
pub no_words : (text : Text) → (0 < length text) → ((word rest : Text) → IsNext text word rest → ⊥) → IsOfWords text kinds.Form
no_words text some none = none_such text some none

others_such : (text word rest : Text) → IsNext text word rest → ((words : List Text) → AllByRecursion IsWord words → rest ≡ spaced words → ⊥)
    → (words : List Text) → AllByRecursion IsWord words → text ≡ spaced words → ⊥
others_such text word rest next none [] each is = omega (arith, ap length (sym is ∙ next.is))
others_such text word rest next none (first ∷ words) each is =
    let same = one_next text word rest first (spaced words) next
    (subst (λ (t : Text). IsNext t first (spaced words)) (sym is) (first_next first words each)) in
    none words each.1 same.1

-- nor is one whose rest is none
pub words_cons : (text word rest : Text) (kind : NamesFaultKind) → IsNext text word rest → IsOfWords rest kind → IsOfWords text kind
words_cons text word rest kinds.Form next none = others_such text word rest next none
words_cons text word rest kinds.Memory next none = tt
words_cons text word rest kinds.Cut next none = none
words_cons text word rest kinds.TooLong next none = none
words_cons text word rest kinds.NoRow next none = none
words_cons text word rest kinds.NoCown next none = none
words_cons text word rest kinds.Twice next none = none

pub puts_none : (text old : Text) → length text ≡ 0 → PutsWords text old old
puts_none [] old none = ([], tt, refl, sym (append-nil old))
puts_none (b ∷ text) old none = absurd (omega (arith, none))

pub puts_more : (text word rest old new : Text) → IsNext text word rest → PutsWords rest (old ++ codes ", " ++ word) new → PutsWords text old new
puts_more text word rest old new next puts = (
  word ∷ puts.0,
  (next.is_word, puts.1),
  next.is ∙ ap (λ (t : Text). codes " " ++ word ++ t) puts.2,
  puts.3 ∙ ap (λ (t : Text). t ++ more_words puts.0) (append_assoc old (codes ", ") word)
      ∙ append_assoc old (codes ", " ++ word) (more_words puts.0),
)

-- the others were appended to the first, or are refused
pub put_others : {D : Type 0} (r : Result D NamesFaultKind) (text word rest old mid new : Text) → IsNext text word rest → mid ≡ old ++ codes ", " ++ word
    → MatchResult r (λ done. PutsWords rest mid new) (IsOfWords rest) → MatchResult r (λ done. PutsWords text old new) (IsOfWords text)
put_others (Ok done) text word rest old mid new next is puts =
    puts_more text word rest old new next (subst (λ (t : Text). PutsWords rest t new) is puts)
put_others (Err kind) text word rest old mid new next is refused = words_cons text word rest kind next refused

pub says_none : (name text : Text) → length text ≡ 0 → SaysWords name text name
says_none name [] none = ([], tt, refl, refl)
says_none name (b ∷ text) none = absurd (omega (arith, none))

-- a row's name with its arguments
pub says_words : (name text word rest mid said whole : Text) → IsNext text word rest → mid ≡ name ++ codes "(" ++ word → PutsWords rest mid said
    → whole ≡ said ++ codes ")" → SaysWords name text whole
says_words name text word rest mid said whole next is puts end = (
  word ∷ puts.0,
  (next.is_word, puts.1),
  next.is ∙ ap (λ (t : Text). codes " " ++ word ++ t) puts.2,
  end ∙ ap (λ (t : Text). t ++ codes ")") (puts.3 ∙ ap (λ (t : Text). t ++ more_words puts.0) is),
)

-- ---- rows and cowns

-- a text that begins with no number and name names no row
pub no_row : (text : Text) → ((number : ℕ) (name rest : Text) → IsNumbered text number name rest → ⊥) → IsOfRow text kinds.Form
no_row text none = λ row name args form is.
    none row name (spaced args) (record { small = form.0; is_word = form.1; is = is; apart = spaced_apart args })

other_args : (text : Text) (n : ℕ) (a rest : Text) → IsNumbered text n a rest → ((args : List Text) → AllByRecursion IsWord args → rest ≡ spaced args → ⊥)
    → (row : ℕ) (name : Text) (args : List Text) → HasForm (NamesRow row name args) → text ≡ spaced (decimal row ∷ name ∷ args) → ⊥
other_args text n a rest numbered none row name args form is =
    let same = one_numbered text n row a name rest (spaced args) numbered
    (record { small = form.0; is_word = form.1; is = is; apart = spaced_apart args }) in
    none args form.2 same.2

-- nor does one whose rest is none of words
pub row_cons : (text : Text) (n : ℕ) (a rest : Text) (kind : NamesFaultKind) → IsNumbered text n a rest → IsOfWords rest kind → IsOfRow text kind
row_cons text n a rest kinds.Form numbered none = other_args text n a rest numbered none
row_cons text n a rest kinds.Memory numbered none = tt
row_cons text n a rest kinds.Cut numbered none = none
row_cons text n a rest kinds.TooLong numbered none = none
row_cons text n a rest kinds.NoRow numbered none = none
row_cons text n a rest kinds.NoCown numbered none = none
row_cons text n a rest kinds.Twice numbered none = none

cown_numbered : (text : Text) (cown : ℕ) (name : Text) → HasForm (NamesCown cown name) → text ≡ spaced (decimal cown ∷ name ∷ []) → IsNumbered text cown name []
cown_numbered text cown name form is = record { small = form.0; is_word = form.1; is = is; apart = tt }

-- a text that begins with no number and name names no cown
pub no_cown : (text : Text) → ((number : ℕ) (name rest : Text) → IsNumbered text number name rest → ⊥) → IsOfCown text kinds.Form
no_cown text none = λ cown name form is. none cown name [] (cown_numbered text cown name form is)

-- nor does one that has more
pub no_more : (text : Text) (n : ℕ) (a rest : Text) → IsNumbered text n a rest → (0 < length rest) → IsOfCown text kinds.Form
no_more text n a rest numbered some = λ cown name form is.
    omega (arith, some, ap length (one_numbered text n cown a name rest [] numbered (cown_numbered text cown name form is)).2)

-- what comes after the name is nothing
pub cown_is : (text : Text) (n : ℕ) (name rest : Text) → IsNumbered text n name rest → length rest ≡ 0 → text ≡ spaced (decimal n ∷ name ∷ [])
cown_is text n name [] numbered none = numbered.is
cown_is text n name (b ∷ rest) numbered none = absurd (omega (arith, none))

-- ---- families

-- where no bracket comes after the first byte, nothing comes before an index
pub base_none : (name others : Text) (first : ℕ) → name ≡ first ∷ others → position (λ b. b == 91) others ≡ None → None ≡ base_len name
base_none name others first is none =
    sym (ap base_len is ∙ ap (λ (o : Option ℕ). cond (ends_with (λ a b. a == b) others (codes "]")) (option_map suc o) None) none
    ∙ same (ends_with (λ a b. a == b) others (codes "]")) None) where
      same : (b : Bool) (o : Option ℕ) → cond b o o ≡ o
      same true o = refl
      same false o = refl

-- and where the name ends in one and another stands there, that tells how much does
pub base_some : (name others : Text) (first len : ℕ) → name ≡ first ∷ others → ends_with (λ a b. a == b) others (codes "]") ≡ true
    → position (λ b. b == 91) others ≡ Some len → Some (len + 1) ≡ base_len name
base_some name others first len is ends some =
    sym (ap base_len is ∙ ap (λ (b : Bool). cond b (option_map suc (position (λ b. b == 91) others)) None) ends ∙ ap (option_map suc) some
    ∙ ap (λ (n : ℕ). Some n) (let e : suc len ≡ len + 1 = omega arith in e))

-- ---- lines

-- a free line has one first byte
first_is : (free : Text) (first : ℕ) (text : Text) → free ≡ first ∷ text → IsFree free → first ≢ 35 → ⊥
first_is free first text is form other = other (subst IsFree is form)

-- what lines say
pub says_nothing : (bytes : Text) → IsFree bytes → SaysLine bytes Nothing
says_nothing bytes free = record { line = Free bytes; form = free; is = refl; says = tt }

pub says_nothing_at : (bytes text : Text) (first : ℕ) → bytes ≡ first ∷ text → first ≡ 35 → SaysLine bytes Nothing
says_nothing_at bytes text first is sign = says_nothing bytes (subst IsFree (sym is) sign)

pub empty_says_nothing : (bytes : Text) → length bytes ≡ 0 → SaysLine bytes Nothing
empty_says_nothing [] none = says_nothing [] tt
empty_says_nothing (b ∷ bytes) none = absurd (omega (arith, none))

pub says_row : (bytes text : Text) (row : ℕ) (called : Called) → bytes ≡ 61 ∷ text → SaysRow text row called → SaysLine bytes (OfRow row called)
says_row bytes text row called is said = record {
  line = NamesRow row said.name said.args;
  form = said.form;
  is = is ∙ ap (λ (t : Text). 61 ∷ t) said.is;
  says = (refl, said.called_is, said.group_is);
}

pub says_cown : (bytes text : Text) (cown : ℕ) (called : Called) → bytes ≡ 64 ∷ text → SaysCown text cown called → SaysLine bytes (OfCown cown called)
says_cown bytes text cown called is said = record {
  line = NamesCown cown said.name;
  form = said.form;
  is = is ∙ ap (λ (t : Text). 64 ∷ t) said.is;
  says = (refl, said.called_is, said.group_is);
}

-- ---- one reading

-- words that are written alike are the same
one_words : (words others : List Text) → AllByRecursion IsWord words → AllByRecursion IsWord others → spaced words ≡ spaced others → words ≡ others
one_words [] [] p q e = refl
one_words [] (other ∷ others) p q e = absurd (omega (arith, ap length e))
one_words (word ∷ words) [] p q e = absurd (omega (arith, ap length e))
one_words (word ∷ words) (other ∷ others) p q e =
    let same = one_next (spaced (word ∷ words)) word (spaced words) other (spaced others) (first_next word words p)
    (subst (λ (t : Text). IsNext t other (spaced others)) (sym e) (first_next other others q)) in
    ap (λ (w : Text). w ∷ words) same.0 ∙ ap (λ (ws : List Text). other ∷ ws) (one_words words others p.1 q.1 same.1)

row_numbered : (row : ℕ) (name : Text) (args : List Text) → HasForm (NamesRow row name args)
    → IsNumbered (spaced (decimal row ∷ name ∷ args)) row name (spaced args)
row_numbered row name args form = record { small = form.0; is_word = form.1; is = refl; apart = spaced_apart args }

one_row : (n m : ℕ) (a b : Text) (xs ys : List Text) → HasForm (NamesRow n a xs) → HasForm (NamesRow m b ys)
    → spaced (decimal n ∷ a ∷ xs) ≡ spaced (decimal m ∷ b ∷ ys) → NamesRow n a xs ≡ NamesRow m b ys
one_row n m a b xs ys p q e =
    let same = one_numbered (spaced (decimal n ∷ a ∷ xs)) n m a b (spaced xs) (spaced ys) (row_numbered n a xs p)
    (subst (λ (t : Text). IsNumbered t m b (spaced ys)) (sym e) (row_numbered m b ys q)) in
    ap (λ (k : ℕ). NamesRow k a xs) same.0 ∙ ap (λ (t : Text). NamesRow m t xs) same.1 ∙ ap (NamesRow m b) (one_words xs ys p.2 q.2 same.2)

one_cown : (n m : ℕ) (a b : Text) → HasForm (NamesCown n a) → HasForm (NamesCown m b)
    → spaced (decimal n ∷ a ∷ []) ≡ spaced (decimal m ∷ b ∷ []) → NamesCown n a ≡ NamesCown m b
one_cown n m a b p q e =
    let same = one_numbered (spaced (decimal n ∷ a ∷ [])) n m a b [] [] (cown_numbered _ n a p refl) (cown_numbered _ m b q e) in
    ap (λ (k : ℕ). NamesCown k a) same.0 ∙ ap (NamesCown m) same.1

-- lines of a form that are written alike are the same
pub one_line : (line other : Line) → HasForm line → HasForm other → spelling line ≡ spelling other → line ≡ other
one_line (Free a) (Free b) p q e = ap Free e
one_line (Free a) (NamesRow m b ys) p q e = absurd (first_is a 61 _ e p (omega arith))
one_line (Free a) (NamesCown m b) p q e = absurd (first_is a 64 _ e p (omega arith))
one_line (NamesRow n a xs) (Free b) p q e = absurd (first_is b 61 _ (sym e) q (omega arith))
one_line (NamesRow n a xs) (NamesRow m b ys) p q e = one_row n m a b xs ys p q (ap (drop 1) e)
one_line (NamesRow n a xs) (NamesCown m b) p q e = absurd (omega (arith, ap (λ (t : Text). get_or t 0 0) e))
one_line (NamesCown n a) (Free b) p q e = absurd (first_is b 64 _ (sym e) q (omega arith))
one_line (NamesCown n a) (NamesRow m b ys) p q e = absurd (omega (arith, ap (λ (t : Text). get_or t 0 0) e))
one_line (NamesCown n a) (NamesCown m b) p q e = one_cown n m a b p q (ap (drop 1) e)

-- a line ends at its line feed
one_end : (a b r s : Text) → AllByRecursion (λ x. x ≢ 10) a → AllByRecursion (λ x. x ≢ 10) b → fed a ++ r ≡ fed b ++ s → (a ≡ b) × (r ≡ s)
one_end [] [] r s p q e = (refl, ap (drop 1) e)
one_end [] (y ∷ b) r s p q e = absurd (q.0 (sym (ap (λ (t : Text). get_or t 0 0) e)))
one_end (x ∷ a) [] r s p q e = absurd (p.0 (ap (λ (t : Text). get_or t 0 0) e))
one_end (x ∷ a) (y ∷ b) r s p q e =
    let same = one_end a b r s p.1 q.1 (ap (drop 1) e) in
    (ap (λ (z : ℕ). z ∷ a) (ap (λ (t : Text). get_or t 0 0) e) ∙ ap (λ (t : Text). y ∷ t) same.0, same.1)

fed_some : (a r : Text) → 0 < length (fed a ++ r)
fed_some [] r = omega arith
fed_some (x ∷ a) r = omega arith

-- texts of lines that are the same are of the same lines
pub one_reading : (lines others : List Line) → AllByRecursion IsLine lines → AllByRecursion IsLine others
    → lines_text lines ≡ lines_text others → lines ≡ others
one_reading [] [] p q e = refl
one_reading [] (other ∷ others) p q e = absurd (omega (arith, fed_some (spelling other) (lines_text others), ap length e))
one_reading (line ∷ lines) [] p q e = absurd (omega (arith, fed_some (spelling line) (lines_text lines), ap length e))
one_reading (line ∷ lines) (other ∷ others) p q e =
    let same = one_end (spelling line) (spelling other) (lines_text lines) (lines_text others) (recursion_from_All (λ x. x ≢ 10) (spelling line) p.0.one)
    (recursion_from_All (λ x. x ≢ 10) (spelling other) q.0.one) e in
    ap (λ (l : Line). l ∷ lines) (one_line line other p.0.form q.0.form same.0)
    ∙ ap (λ (ls : List Line). other ∷ ls) (one_reading lines others p.1 q.1 same.1)
