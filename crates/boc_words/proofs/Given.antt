-- What was found for an argument.
use Rattle.std.proofs.Common.{zero, suc, ◌≡◌, ◌∙◌, ◌+◌, ◌<◌, ◌≤◌, ℕ, List, [], ◌∷◌, ◌++◌, map, take, drop, length, get_or, Option, Some, None, Bool}
use Rattle.std.proofs.Common.{false, String, sym, ap, refl, subst, arith, Bor}
use Rattle.std.specs.Global.{Global}
use Rattle.std.specs.Prelude.{option_map, unwrap_or, ◌==◌, ◌↔◌, IsTrue}
use Rattle.std.specs.Str.{bytes_eq}
use Rattle.std.proofs.lemmas.Slice.Eq.{bytes_eq-Decides}
use Rattle.std.specs.Option.{UnwrapsOrElse}
use Rattle.std.specs.List.{All, AllZip}
use Rattle.std.proofs.lemmas.List.{map-append}
use Rattle.std.proofs.lemmas.List.Elements.{All-push}
use Rattle.clap.specs.Words.{Row}
use Rattle.boc_words.specs.Commands.{IsNumberOf, NumberOption}
use Rattle.boc_words.specs.declared.asked.AskedCown.{AskedCown}
use Rattle.boc_words.specs.declared.asked.AskedEdit.{AskedEdit}
use Rattle.boc_words.specs.EditWords.{IsEditWord, IsWritable}
use Rattle.boc_words.specs.Words.{HasNoNumber, IsCownText, IsFirstMisspelt, IsGiven, IsPathOf, values_at}

-- the texts behind what was found, or none
pub read : (found : Option (Bor (List (Bor (List ℕ))))) (r : Bor (List (Bor (List ℕ)))) (IsDefault : Bor (List (Bor (List ℕ))) → Type 0)
    (all : Option (List (List ℕ))) → ((x : Bor (List (Bor (List ℕ)))) → IsDefault x → x.now ≡ [])
    → UnwrapsOrElse found IsDefault r → option_map (λ s. map (λ v. v.now) s.now) found ≡ all
    → map (λ v. v.now) r.now ≡ unwrap_or all []
read None r IsDefault all empty h e = ap (map (λ v. v.now)) (empty r h) ∙ ap (λ (o : Option (List (List ℕ))). unwrap_or o []) e
read (Some x) r IsDefault all empty h e =
    ap (λ (s : Bor (List (Bor (List ℕ)))). map (λ v. v.now) s.now) h ∙ ap (λ (o : Option (List (List ℕ))). unwrap_or o []) e

some_text : (texts : List (Bor (List ℕ))) → (length texts == 0) ≡ false → map (λ t. t.now) texts ≡ [] → ⊥
some_text [] some empty = cc
some_text (text ∷ texts) some empty = cc

-- texts that are there, and no number that the option takes
pub no_number : (option : NumberOption) (rows : List Row) (texts : List (Bor (List ℕ))) → map (λ t. t.now) texts ≡ values_at rows option.id
    → (length texts == 0) ≡ false → ((number : ℕ) → IsNumberOf option.numbers number → IsGiven (map (λ t. t.now) texts) number → ⊥)
    → HasNoNumber option rows
no_number option rows texts is some none = record {
  given = λ empty. some_text texts some (is ∙ empty);
  none = λ number taken given. none number taken (subst (λ (l : List (List ℕ)). IsGiven l number) (sym is) given);
}

-- the texts up to one more
texts_more : (words : List (Bor (List ℕ))) (i : ℕ) (d : Bor (List ℕ)) → i < length words
    → map (λ t. t.now) (take (suc i) words) ≡ map (λ t. t.now) (take i words) ++ ((get_or words i d).now ∷ [])
texts_more [] i d h = absurd (omega (arith, h))
texts_more (word ∷ words) zero d h = refl
texts_more (word ∷ words) (suc i) d h = ap (λ l. word.now ∷ l) (texts_more words i d (omega (arith, h)))

add_one : (i : ℕ) → i + 1 ≡ suc i
add_one i = omega arith

pub texts_next : (words : List (Bor (List ℕ))) (i : ℕ) (d : Bor (List ℕ)) → i < length words
    → map (λ t. t.now) (take (i + 1) words) ≡ map (λ t. t.now) (take i words) ++ ((get_or words i d).now ∷ [])
texts_next words i d h = ap (λ n. map (λ t. t.now) (take n words)) (add_one i) ∙ texts_more words i d h

-- the words of what was read, with one more
pub taken_next : {A : Type 0} (word_of : A → List ℕ) (words : List (Bor (List ℕ))) (i : ℕ) (d : Bor (List ℕ)) (all after : List A) (one : A)
    → i < length words → map word_of all ≡ map (λ t. t.now) (take i words) → after ≡ all ++ (one ∷ []) → (get_or words i d).now ≡ word_of one
    → map word_of after ≡ map (λ t. t.now) (take (i + 1) words)
taken_next word_of words i d all after one h taken is word =
    ap (map word_of) is ∙ map-append word_of all (one ∷ []) ∙ ap (λ l. l ++ (word_of one ∷ [])) taken
    ∙ ap (λ w. map (λ t. t.now) (take i words) ++ (w ∷ [])) (sym word) ∙ sym (texts_next words i d h)

-- and each can be written
pub writable_next : (edits after : List AskedEdit) (edit : AskedEdit) → All IsWritable edits → IsWritable edit → after ≡ edits ++ (edit ∷ [])
    → All IsWritable after
writable_next edits after edit all one is = subst (All IsWritable) (sym is) (All-push IsWritable edits edit all one)

all_zip_push : {X Y : Type 0} (R : X → Y → Type 0) (xs : List X) (ys : List Y) (x : X) (y : Y) → AllZip R xs ys → R x y
    → AllZip R (xs ++ (x ∷ [])) (ys ++ (y ∷ []))
all_zip_push R [] [] x y all one = (one, tt)
all_zip_push R [] (b ∷ ys) x y all one = absurd all
all_zip_push R (a ∷ xs) [] x y all one = absurd all
all_zip_push R (a ∷ xs) (b ∷ ys) x y all one = (all.0, all_zip_push R xs ys x y all.1 one)

-- the cowns of the texts, with one more
pub meant_next : (texts : List (Bor (List ℕ))) (i : ℕ) (d : Bor (List ℕ)) (cowns after : List AskedCown) (cown : AskedCown) → i < length texts
    → AllZip IsCownText (map (λ t. t.now) (take i texts)) cowns → after ≡ cowns ++ (cown ∷ []) → IsCownText (get_or texts i d).now cown
    → AllZip IsCownText (map (λ t. t.now) (take (i + 1) texts)) after
meant_next texts i d cowns after cown h meant is one =
    subst (λ (l : List (List ℕ)). AllZip IsCownText l after) (sym (texts_next texts i d h))
    (subst (AllZip IsCownText (map (λ t. t.now) (take i texts) ++ ((get_or texts i d).now ∷ []))) (sym is)
    (all_zip_push IsCownText (map (λ t. t.now) (take i texts)) cowns (get_or texts i d).now cown meant one))

-- what holds of each text, with one more
pub all_next : (P : List ℕ → Type 0) (words : List (Bor (List ℕ))) (i : ℕ) (d : Bor (List ℕ)) → i < length words
    → All P (map (λ t. t.now) (take i words)) → P (get_or words i d).now → All P (map (λ t. t.now) (take (i + 1) words))
all_next P words i d h all one =
    subst (All P) (sym (texts_next words i d h)) (All-push P (map (λ t. t.now) (take i words)) (get_or words i d).now all one)

around : (words : List (Bor (List ℕ))) (i : ℕ) (d : Bor (List ℕ)) → i < length words
    → map (λ t. t.now) words ≡ map (λ t. t.now) (take i words) ++ ((get_or words i d).now ∷ map (λ t. t.now) (drop (suc i) words))
around [] i d h = absurd (omega (arith, h))
around (word ∷ words) zero d h = refl
around (word ∷ words) (suc i) d h = ap (λ l. word.now ∷ l) (around words i d (omega (arith, h)))

length_before : (words : List (Bor (List ℕ))) (i : ℕ) → i < length words → length (map (λ (t : Bor (List ℕ)). t.now) (take i words)) ≡ i
length_before [] i h = absurd (omega (arith, h))
length_before (word ∷ words) zero h = refl
length_before (word ∷ words) (suc i) h = ap suc (length_before words i (omega (arith, h)))

-- the first word that is no edit
pub first_misspelt : (values : List (List ℕ)) (words : List (Bor (List ℕ))) (i : ℕ) (d : Bor (List ℕ)) → map (λ t. t.now) words ≡ values → i < length words
    → All IsEditWord (map (λ t. t.now) (take i words))
    → (IsEditWord (get_or words i d).now → ⊥) → IsFirstMisspelt values (i + 1)
first_misspelt values words i d is h spelt none = record {
  before = map (λ t. t.now) (take i words);
  word = (get_or words i d).now;
  after = map (λ t. t.now) (drop (suc i) words);
  split = sym is ∙ around words i d h;
  number_is = ap (λ n. n + 1) (sym (length_before words i h));
  spelt = spelt;
  misspelt = none;
}

-- there is one text, and it is this word
pub one_text_is : (texts : List (Bor (List ℕ))) (d : Bor (List ℕ)) (word : List ℕ) (r : Bool) → 1 ≤ length texts → length texts < 2
    → r ≡ bytes_eq (get_or texts 0 d).now word
    → IsTrue r ↔ (map (λ t. t.now) texts ≡ word ∷ [])
one_text_is [] d word r some one is = absurd (omega (arith, some))
one_text_is (text ∷ []) d word r some one is = (
  (λ yes. ap (λ x. x ∷ []) ((bytes_eq-Decides text.now word).0 (sym is ∙ yes))),
  (λ same. (let e : text.now ≡ word = cc in is ∙ (bytes_eq-Decides text.now word).1 e)),
)
one_text_is (text ∷ more ∷ texts) d word r some one is = absurd (omega (arith, one))

-- one path at most is no two
pub one_path : (paths : List (List ℕ)) (path : Option (String Global)) → IsPathOf paths path → 2 ≤ length paths → ⊥
one_path paths None none two = let e : length paths ≡ 0 = ap length none in omega (arith, two, e)
one_path paths (Some path) is two = let e : length paths ≡ 1 = ap length is in omega (arith, two, e)
