-- What lines say, laid over what was known.
use Rattle.std.proofs.Common.{◌≡◌, ◌≢◌, ◌∙◌, ℕ, zero, suc, ◌+◌, ◌<◌, List, [], ◌∷◌, ◌++◌, length, get_or, take, refl, sym, ap, arith, ⊎_elim}
use Rattle.std.proofs.Common.{Option, Some, None, cond, eqb, true, false}
use Rattle.std.specs.Prelude.{Bool, map, slice_get, slice_set, IsSome}
use Rattle.std.specs.Option.{unwrap_or, option_map}
use Rattle.std.proofs.lemmas.Bool.Decides.{eqb_tells}
use Rattle.std.proofs.lemmas.List.{map-append, map-set}
use Rattle.std.proofs.lemmas.Option.{none-some, same_Some, slice_get-get_or, slice_get-map}
use Rattle.boc_names.specs.declared.overlay.Thing.{Thing}
use Rattle.boc_names.specs.Names.{Text, text_at}
use Rattle.boc_names.specs.NamesFile.{Call, AreThere, AreApart, call_at, laid}
use Rattle.boc_names.specs.NamesFile.{names_at}
use Rattle.boc_names.specs.Laying.{texts_in, groups_in, named_in, NoneIsNamed, CallsIn}

-- ---- what is said of a number

-- something is said of a number, or nothing is
said_or_none : (o : Option Call) → ((call : Call) → o ≡ Some call → ⊥) → o ≡ None
said_or_none None h = refl
said_or_none (Some call) h = absurd (h call refl)

call_at_first : (call : Call) (calls : List Call) (n : ℕ) → call.number ≡ n → call_at (call ∷ calls) n ≡ Some call
call_at_first call calls n is = ⊎_elim
    (λ (same : (eqb call.number n ≡ true) × (call.number ≡ n)). rw same.0 refl)
    (λ (apart : (eqb call.number n ≡ false) × (call.number ≢ n)). absurd (apart.1 is))
    (eqb_tells call.number n)

call_at_later : (call : Call) (calls : List Call) (n : ℕ) → call.number ≢ n → call_at (call ∷ calls) n ≡ call_at calls n
call_at_later call calls n other = ⊎_elim
    (λ (same : (eqb call.number n ≡ true) × (call.number ≡ n)). absurd (other same.1))
    (λ (apart : (eqb call.number n ≡ false) × (call.number ≢ n)). rw apart.0 refl)
    (eqb_tells call.number n)

-- where nothing is said of a number, the first call is of another, and nothing is said by the others
first_other : (call : Call) (calls : List Call) (n : ℕ) → call_at (call ∷ calls) n ≡ None → (call.number ≢ n) × (call_at calls n ≡ None)
first_other call calls n none = ⊎_elim
    (λ (same : (eqb call.number n ≡ true) × (call.number ≡ n)). absurd (none-some call (sym none ∙ call_at_first call calls n same.1)))
    (λ (apart : (eqb call.number n ≡ false) × (call.number ≢ n)). (apart.1, sym (call_at_later call calls n apart.1) ∙ none))
    (eqb_tells call.number n)

-- one call more says what it says where nothing was said
pub call_at_push : (calls : List Call) (call : Call) (n : ℕ) → call_at calls n ≡ None → call.number ≡ n → call_at (calls ++ call ∷ []) n ≡ Some call
call_at_push [] call n none is = call_at_first call [] n is
call_at_push (c ∷ calls) call n none is =
    let other = first_other c calls n none in
    call_at_later c (calls ++ call ∷ []) n other.0 ∙ call_at_push calls call n other.1 is

-- and nothing of other numbers
pub call_at_push_other : (calls : List Call) (call : Call) (n : ℕ) → call.number ≢ n → call_at (calls ++ call ∷ []) n ≡ call_at calls n
call_at_push_other [] call n other = call_at_later call [] n other
call_at_push_other (c ∷ calls) call n other = ap (λ (o : Option Call). cond (eqb c.number n) (Some c) o) (call_at_push_other calls call n other)

pub there_push : (count : ℕ) (calls : List Call) (call : Call) → AreThere count calls → call.number < count → AreThere count (calls ++ call ∷ [])
there_push count [] call there here = (here, tt)
there_push count (c ∷ calls) call there here = (there.0, there_push count calls call there.1 here)

pub apart_push : (calls : List Call) (call : Call) → AreApart calls → call_at calls call.number ≡ None → AreApart (calls ++ call ∷ [])
apart_push [] call apart none = (refl, tt)
apart_push (c ∷ calls) call apart none =
    let other = first_other c calls call.number none in
    (call_at_push_other calls call c.number (λ e. other.0 (sym e)) ∙ apart.0, apart_push calls call apart.1 other.1)

-- ---- laying over

pub laid_length : {A : Type 0} (says : Call → A) (calls : List Call) (i : ℕ) (known : List A) → length (laid says calls i known) ≡ length known
laid_length says calls i [] = refl
laid_length says calls i (x ∷ known) = ap suc (laid_length says calls (suc i) known)

-- nothing laid over leaves what was known
pub laid_none : {A : Type 0} (says : Call → A) (i : ℕ) (known : List A) → laid says [] i known ≡ known
laid_none says i [] = refl
laid_none says i (x ∷ known) = ap (λ xs. x ∷ xs) (laid_none says (suc i) known)

-- a call of a number below changes nothing
laid_below : {A : Type 0} (says : Call → A) (calls : List Call) (call : Call) (i : ℕ) (known : List A) → call.number < i
    → laid says calls i known ≡ laid says (calls ++ call ∷ []) i known
laid_below says calls call i [] less = refl
laid_below says calls call i (x ∷ known) less =
    ap (λ (o : Option Call). unwrap_or (option_map says o) x ∷ laid says calls (suc i) known)
    (sym (call_at_push_other calls call i (λ e. omega (arith, less, e))))
    ∙ ap (λ xs. unwrap_or (option_map says (call_at (calls ++ call ∷ []) i)) x ∷ xs) (laid_below says calls call (suc i) known (omega (arith, less)))

-- one call more of a number of which nothing was said
pub laid_set : {A : Type 0} (says : Call → A) (calls : List Call) (call : Call) (i : ℕ) (known : List A) (k : ℕ) → call.number ≡ i + k → k < length known
    → call_at calls call.number ≡ None → slice_set (laid says calls i known) k (says call) ≡ laid says (calls ++ call ∷ []) i known
laid_set says calls call i [] k is there none = absurd (omega (arith, there))
laid_set says calls call i (x ∷ known) zero is there none =
    let here : call.number ≡ i = omega (arith, is) in
    ap (λ (o : Option Call). unwrap_or (option_map says o) x ∷ laid says calls (suc i) known)
    (sym (call_at_push calls call i (ap (call_at calls) (sym here) ∙ none) here))
    ∙ ap (λ xs. unwrap_or (option_map says (call_at (calls ++ call ∷ []) i)) x ∷ xs) (laid_below says calls call (suc i) known (omega (arith, here)))
laid_set says calls call i (x ∷ known) (suc k) is there none =
    ap (λ (o : Option Call). unwrap_or (option_map says o) x ∷ slice_set (laid says calls (suc i) known) k (says call))
    (sym (call_at_push_other calls call i (λ e. omega (arith, e, is))))
    ∙ ap (λ xs. unwrap_or (option_map says (call_at (calls ++ call ∷ []) i)) x ∷ xs)
    (laid_set says calls call (suc i) known k (omega (arith, is)) (omega (arith, there)) none)

pub laid_at : {A : Type 0} (says : Call → A) (calls : List Call) (i : ℕ) (known : List A) (k : ℕ)
    → slice_get (laid says calls i known) k ≡ option_map (λ x. unwrap_or (option_map says (call_at calls (i + k))) x) (slice_get known k)
laid_at says calls i [] k = refl
laid_at says calls i (x ∷ known) zero = ap (λ (n : ℕ). Some (unwrap_or (option_map says (call_at calls n)) x)) (let e : i ≡ i + 0 = omega arith in e)
laid_at says calls i (x ∷ known) (suc k) =
    laid_at says calls (suc i) known k
    ∙ ap (λ (n : ℕ). option_map (λ y. unwrap_or (option_map says (call_at calls n)) y) (slice_get known k)) (let e : suc i + k ≡ i + suc k = omega arith in e)

-- whether a thing was named tells whether something is said of it
pub flag_none : (o : Option Call) → Some (unwrap_or (option_map (λ call. true) o) false) ≡ Some false → o ≡ None
flag_none None e = refl
flag_none (Some call) e = absurd cc

pub flag_some : (o : Option Call) → Some (unwrap_or (option_map (λ call. true) o) false) ≡ Some true → IsSome o
flag_some None e = absurd cc
flag_some (Some call) e = refl

-- ---- things

pub none_push : (things : List Thing) (thing : Thing) → NoneIsNamed things → thing.is_named ≡ false → NoneIsNamed (things ++ thing ∷ [])
none_push [] thing none is = (is, tt)
none_push (t ∷ things) thing none is = (none.0, none_push things thing none.1 is)

-- what a thing is called that was not named
pub calls_in : (things : List Thing) (number : ℕ) (thing d : Thing) → number < length things → (get_or things number d).is_named ≡ false
    → thing.is_named ≡ true → CallsIn number thing.text.items thing.group.items things (slice_set things number thing)
calls_in things number thing d there not now = record {
  unnamed = slice_get-map (λ (t : Thing). t.is_named) things number ∙ ap (option_map (λ (t : Thing). t.is_named)) (slice_get-get_or things number d there)
      ∙ ap (λ (b : Bool). Some b) not;
  texts_are = map-set (λ (t : Thing). t.text.items) things number thing;
  groups_are = map-set (λ (t : Thing). t.group.items) things number thing;
  named_are = map-set (λ (t : Thing). t.is_named) things number thing ∙ ap (slice_set (named_in things) number) now;
}

-- one thing more
pub unnamed_next : (things : List Thing) (texts : List Text) (thing : Thing) (text : Text) → texts_in things ≡ texts → thing.text.items ≡ text
    → texts_in (things ++ thing ∷ []) ≡ texts ++ text ∷ []
unnamed_next things texts thing text are is =
    map-append (λ (t : Thing). t.text.items) things (thing ∷ []) ∙ ap (λ (ts : List Text). ts ++ thing.text.items ∷ []) are
    ∙ ap (λ (t : Text). texts ++ t ∷ []) is

names_next : (f : ℕ → Text) (numbers : List ℕ) (n : ℕ) (text : Text) → slice_get (map f numbers) n ≡ Some text
    → map f (take n numbers) ++ text ∷ [] ≡ map f (take (suc n) numbers)
names_next f [] n text is = absurd (none-some text is)
names_next f (k ∷ numbers) zero text is = ap (λ (t : Text). t ∷ []) (sym (same_Some (f k) text is))
names_next f (k ∷ numbers) (suc n) text is = ap (λ (ts : List Text). f k ∷ ts) (names_next f numbers n text is)

pub group_next : (things : List Thing) (names : List Text) (numbers : List ℕ) (place : ℕ) (thing : Thing)
    → groups_in things ≡ names_at names (take place numbers)
    → slice_get (names_at names numbers) place ≡ Some thing.group.items → groups_in (things ++ thing ∷ []) ≡ names_at names (take (place + 1) numbers)
group_next things names numbers place thing are is =
    map-append (λ (t : Thing). t.group.items) things (thing ∷ []) ∙ ap (λ (ts : List Text). ts ++ thing.group.items ∷ []) are
    ∙ names_next (text_at names) numbers place thing.group.items is
    ∙ ap (λ (n : ℕ). names_at names (take n numbers)) (let e : suc place ≡ place + 1 = omega arith in e)
