-- What was read of an input tells whether it begins as a program does, and what is read of bytes that were given back.
use Rattle.std.proofs.Common.{◌≡◌, ◌∙◌, ℕ, ◌+◌, ◌-◌, ◌<◌, ◌≤◌, ◌++◌, Bool, zero, suc, List, [], ◌∷◌, length, take, Option, Some, None, Result, Ok, Err, refl, ap, sym, subst, arith}
use Rattle.std.proofs.Common.{append_assoc, length-append, nat_lt, true, false}
use Rattle.std.specs.Io.KnownBytes.{Consumes, IsAtEnd, Keeps, ReadConsumes, prepend_known}
use Rattle.std.proofs.lemmas.List.{append-nil}
use Rattle.boc_program.specs.declared.limits.TheConstants.{MOST_TEXT}
use Rattle.boc_text.specs.Streams.{ReadsWhole}
use Rattle.boc_input.specs.FirstTokens.{begins_program, is_told}
use Rattle.boc_input.specs.Taken.{Begin, ReadsFront, TakesText}
use Rattle.boc_input.proofs.Tokens.{less_than, no_less, told}

-- ---- bytes that were given back

-- such bytes are read before the others
pub front_read : {E : Type 0} (r : Result ℕ E) (front left buffer : List ℕ) (rest : Option (List ℕ)) → 0 < length front
    → ReadConsumes (Some front) (Some left) r buffer → ReadConsumes (prepend_known front rest) (prepend_known left rest) r buffer
front_read (Ok n) front left buffer None some h = (tt, λ none room. tt)
front_read (Ok n) front left buffer (Some xs) some h = (
  ap (λ t. t ++ xs) h.0 ∙ append_assoc (take n buffer) left xs,
  λ none room. absurd (
      let over : left ≡ [] = h.1 none room in
      let all : front ≡ take n buffer ++ left = h.0 in
      let nothing : take n buffer ≡ [] = ap (λ k. take k buffer) none in
      let gone : front ≡ [] = all ∙ ap (λ t. t ++ left) nothing ∙ over in
      omega (arith, some, ap length gone)),
)
front_read (Err e) front left buffer None some h = tt
front_read (Err e) front left buffer (Some xs) some h = ap (λ t. t ++ xs) h

none_in_front : (rest : Option (List ℕ)) → prepend_known [] rest ≡ rest
none_in_front None = refl
none_in_front (Some xs) = refl

-- where there are none, the others are read
pub rest_read : {E : Type 0} (r : Result ℕ E) (front buffer : List ℕ) (rest left : Option (List ℕ)) → front ≡ [] → ReadConsumes rest left r buffer
    → ReadConsumes (prepend_known front rest) (prepend_known front left) r buffer
rest_read r front buffer rest left none h =
    subst (λ (f : List ℕ). ReadConsumes (prepend_known f rest) (prepend_known f left) r buffer) (sym none)
    (subst (λ (b : Option (List ℕ)). ReadConsumes b (prepend_known [] left) r buffer) (sym (none_in_front rest))
    (subst (λ (b : Option (List ℕ)). ReadConsumes rest b r buffer) (sym (none_in_front left)) h))

-- ---- what was read

-- what all bytes begin as, from the first ones
begin_from : (before after : Option (List ℕ)) (text : List ℕ) → Consumes before after text
    → ((more : List ℕ) → after ≡ Some more → begins_program (take (MOST_TEXT + 1) (text ++ more)) ≡ begins_program text) → Begin (begins_program text) before
begin_from None after text taken tells = tt
begin_from (Some all) None text taken tells = absurd taken
begin_from (Some all) (Some more) text taken tells = ap (λ bytes. begins_program (take (MOST_TEXT + 1) bytes)) taken ∙ tells more refl

-- what is taken of a text that others follow
take_past : (xs ys : List ℕ) (n : ℕ) → length xs ≤ n → take n (xs ++ ys) ≡ xs ++ take (n - length xs) ys
take_past [] ys n few = ap (λ k. take k ys) (let e : n ≡ n - 0 = omega arith in e)
take_past (x ∷ xs) ys zero few = absurd (omega (arith, few))
take_past (x ∷ xs) ys (suc n) few =
    let less : n - length xs ≡ suc n - suc (length xs) = omega arith in
    ap (λ t. x ∷ t) (take_past xs ys n (omega (arith, few)) ∙ ap (λ k. xs ++ take k ys) less)

take_none : (m : ℕ) (xs : List ℕ) → m ≡ 0 → take m xs ≡ []
take_none m xs none = ap (λ k. take k xs) none

take_nothing : (m : ℕ) → let none : List ℕ = [] in take m none ≡ none
take_nothing zero = refl
take_nothing (suc m) = refl

-- bytes that are given back come as they did
pub given_back : (before between after : Option (List ℕ)) (text : List ℕ) → Consumes before between text → after ≡ prepend_known text between
    → Keeps before after
given_back None between after text taken back = tt
given_back (Some all) None after text taken back = absurd taken
given_back (Some all) (Some rest) after text taken back = subst (Keeps (Some all)) (sym back) (sym taken)

-- and what more there is follows
pub consumes_on : (before between after : Option (List ℕ)) (xs ys : List ℕ) → Consumes before between xs → Consumes between after ys
    → Consumes before after (xs ++ ys)
consumes_on None between after xs ys first second = tt
consumes_on (Some all) None after xs ys first second = absurd first
consumes_on (Some all) (Some left) None xs ys first second = absurd second
consumes_on (Some all) (Some left) (Some rest) xs ys first second =
    first ∙ ap (λ (t : List ℕ). xs ++ t) second ∙ sym (append_assoc xs ys rest)

-- nothing was read where no more bytes come
pub consumes_none : (before between after : Option (List ℕ)) (text nothing : List ℕ) → nothing ≡ [] → Consumes before between text
    → Consumes between after nothing → Consumes before after text
consumes_none before between after text nothing none first second =
    subst (Consumes before after) (append-nil text)
    (consumes_on before between after text [] first (subst (Consumes between after) none second))

-- what was read tells what all bytes begin as
pub begin_front : (before after : Option (List ℕ)) (text : List ℕ) → ReadsFront before after text → Begin (begins_program text) before
begin_front before after text reads = begin_from before after text reads.taken (λ more is. go (is_told text) refl more is)
  where
    past : (more : List ℕ) → take (MOST_TEXT + 1) (text ++ more) ≡ text ++ take (MOST_TEXT + 1 - length text) more
    past more = take_past text more (MOST_TEXT + 1) reads.few

    full : (b : Bool) → nat_lt (length text) (MOST_TEXT + 1) ≡ b → is_told text ≡ false → (more : List ℕ) → after ≡ Some more
        → begins_program (take (MOST_TEXT + 1) (text ++ more)) ≡ begins_program text
    full true less untold more is =
        let none : more ≡ [] = subst IsAtEnd is (reads.over untold (less_than (length text) (MOST_TEXT + 1) less)) in
        ap begins_program (past more ∙ ap (λ t. text ++ take (MOST_TEXT + 1 - length text) t) none
        ∙ ap (λ t. text ++ t) (take_nothing (MOST_TEXT + 1 - length text)) ∙ append-nil text)
    full false less untold more is =
        ap begins_program (past more ∙ ap (λ t. text ++ t) (take_none (MOST_TEXT + 1 - length text) more (let most = no_less (length text) (MOST_TEXT + 1) less in omega (arith, most)))
        ∙ append-nil text)

    go : (b : Bool) → is_told text ≡ b → (more : List ℕ) → after ≡ Some more
        → begins_program (take (MOST_TEXT + 1) (text ++ more)) ≡ begins_program text
    go true is more same = ap begins_program (past more) ∙ told text (take (MOST_TEXT + 1 - length text) more) is
    go false is more same = full (nat_lt (length text) (MOST_TEXT + 1)) refl is more same

-- ---- a program text

-- the first bytes of one, and the others
pub text_taken : (before between after : Option (List ℕ)) (text rest all : List ℕ) (limit : ℕ) → ReadsFront before between text → is_told text ≡ true
    → begins_program text ≡ true → ReadsWhole between after rest limit → limit ≡ MOST_TEXT + 1 - length text → all ≡ text ++ rest
    → TakesText before after all
text_taken before between after text rest all limit front is begins reads room same =
    subst (TakesText before after) (sym same) (record {
      reads = record {
        taken = consumes_on before between after text rest front.taken reads.taken;
        few = omega (arith, length-append text rest, front.few, reads.few, room);
        whole = λ less. reads.whole (omega (arith, length-append text rest, front.few, room, less));
      };
      begins = told text rest is ∙ begins;
    })

-- the first bytes alone
pub front_taken : (before after : Option (List ℕ)) (text : List ℕ) → ReadsFront before after text → is_told text ≡ false
    → begins_program text ≡ true → TakesText before after text
front_taken before after text front untold begins =
    record { reads = record { taken = front.taken; few = front.few; whole = λ less. front.over untold less }; begins = begins }
