-- How far the tokens of a text were read.
use Rattle.std.proofs.Common.{◌≡◌, ℕ, ◌+◌, ◌-◌, ◌^◌, ◌<◌, ◌≤◌, ◌⊎◌, List, [], ◌∷◌, ◌++◌, length, Option, Some, None, true, false, eqb}
use Rattle.std.proofs.Common.{refl, sym, ap, ◌∙◌, subst, arith, inl, inr, append_assoc, append-nil}
use Rattle.std.proofs.lemmas.Bool.{cases_Bool, le-ltb}
use Rattle.boc_reader.specs.declared.fault.TokenFault.{TokenFault}
use Rattle.boc_reader.specs.declared.fault.TokenFault.TheVariants as faults
use Rattle.boc_reader.specs.declared.fault.ReadFault.{ReadFault}
use Rattle.boc_program.specs.declared.limits.TheConstants.{MOST_TEXT}
use Rattle.boc_reader.specs.FaultMeanings.{HasNoTokens, StandsIn, StandsFirst}
use Rattle.boc_reader.specs.Tokens.{Token, Piece, run, pair, single, is_blank, is_numeral, begins_with_digit, value_of, token_of_run}
use Rattle.boc_reader.specs.Tokens.{put, tokens_of_pieces, tokens_of_text}
use Rattle.boc_reader.specs.WrongTokens.{piece_bytes, bytes_of, pieces_of, LeadOn, HasRead, BeginsWrong, GoesWrong, IsWrongPiece}
use Rattle.boc_reader.proofs.Texts.{put_all, pieces_of_blank, pieces_of_hash, pieces_of_high, none_high, in_comment, comment_goes_on}

-- tokens before others, where both are there
abbrev both : Option (List Token) → Option (List Token) → Option (List Token)
both None found = None
both (Some ws) found = put_all ws found

put_both : (o : Option Token) (x y : Option (List Token)) → put o (both x y) ≡ both (put o x) y
put_both None x y = refl
put_both (Some w) None y = refl
put_both (Some w) (Some ws) None = refl
put_both (Some w) (Some ws) (Some vs) = refl

pub nothing_put : (found : Option (List Token)) → put_all [] found ≡ found
nothing_put None = refl
nothing_put (Some vs) = refl

-- the tokens of pieces before others
pub tokens_in_front : (ps qs : List Piece) → tokens_of_pieces (ps ++ qs) ≡ both (tokens_of_pieces ps) (tokens_of_pieces qs)
tokens_in_front [] qs = sym (nothing_put (tokens_of_pieces qs))
tokens_in_front (run bs ∷ ps) qs = ap (put (token_of_run bs)) (tokens_in_front ps qs) ∙ put_both (token_of_run bs) (tokens_of_pieces ps) (tokens_of_pieces qs)
tokens_in_front (pair b ∷ ps) qs = ap (put _) (tokens_in_front ps qs) ∙ put_both _ (tokens_of_pieces ps) (tokens_of_pieces qs)
tokens_in_front (single b ∷ ps) qs =
    elim (cases_Bool (is_blank b)) [
      | inl e ↦ rw e (tokens_in_front ps qs)
      | inr e ↦ rw e (ap (put _) (tokens_in_front ps qs) ∙ put_both _ (tokens_of_pieces ps) (tokens_of_pieces qs))
    ]

bytes_in_front : (ps qs : List Piece) → bytes_of (ps ++ qs) ≡ bytes_of ps + bytes_of qs
bytes_in_front [] qs = omega arith
bytes_in_front (p ∷ ps) qs = let h = bytes_in_front ps qs in omega (arith, h)

-- one piece was read
pub read_one : (text rest : List ℕ) (p : Piece) (ws : List Token) → pieces_of text ≡ p ∷ pieces_of rest → tokens_of_pieces (p ∷ []) ≡ Some ws
    → piece_bytes p + length rest ≡ length text → HasRead text rest ws
read_one text rest p ws parts has bytes = record {
  before = p ∷ [];
  left = pieces_of rest;
  parts = parts;
  has_tokens = has;
  bytes = omega (arith, bytes);
  leads_on = inl refl;
}

pub read_nothing : (text : List ℕ) → HasRead text text []
read_nothing text = record { before = []; left = pieces_of text; parts = refl; has_tokens = refl; bytes = omega arith; leads_on = inl refl }

pub read_blank : (b : ℕ) (bs : List ℕ) → is_blank b ≡ true → HasRead (b ∷ bs) bs []
read_blank b bs h = read_one (b ∷ bs) bs (single b) [] (pieces_of_blank b bs h) (rw h refl) (omega arith)

-- within a comment these bytes were passed, which are as good as blanks
pub record PassesComment (text rest : List ℕ) : Type 0 where
  pub blanks : List Piece
  pub parts : in_comment text ≡ blanks ++ in_comment rest
  pub no_tokens : tokens_of_pieces blanks ≡ Some []
  pub bytes : bytes_of blanks + length rest ≡ length text

pub passes_nothing : (text : List ℕ) → PassesComment text text
passes_nothing text = record { blanks = []; parts = refl; no_tokens = refl; bytes = omega arith }

pub passes_one : (text : List ℕ) (b : ℕ) (bs : List ℕ) → eqb b 10 ≡ false → b < 128 → PassesComment text (b ∷ bs) → PassesComment text bs
passes_one text b bs e low h = record {
  blanks = h.blanks ++ single 32 ∷ [];
  parts = h.parts ∙ ap (λ ps. h.blanks ++ ps) (comment_goes_on b bs e low) ∙ sym (append_assoc h.blanks (single 32 ∷ []) (in_comment bs));
  no_tokens = tokens_in_front h.blanks (single 32 ∷ []) ∙ ap (λ x. both x (Some [])) h.no_tokens;
  bytes = omega (arith, bytes_in_front h.blanks (single 32 ∷ []), h.bytes);
}

pub read_comment : (text rest : List ℕ) → PassesComment text rest → LeadOn (in_comment rest) rest → HasRead (35 ∷ text) rest []
read_comment text rest h leads = record {
  before = single 32 ∷ h.blanks;
  left = in_comment rest;
  parts = pieces_of_hash text ∙ ap (λ ps. single 32 ∷ ps) h.parts;
  has_tokens = h.no_tokens;
  bytes = omega (arith, h.bytes);
  leads_on = leads;
}

same_tokens : (left : List Piece) (rest : List ℕ) → LeadOn left rest → tokens_of_pieces left ≡ tokens_of_text rest
unfolding tokens_of_text
same_tokens left rest (inl e) = ap tokens_of_pieces e
same_tokens left rest (inr x) =
    ap tokens_of_pieces x.4 ∙ none_high x.0 x.2 x.5
    ∙ sym (ap tokens_of_text x.3 ∙ ap tokens_of_pieces (pieces_of_high x.0 x.1 x.5) ∙ none_high x.0 (pieces_of x.1) x.5)

-- the tokens of a text are those that were read, and those of the rest
pub tokens_read : (text rest : List ℕ) (ws : List Token) → HasRead text rest ws → tokens_of_text text ≡ put_all ws (tokens_of_text rest)
unfolding tokens_of_text
tokens_read text rest ws h =
    ap tokens_of_pieces h.parts ∙ tokens_in_front h.before h.left ∙ ap (λ x. both x (tokens_of_pieces h.left)) h.has_tokens
    ∙ ap (put_all ws) (same_tokens h.left rest h.leads_on)

put_one : (w : Token) (found : Option (List Token)) → put_all (w ∷ []) found ≡ put (Some w) found
put_one w None = refl
put_one w (Some vs) = refl

pub token_read : (text rest : List ℕ) (w : Token) → HasRead text rest (w ∷ []) → tokens_of_text text ≡ put (Some w) (tokens_of_text rest)
token_read text rest w h = tokens_read text rest (w ∷ []) h ∙ put_one w (tokens_of_text rest)

-- after a byte from 128 on nothing is read
module _ (b : ℕ) (bs after : List ℕ) (vs : List Token) (high : 128 ≤ b) (h : HasRead (b ∷ bs) after vs) (less : length after < length (b ∷ bs)) where
  none_before : (before : List Piece) → before ≡ h.before → ⊥
  none_before [] e = let n = ap bytes_of e in let k = h.bytes in omega (arith, n, k, less)
  none_before (p ∷ ps) e =
      let heads : p ∷ (ps ++ h.left) ≡ single b ∷ pieces_of bs = ap (λ x. x ++ h.left) e ∙ sym h.parts ∙ pieces_of_high b bs high in
      let first : p ≡ single b = cc heads in
      let none : tokens_of_pieces (p ∷ ps) ≡ None = ap (λ x. tokens_of_pieces (x ∷ ps)) first ∙ none_high b ps high in
      let some : tokens_of_pieces (p ∷ ps) ≡ Some vs = ap tokens_of_pieces e ∙ h.has_tokens in
      cc (none, some)

  none_read : ⊥
  none_read = none_before h.before refl

-- what was read, and what was read then
pub read_on : (text rest after : List ℕ) (ws vs : List Token) → HasRead text rest ws → HasRead rest after vs → length after < length rest
    → HasRead text after (ws ++ vs)
read_on text rest after ws vs h k less =
    elim h.leads_on [
      | inl e ↦ record {
        before = h.before ++ k.before;
        left = k.left;
        parts = h.parts ∙ ap (λ x. h.before ++ x) (e ∙ k.parts) ∙ sym (append_assoc h.before k.before k.left);
        has_tokens = tokens_in_front h.before k.before ∙ ap (λ x. both x (tokens_of_pieces k.before)) h.has_tokens ∙ ap (put_all ws) k.has_tokens;
        bytes = omega (arith, bytes_in_front h.before k.before, h.bytes, k.bytes);
        leads_on = k.leads_on;
      }
      | inr x ↦ absurd (none_read x.0 x.1 after vs x.5 (subst (λ r. HasRead r after vs) x.3 k) (subst (λ (r : List ℕ). length after < length r) x.3 less))
    ]

-- what was read, and what was read then, which are no tokens
pub read_more : (text rest after : List ℕ) (ws : List Token) → HasRead text rest ws → HasRead rest after [] → length after < length rest
    → HasRead text after ws
read_more text rest after ws h k less = subst (HasRead text after) (append-nil ws) (read_on text rest after ws [] h k less)

-- what is wrong at the front of the rest is the first that is wrong
pub wrong_behind : (text rest : List ℕ) (ws : List Token) (fault : TokenFault) → HasRead text rest ws → BeginsWrong fault rest
    → GoesWrong fault text (length text - length rest)
wrong_behind text rest ws fault h w =
    elim h.leads_on [
      | inl e ↦ record {
        before = h.before;
        tokens = ws;
        has_tokens = h.has_tokens;
        wrong = w.wrong;
        behind = w.behind;
        parts = h.parts ∙ ap (λ x. h.before ++ x) (e ∙ w.parts);
        is_wrong = w.is_wrong;
        place = omega (arith, h.bytes);
      }
      | inr x ↦
          let heads : w.wrong ∷ w.behind ≡ single x.0 ∷ pieces_of x.1 = sym w.parts ∙ ap pieces_of x.3 ∙ pieces_of_high x.0 x.1 x.5 in
          let first : w.wrong ≡ single x.0 = cc heads in
          record {
            before = h.before;
            tokens = ws;
            has_tokens = h.has_tokens;
            wrong = single x.0;
            behind = x.2;
            parts = h.parts ∙ ap (λ p. h.before ++ p) x.4;
            is_wrong = subst (IsWrongPiece fault) first w.is_wrong;
            place = omega (arith, h.bytes);
          }
    ]

pub no_numeral : (bs : List ℕ) → begins_with_digit bs ≡ true → is_numeral bs ≡ false → token_of_run bs ≡ None
unfolding token_of_run
no_numeral bs d n = rw (d, n) refl

-- what doesn't begin with a digit is no number
pub no_digit : (bs : List ℕ) → begins_with_digit bs ≡ false → is_numeral bs ≡ false
no_digit [] none = refl
no_digit (d ∷ ds) none = rw none refl

numeral_begins : (bs : List ℕ) → is_numeral bs ≡ true → begins_with_digit bs ≡ true
numeral_begins bs n =
    elim (cases_Bool (begins_with_digit bs)) [
      | inl e ↦ e
      | inr e ↦ absurd (cc (no_digit bs e, n))
    ]

too_large : (bs : List ℕ) → is_numeral bs ≡ true → 2 ^ 63 ≤ value_of bs → token_of_run bs ≡ None
unfolding token_of_run
too_large bs n h = rw (numeral_begins bs n, n, le-ltb (value_of bs) (2 ^ 63) h) refl

-- a piece that is wrong is no token
wrong_is_none : (fault : TokenFault) (p : Piece) (ps : List Piece) → IsWrongPiece fault p → tokens_of_pieces (p ∷ ps) ≡ None
wrong_is_none faults.NotAscii (single b) ps h = none_high b ps h
wrong_is_none faults.NotAscii (run bs) ps h = absurd h
wrong_is_none faults.NotAscii (pair b) ps h = absurd h
wrong_is_none faults.NumberTooLarge (run bs) ps h = rw (too_large bs h.0 h.1) refl
wrong_is_none faults.NumberTooLarge (pair b) ps h = absurd h
wrong_is_none faults.NumberTooLarge (single b) ps h = absurd h
wrong_is_none faults.BadToken (run bs) ps h = rw h.0 refl
wrong_is_none faults.BadToken (pair b) ps h = absurd h
wrong_is_none faults.BadToken (single b) ps h = rw (h.1, h.0) refl

-- it is wrong in one way
one_way : (fault other : TokenFault) (p : Piece) → IsWrongPiece fault p → IsWrongPiece other p → fault ≡ other
one_way faults.NotAscii faults.NotAscii p h k = refl
one_way faults.BadToken faults.BadToken p h k = refl
one_way faults.NumberTooLarge faults.NumberTooLarge p h k = refl
one_way faults.NotAscii faults.BadToken (run bs) h k = absurd h
one_way faults.NotAscii faults.BadToken (pair b) h k = absurd h
one_way faults.NotAscii faults.BadToken (single b) h k = absurd (omega (arith, h, k.2))
one_way faults.BadToken faults.NotAscii (run bs) h k = absurd k
one_way faults.BadToken faults.NotAscii (pair b) h k = absurd k
one_way faults.BadToken faults.NotAscii (single b) h k = absurd (omega (arith, k, h.2))
one_way faults.NotAscii faults.NumberTooLarge (run bs) h k = absurd h
one_way faults.NotAscii faults.NumberTooLarge (pair b) h k = absurd h
one_way faults.NotAscii faults.NumberTooLarge (single b) h k = absurd k
one_way faults.NumberTooLarge faults.NotAscii (run bs) h k = absurd k
one_way faults.NumberTooLarge faults.NotAscii (pair b) h k = absurd k
one_way faults.NumberTooLarge faults.NotAscii (single b) h k = absurd h
one_way faults.BadToken faults.NumberTooLarge (run bs) h k = absurd (cc (h.1, k.0))
one_way faults.BadToken faults.NumberTooLarge (pair b) h k = absurd h
one_way faults.BadToken faults.NumberTooLarge (single b) h k = absurd k
one_way faults.NumberTooLarge faults.BadToken (run bs) h k = absurd (cc (k.1, h.0))
one_way faults.NumberTooLarge faults.BadToken (pair b) h k = absurd h
one_way faults.NumberTooLarge faults.BadToken (single b) h k = absurd h

put_fails : (o : Option Token) → put o None ≡ None
put_fails None = refl
put_fails (Some w) = refl

none_behind : (p : Piece) (ps : List Piece) → tokens_of_pieces ps ≡ None → tokens_of_pieces (p ∷ ps) ≡ None
none_behind (run bs) ps e = rw e (put_fails (token_of_run bs))
none_behind (pair b) ps e = rw e (put_fails _)
none_behind (single b) ps e = elim (cases_Bool (is_blank b)) [ inl h ↦ rw h e | inr h ↦ rw (h, e) (put_fails _) ]

none_or_some : (found : Option (List Token)) → (found ≡ None) ⊎ ((ws : List Token) × (found ≡ Some ws))
none_or_some None = inl refl
none_or_some (Some ws) = inr (ws, refl)

pub some_behind : (p : Piece) (ps : List Piece) (ws : List Token) → tokens_of_pieces (p ∷ ps) ≡ Some ws
    → (vs : List Token) × (tokens_of_pieces ps ≡ Some vs)
some_behind p ps ws e =
    elim (none_or_some (tokens_of_pieces ps)) [
      | inl none ↦ absurd (cc (none_behind p ps none, e))
      | inr some ↦ some
    ]

one_first : (fault other : TokenFault) (ps qs : List Piece) (p q : Piece) (rs ss : List Piece) (ws vs : List Token)
    → tokens_of_pieces ps ≡ Some ws → tokens_of_pieces qs ≡ Some vs → ps ++ p ∷ rs ≡ qs ++ q ∷ ss → IsWrongPiece fault p → IsWrongPiece other q
    → (fault ≡ other) × (bytes_of ps ≡ bytes_of qs)
one_first fault other [] [] p q rs ss ws vs a b e h k =
    let first : p ≡ q = cc e in (one_way fault other p h (subst (IsWrongPiece other) (sym first) k), refl)
one_first fault other [] (r ∷ qs) p q rs ss ws vs a b e h k =
    let first : p ≡ r = cc e in absurd (cc (wrong_is_none fault r qs (subst (IsWrongPiece fault) first h), b))
one_first fault other (r ∷ ps) [] p q rs ss ws vs a b e h k =
    let first : q ≡ r = cc e in absurd (cc (wrong_is_none other r ps (subst (IsWrongPiece other) first k), a))
one_first fault other (r ∷ ps) (s ∷ qs) p q rs ss ws vs a b e h k =
    let first : r ≡ s = cc e in
    let behind : ps ++ p ∷ rs ≡ qs ++ q ∷ ss = cc e in
    let x = some_behind r ps ws a in
    let y = some_behind s qs vs b in
    let rest = one_first fault other ps qs p q rs ss x.0 y.0 x.1 y.1 behind h k in
    (rest.0, omega (arith, ap piece_bytes first, rest.1))

-- a text goes wrong first in one way, at one place
pub one_fault : (fault other : TokenFault) (text : List ℕ) (at place : ℕ) → GoesWrong fault text at → GoesWrong other text place
    → (fault ≡ other) × (at ≡ place)
one_fault fault other text at place h k =
    let one = one_first fault other h.before k.before h.wrong k.wrong h.behind k.behind h.tokens k.tokens h.has_tokens k.has_tokens
    (sym h.parts ∙ k.parts) h.is_wrong k.is_wrong in
    (one.0, h.place ∙ one.1 ∙ sym k.place)

-- and has no tokens
pub wrong_has_none : (fault : TokenFault) (text : List ℕ) (at : ℕ) → GoesWrong fault text at → tokens_of_text text ≡ None
unfolding tokens_of_text
wrong_has_none fault text at h =
    ap tokens_of_pieces h.parts ∙ tokens_in_front h.before (h.wrong ∷ h.behind)
    ∙ ap (both (tokens_of_pieces h.before)) (wrong_is_none fault h.wrong h.behind h.is_wrong) ∙ ap (λ x. both x None) h.has_tokens

-- what is reported of a text that goes wrong there
pub tells_first : (fault : TokenFault) (text : List ℕ) (at : ℕ) (told : ReadFault) → length text ≤ MOST_TEXT → at < length text
    → GoesWrong fault text at → (at ≤ length text → told.at ≡ at) → StandsIn told text → HasNoTokens text × StandsFirst fault told text
tells_first fault text at told short within first there stands = (
  record { short = short; none = wrong_has_none fault text at first },
  (stands, subst (GoesWrong fault text) (sym (there (omega (arith, within)))) first),
)
