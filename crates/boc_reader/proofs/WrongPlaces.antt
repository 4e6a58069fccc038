-- Where the first wrong name of a text begins.
use Rattle.std.proofs.Common.{◌≡◌, ◌≢◌, ℕ, ◌+◌, ◌-◌, ◌<◌, ◌≤◌, Bool, true, false, List, [], ◌∷◌, ◌++◌, length, drop, Option, Some, None, refl, sym, ap}
use Rattle.std.proofs.Common.{◌∙◌, subst, arith, append_assoc, append-nil, length-drop, inl, inr}
use Rattle.std.proofs.Common.{◌^◌, eqb}
use Rattle.std.specs.Prelude.{◌&&◌, nat_lt, nat_le, if◌then◌else◌}
use Rattle.std.proofs.lemmas.Bool.Decides.{nat_tests}
use Rattle.std.specs.Option.{option_map, option_map_or}
use Rattle.std.proofs.lemmas.Bool.{cases_Bool}
use Rattle.std.proofs.Common.{Bor, get_or, length-append, take}
use Rattle.std.proofs.lemmas.List.{length-map, map_more, take-append-drop}
use Rattle.boc_reader.specs.declared.terminal.Sign.{Sign}
use Rattle.boc_reader.specs.declared.terminal.Keyword.{Keyword}
use Rattle.boc_reader.specs.Tokens.{Token, name, number, keyword, sign, Piece, run, pair, single, join, in_front, cut, without_comments, is_blank, is_name_byte}
use Rattle.boc_reader.specs.Tokens.{begins_with_digit, is_numeral, value_of, keyword_of, put, pair_sign, single_sign, token_of_run}
use Rattle.boc_reader.specs.Tokens.{tokens_of_pieces, tokens_of_text}
use Rattle.boc_reader.specs.Shape.{Tree, HasShape}
use Rattle.boc_reader.specs.Names.{Named}
use Rattle.boc_reader.specs.NameUses.{Use, tree_uses}
use Rattle.boc_reader.specs.WrongNames.{wrong, one_verdict, verdict, names_of_tokens, IsPlaceOfName, NameGoesWrong}
use Rattle.boc_reader.specs.WrongTokens.{piece_bytes, bytes_of, pieces_of, HasRead}
use Rattle.boc_reader.specs.Placed.{token_of, tokens_of, ArePlaced, AreReached, BeginsAt, BeginsToken}
use Rattle.boc_reader.specs.Judging.{IsNameAt}
use Rattle.boc_reader.specs.declared.fault.NameFault.{NameFault}
use Rattle.boc_reader.specs.declared.token.Placed.{Placed}
use Rattle.boc_reader.specs.declared.token.Token.{Token as Token'}
use Rattle.boc_reader.specs.declared.token.Token.TheVariants as tokens
use Rattle.boc_reader.proofs.NameOrder.{tree_order}
use Rattle.boc_reader.proofs.Reading.{some_behind}
use Rattle.boc_reader.proofs.ResolvingFront.{next_at}
use Rattle.boc_reader.proofs.Spellings.{same_tree}
use Rattle.boc_reader.proofs.Texts.{none_high, pieces_of_high}

-- The first piece of a text that begins with a token.

abbrev pub IsNoBlank : Piece → Type 0
IsNoBlank (run bs) = Unit {0}
IsNoBlank (pair b) = Unit {0}
IsNoBlank (single b) = is_blank b ≡ false

pub record BeginsWith (ps : List Piece) : Type 0 where
  pub piece : Piece
  pub behind : List Piece
  pub parts : ps ≡ piece ∷ behind
  pub no_blank : IsNoBlank piece

join_begins : (b : ℕ) (ps : List Piece) → BeginsWith (join b ps)
join_begins b [] = record { piece = run (b ∷ []); behind = []; parts = refl; no_blank = tt }
join_begins b (run bs ∷ ps) = record { piece = run (b ∷ bs); behind = ps; parts = refl; no_blank = tt }
join_begins b (pair c ∷ ps) = record { piece = run (b ∷ []); behind = pair c ∷ ps; parts = refl; no_blank = tt }
join_begins b (single c ∷ ps) = record { piece = run (b ∷ []); behind = single c ∷ ps; parts = refl; no_blank = tt }

front_begins : (b : ℕ) (ps : List Piece) → is_blank b ≡ false → BeginsWith (in_front b ps)
front_begins b ps h = either (is_name_byte b)
  where
    either : (t : Bool) → BeginsWith (if t then join b ps else single b ∷ ps)
    either true = join_begins b ps
    either false = record { piece = single b; behind = ps; parts = refl; no_blank = h }

cut_begins : (b : ℕ) (bs : List ℕ) → is_blank b ≡ false → BeginsWith (cut (b ∷ bs))
unfolding cut
cut_begins b [] h = front_begins b [] h
cut_begins b (c ∷ bs) h = either _
  where
    either : (t : Bool) → BeginsWith (if t then pair b ∷ cut bs else in_front b (cut (c ∷ bs)))
    either true = record { piece = pair b; behind = cut bs; parts = refl; no_blank = tt }
    either false = front_begins b (cut (c ∷ bs)) h

pub text_begins : (b : ℕ) (bs : List ℕ) → is_blank b ≡ false → b ≢ 35 → BeginsWith (pieces_of (b ∷ bs))
text_begins b bs h n = let e : eqb b 35 ≡ false = grind (arith, nat_tests) in rw e (cut_begins b (without_comments false bs) h)

-- A piece that is the token of a name.

pub put_first : (o : Option Token) (found : Option (List Token)) (w : Token) (ws : List Token) → put o found ≡ Some (w ∷ ws) → o ≡ Some w
put_first None found w ws h = absurd cc
put_first (Some v) None w ws h = absurd cc
put_first (Some v) (Some vs) w ws h = cc

no_sign : (o : Option Sign) (x : Named) → option_map sign o ≡ Some (name x) → ⊥
no_sign None x h = cc
no_sign (Some s) x h = cc

run_named : (bs x : Named) → token_of_run bs ≡ Some (name x) → bs ≡ x
unfolding token_of_run
run_named bs x h = digit (begins_with_digit bs) h
  where
    short : (t : Bool) → (let o : Option Token = if t then Some (name bs) else None in o) ≡ Some (name x) → bs ≡ x
    short true e = cc
    short false e = absurd cc

    word : (o : Option Keyword) (t : Bool) → option_map_or (λ k. Some (keyword k)) o (if t then Some (name bs) else None) ≡ Some (name x) → bs ≡ x
    word None t e = short t e
    word (Some k) t e = absurd cc

    numeral : (t : Bool) → (let o : Option Token = if t then Some (number (value_of bs)) else None in o) ≡ Some (name x) → bs ≡ x
    numeral true e = absurd cc
    numeral false e = absurd cc

    digit : (t : Bool) → (if t then (if is_numeral bs && nat_lt (value_of bs) (2 ^ 63) then Some (number (value_of bs)) else None)
        else option_map_or (λ k. Some (keyword k)) (keyword_of bs) (if nat_le (length bs) 32 then Some (name bs) else None)) ≡ Some (name x) → bs ≡ x
    digit true e = numeral _ e
    digit false e = word (keyword_of bs) (nat_le (length bs) 32) e

piece_named : (p : Piece) (ps : List Piece) (x : Named) (ws : List Token) → IsNoBlank p → tokens_of_pieces (p ∷ ps) ≡ Some (name x ∷ ws)
    → (p ≡ run x) × (token_of_run x ≡ Some (name x))
piece_named (run bs) ps x ws n h =
    let is = put_first (token_of_run bs) (tokens_of_pieces ps) (name x) ws h in
    let same = run_named bs x is in
    (ap run same, subst (λ (ys : Named). token_of_run ys ≡ Some (name x)) same is)
piece_named (pair b) ps x ws n h = absurd (no_sign (pair_sign b) x (put_first (option_map sign (pair_sign b)) (tokens_of_pieces ps) (name x) ws h))
piece_named (single b) ps x ws n h =
    let same : tokens_of_pieces (single b ∷ ps) ≡ put (option_map sign (single_sign b)) (tokens_of_pieces ps) = rw n refl in
    absurd (no_sign (single_sign b) x (put_first (option_map sign (single_sign b)) (tokens_of_pieces ps) (name x) ws (sym same ∙ h)))

-- The place of a name up to which a text was read.

name_behind : (text rest : List ℕ) (ws vs : List Token) (x : Named) → HasRead text rest ws → BeginsToken rest → tokens_of_text rest ≡ Some (name x ∷ vs)
    → IsPlaceOfName text (length (names_of_tokens ws)) (length text - length rest)
unfolding tokens_of_text
name_behind text [] ws vs x h begins has = absurd begins
name_behind text (b ∷ bs) ws vs x h begins has =
    let first = text_begins b bs begins.0 begins.1 in
    let named = piece_named first.piece first.behind x vs first.no_blank (sym (ap tokens_of_pieces first.parts) ∙ has) in
    elim h.leads_on [
      | inl e ↦ record {
        before = h.before;
        tokens = ws;
        has_tokens = h.has_tokens;
        count = refl;
        found = x;
        is_name = named.1;
        behind = first.behind;
        parts = h.parts ∙ ap (λ ps. h.before ++ ps) (e ∙ first.parts ∙ ap (λ p. p ∷ first.behind) named.0);
        place = omega (arith, h.bytes);
      }
      | inr high ↦
          let parts = ap pieces_of high.3 ∙ pieces_of_high high.0 high.1 high.5 in
          absurd (cc (ap tokens_of_pieces parts ∙ none_high high.0 (pieces_of high.1) high.5, has))
    ]

pub within_text : (text : List ℕ) (at : ℕ) → BeginsToken (drop at text) → (at ≤ length text) × (at ≡ length text - length (drop at text))
within_text text at begins = by (drop at text) refl begins
  where
    by : (rest : List ℕ) → drop at text ≡ rest → BeginsToken rest → (at ≤ length text) × (at ≡ length text - length (drop at text))
    by [] e h = absurd h
    by (b ∷ bs) e h = (omega (arith, ap length e, length-drop at text), omega (arith, ap length e, length-drop at text))

reached_at : (text : List ℕ) (ws : List Token) (front : List Placed) (p : Placed) (back : List Placed) → AreReached text ws (front ++ p ∷ back)
    → HasRead text (drop p.at text) (ws ++ tokens_of front)
reached_at text ws [] p back h = subst (HasRead text (drop p.at text)) (sym (append-nil ws)) h.0
reached_at text ws (q ∷ qs) p back h =
    subst (HasRead text (drop p.at text)) (append_assoc ws (token_of q.token ∷ []) (tokens_of qs))
    (reached_at text (ws ++ token_of q.token ∷ []) qs p back h.1)

placed_at : (text : List ℕ) (front : List Placed) (p : Placed) (back : List Placed) → ArePlaced text (front ++ p ∷ back)
    → BeginsAt text p.at (tokens_of (p ∷ back))
placed_at text [] p back h = h.0
placed_at text (q ∷ qs) p back h = placed_at text qs p back h.1

-- a name among tokens that are placed begins there
pub name_begins : (text : List ℕ) (ps : List Placed) (n at : ℕ) → ArePlaced text ps → AreReached text [] ps → IsNameAt ps n at
    → IsPlaceOfName text n at × (at ≤ length text)
name_begins text ps n at placed reached named =
    let place = named.found.at in
    let begins = placed_at text named.before named.found named.behind (subst (ArePlaced text) named.parts placed) in
    let read = reached_at text [] named.before named.found named.behind (subst (AreReached text []) named.parts reached) in
    let there = within_text text place begins.begins in
    let has : tokens_of_text (drop place text) ≡ Some (name named.called ∷ tokens_of named.behind) =
    begins.has_tokens ∙ ap (λ w. Some (w ∷ tokens_of named.behind)) named.is_name in
    let found = name_behind text (drop place text) (tokens_of named.before) (tokens_of named.behind) named.called read begins.begins has in (
      subst (IsPlaceOfName text n) (sym there.1 ∙ sym named.place)
          (subst (λ (k : ℕ). IsPlaceOfName text k (length text - length (drop place text))) named.count found),
      omega (arith, there.0, named.place),
    )

-- There is one such place.

abbrev names_in : Option Token → ℕ
names_in None = 0
names_in (Some (name x)) = 1
names_in (Some (number n)) = 0
names_in (Some (keyword k)) = 0
names_in (Some (sign s)) = 0

names_more : (o : Option Token) (vs ws : List Token) → put o (Some vs) ≡ Some ws → length (names_of_tokens ws) ≡ names_in o + length (names_of_tokens vs)
names_more None vs ws h = absurd cc
names_more (Some (name x)) vs ws h = let e : name x ∷ vs ≡ ws = cc h in omega (arith, ap (λ us. length (names_of_tokens us)) e)
names_more (Some (number n)) vs ws h = let e : number n ∷ vs ≡ ws = cc h in omega (arith, ap (λ us. length (names_of_tokens us)) e)
names_more (Some (keyword k)) vs ws h = let e : keyword k ∷ vs ≡ ws = cc h in omega (arith, ap (λ us. length (names_of_tokens us)) e)
names_more (Some (sign s)) vs ws h = let e : sign s ∷ vs ≡ ws = cc h in omega (arith, ap (λ us. length (names_of_tokens us)) e)

abbrev names_of_piece : Piece → ℕ
names_of_piece (run bs) = names_in (token_of_run bs)
names_of_piece (pair b) = 0
names_of_piece (single b) = 0

no_name : (o : Option Sign) → names_in (option_map sign o) ≡ 0
no_name None = refl
no_name (Some s) = refl

piece_names : (p : Piece) (ps : List Piece) (ws vs : List Token) → tokens_of_pieces (p ∷ ps) ≡ Some ws → tokens_of_pieces ps ≡ Some vs
    → length (names_of_tokens ws) ≡ names_of_piece p + length (names_of_tokens vs)
piece_names (run bs) ps ws vs h k = names_more (token_of_run bs) vs ws (ap (put (token_of_run bs)) (sym k) ∙ h)
piece_names (pair b) ps ws vs h k =
    let o = option_map sign (pair_sign b) in omega (arith, names_more o vs ws (ap (put o) (sym k) ∙ h), no_name (pair_sign b))
piece_names (single b) ps ws vs h k =
    elim (cases_Bool (is_blank b)) [
      | inl e ↦
          let same : Some vs ≡ Some ws = sym k ∙ rw e at h in
          let tokens : vs ≡ ws = cc same in
          omega (arith, ap (λ us. length (names_of_tokens us)) tokens)
      | inr e ↦
          let o = option_map sign (single_sign b) in
          let all : put o (tokens_of_pieces ps) ≡ Some ws = rw e at h in
          omega (arith, names_more o vs ws (ap (put o) (sym k) ∙ all), no_name (single_sign b))
    ]

one_place : (ps qs : List Piece) (x y : Named) (rs ss : List Piece) (ws vs : List Token) → tokens_of_pieces ps ≡ Some ws → tokens_of_pieces qs ≡ Some vs
    → length (names_of_tokens ws) ≡ length (names_of_tokens vs) → token_of_run x ≡ Some (name x) → token_of_run y ≡ Some (name y)
    → ps ++ run x ∷ rs ≡ qs ++ run y ∷ ss → bytes_of ps ≡ bytes_of qs
one_place [] [] x y rs ss ws vs a b n h k e = refl
one_place [] (q ∷ qs) x y rs ss ws vs a b n h k e =
    let same : run x ≡ q = cc e in
    let none : [] ≡ ws = cc a in
    let behind = some_behind q qs vs b in
    let one : names_of_piece q ≡ 1 = ap names_of_piece (sym same) ∙ ap names_in h in
    absurd (omega (arith, n, ap (λ us. length (names_of_tokens us)) none, piece_names q qs vs behind.0 b behind.1, one))
one_place (p ∷ ps) [] x y rs ss ws vs a b n h k e =
    let same : p ≡ run y = cc e in
    let none : [] ≡ vs = cc b in
    let behind = some_behind p ps ws a in
    let one : names_of_piece p ≡ 1 = ap names_of_piece same ∙ ap names_in k in
    absurd (omega (arith, n, ap (λ us. length (names_of_tokens us)) none, piece_names p ps ws behind.0 a behind.1, one))
one_place (p ∷ ps) (q ∷ qs) x y rs ss ws vs a b n h k e =
    let first : p ≡ q = cc e in
    let others : ps ++ run x ∷ rs ≡ qs ++ run y ∷ ss = cc e in
    let behind = some_behind p ps ws a in
    let after = some_behind q qs vs b in
    let count : length (names_of_tokens behind.0) ≡ length (names_of_tokens after.0) =
    omega (arith, n, piece_names p ps ws behind.0 a behind.1, piece_names q qs vs after.0 b after.1, ap names_of_piece first) in
    let rest = one_place ps qs x y rs ss behind.0 after.0 behind.1 after.1 count h k others in
    omega (arith, ap piece_bytes first, rest)

-- a text has one first wrong name, wrong in one way and at one place
pub one_wrong_name : (fault other : NameFault) (text : List ℕ) (at place : ℕ) → NameGoesWrong fault text at → NameGoesWrong other text place
    → (fault ≡ other) × (at ≡ place)
one_wrong_name fault other text at place h k =
    let same = same_tree text h.tokens k.tokens h.tree k.tree h.has_tokens k.has_tokens h.has_shape k.has_shape in
    let said : wrong fault h.before ≡ wrong other k.before = sym h.is_wrong ∙ ap (λ t. verdict 0 (tree_uses t)) same ∙ k.is_wrong in
    let p = h.place in
    let q = k.place in
    let number : h.before ≡ k.before = cc said in
    let bytes = one_place p.before q.before p.found q.found p.behind q.behind p.tokens q.tokens p.has_tokens q.has_tokens (p.count ∙ number ∙ sym q.count)
    p.is_name q.is_name (sym p.parts ∙ q.parts) in
    (cc said, p.place ∙ bytes ∙ sym q.place)

-- The wrong name is one of those of the text.

wrong_within : (us : List Use) (m : ℕ) (fault : NameFault) (n : ℕ) → verdict m us ≡ wrong fault n → n < m + length us
wrong_within [] m fault n h = absurd cc
wrong_within (u ∷ us) m fault n h = by u.fault h (wrong_within us (m + 1) fault n)
  where
    by : (f : Option NameFault) → one_verdict f m (verdict (m + 1) us) ≡ wrong fault n → (verdict (m + 1) us ≡ wrong fault n → n < m + 1 + length us)
        → n < m + length (u ∷ us)
    by None e behind = omega (arith, behind e)
    by (Some kind) e behind = let same : m ≡ n = cc e in omega (arith, same)

pub wrong_is_there : (ws : List Token) (t : Tree) (fault : NameFault) (n : ℕ) → HasShape ws t → verdict 0 (tree_uses t) ≡ wrong fault n
    → n < length (names_of_tokens ws)
wrong_is_there ws t fault n shape h =
    omega (
      arith,
      wrong_within (tree_uses t) 0 fault n h,
      length-map (tree_uses t) (λ u. u.name),
      ap length (tree_order t),
      ap (λ vs. length (names_of_tokens vs)) shape.tokens_are,
    )

-- The search for a name among tokens.

names_of_tokens-append : (ws vs : List Token) → names_of_tokens (ws ++ vs) ≡ names_of_tokens ws ++ names_of_tokens vs
names_of_tokens-append [] vs = refl
names_of_tokens-append (name x ∷ ws) vs = ap (λ xs. x ∷ xs) (names_of_tokens-append ws vs)
names_of_tokens-append (number n ∷ ws) vs = names_of_tokens-append ws vs
names_of_tokens-append (keyword k ∷ ws) vs = names_of_tokens-append ws vs
names_of_tokens-append (sign s ∷ ws) vs = names_of_tokens-append ws vs

names_of_one : (w : Token) → length (names_of_tokens (w ∷ [])) ≡ names_in (Some w)
names_of_one (name x) = refl
names_of_one (number n) = refl
names_of_one (keyword k) = refl
names_of_one (sign s) = refl

-- how many names stand among the first tokens
abbrev pub names_before : List Placed → ℕ → ℕ
names_before ps i = length (names_of_tokens (tokens_of (take i ps)))

names_next : (ps : List Placed) (i : ℕ) (p : Placed) → i < length ps → p ≡ get_or ps i p
    → names_before ps (i + 1) ≡ names_before ps i + names_in (Some (token_of p.token))
names_next ps i p h e =
    let w = token_of p.token in
    ap (λ ws. length (names_of_tokens ws)) (map_more (λ q. token_of q.token) ps i p h
    ∙ ap (λ (q : Placed). tokens_of (take i ps) ++ token_of q.token ∷ []) (sym e))
    ∙ ap length (names_of_tokens-append (tokens_of (take i ps)) (w ∷ []))
    ∙ length-append (names_of_tokens (tokens_of (take i ps))) (names_of_tokens (w ∷ []))
    ∙ ap (λ n. names_before ps i + n) (names_of_one w)

-- a name was passed
pub passes_name : (ps : List Placed) (i : ℕ) (p : Placed) (x : Bor Named) → i < length ps → p ≡ get_or ps i p → p.token ≡ tokens.Name x
    → names_before ps (i + 1) ≡ names_before ps i + 1
passes_name ps i p x h e is = names_next ps i p h e ∙ ap (λ t. names_before ps i + names_in (Some (token_of t))) is

-- a token that is none was passed
pub passes_other : (ps : List Placed) (i : ℕ) (p : Placed) → i < length ps → p ≡ get_or ps i p → ((x : Bor Named) → p.token ≡ tokens.Name x → ⊥)
    → names_before ps (i + 1) ≡ names_before ps i
passes_other ps i p h e other = omega (arith, names_next ps i p h e, none p.token other)
  where
    none : (t : Token') → ((x : Bor Named) → t ≡ tokens.Name x → ⊥) → names_in (Some (token_of t)) ≡ 0
    none (tokens.Name x) n = absurd (n x refl)
    none (tokens.Number v) n = refl
    none (tokens.Keyword k) n = refl
    none (tokens.Sign s) n = refl

-- the name was found
pub found_name : (ps : List Placed) (i : ℕ) (p : Placed) (x : Bor Named) (n : ℕ) → i < length ps → p ≡ get_or ps i p → p.token ≡ tokens.Name x
    → names_before ps i ≡ n → IsNameAt ps n p.at
found_name ps i p x n h e is count = record {
  before = take i ps;
  count = count;
  found = p;
  called = x.now;
  is_name = ap token_of is;
  behind = drop (i + 1) ps;
  parts = sym (take-append-drop i ps) ∙ ap (λ qs. take i ps ++ qs) (next_at ps i p h e);
  place = refl;
}
