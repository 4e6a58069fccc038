-- Where a token of a text begins, and that there is one such place.
use Rattle.std.proofs.Common.{◌≡◌, ℕ, zero, suc, ◌+◌, ◌-◌, ◌<◌, List, [], ◌∷◌, ◌++◌, length, get_or, take, drop, if◌then◌else◌}
use Rattle.std.proofs.Common.{Option, Some, None, refl, sym, ap, ◌∙◌, subst, arith, append_assoc, append-nil, inl, inr}
use Rattle.std.specs.Option.{option_map}
use Rattle.std.proofs.lemmas.Bool.{cases_Bool}
use Rattle.boc_reader.specs.Tokens.{Token, sign, Piece, run, pair, single, is_blank, put, pair_sign, single_sign, token_of_run, tokens_of_pieces}
use Rattle.boc_reader.specs.Tokens.{tokens_of_text}
use Rattle.boc_reader.specs.WrongTokens.{piece_bytes, bytes_of, pieces_of, HasRead}
use Rattle.boc_reader.specs.Placed.{token_of, tokens_of, ArePlaced, AreReached, BeginsToken}
use Rattle.boc_reader.specs.WrongShape.{IsPlaceOfToken, StandAt}
use Rattle.boc_reader.specs.declared.token.Placed.{Placed}
use Rattle.boc_reader.proofs.Reading.{some_behind}
use Rattle.boc_reader.proofs.Texts.{none_high, pieces_of_high}
use Rattle.boc_reader.proofs.WrongPlaces.{IsNoBlank, text_begins, within_text, put_first}

-- The place of a token up to which a text was read.

-- a piece that is no blank is the first token
first_token : (p : Piece) (ps : List Piece) (w : Token) (ws : List Token) → IsNoBlank p → tokens_of_pieces (p ∷ ps) ≡ Some (w ∷ ws)
    → tokens_of_pieces (p ∷ []) ≡ Some (w ∷ [])
first_token (run bs) ps w ws n h = ap (λ o. put o (Some [])) (put_first (token_of_run bs) (tokens_of_pieces ps) w ws h)
first_token (pair b) ps w ws n h = ap (λ o. put o (Some [])) (put_first (option_map sign (pair_sign b)) (tokens_of_pieces ps) w ws h)
first_token (single b) ps w ws n h =
    let same : tokens_of_pieces (single b ∷ ps) ≡ put (option_map sign (single_sign b)) (tokens_of_pieces ps) = rw n refl in
    let alone : tokens_of_pieces (single b ∷ []) ≡ put (option_map sign (single_sign b)) (Some []) = rw n refl in
    alone ∙ ap (λ o. put o (Some [])) (put_first (option_map sign (single_sign b)) (tokens_of_pieces ps) w ws (sym same ∙ h))

token_behind : (text rest : List ℕ) (ws vs : List Token) (w : Token) → HasRead text rest ws → BeginsToken rest → tokens_of_text rest ≡ Some (w ∷ vs)
    → IsPlaceOfToken text (length text - length rest) ws w
unfolding tokens_of_text
token_behind text [] ws vs w h begins has = absurd begins
token_behind text (b ∷ bs) ws vs w h begins has =
    let first = text_begins b bs begins.0 begins.1 in
    elim h.leads_on [
      | inl e ↦ record {
        before = h.before;
        has_tokens = h.has_tokens;
        found = first.piece;
        is_token = first_token first.piece first.behind w vs first.no_blank (sym (ap tokens_of_pieces first.parts) ∙ has);
        behind = first.behind;
        parts = h.parts ∙ ap (λ ps. h.before ++ ps) (e ∙ first.parts);
        place = omega (arith, h.bytes);
      }
      | inr high ↦
          let parts = ap pieces_of high.3 ∙ pieces_of_high high.0 high.1 high.5 in
          absurd (cc (ap tokens_of_pieces parts ∙ none_high high.0 (pieces_of high.1) high.5, has))
    ]

-- the place of a token after those that were read before it
pub stands_at : (text : List ℕ) (ws : List Token) (ps : List Placed) (k : ℕ) (p : Placed) → ArePlaced text ps → AreReached text ws ps → k < length ps
    → p ≡ get_or ps k p → StandAt text p.at (ws ++ take k (tokens_of ps)) (drop k (tokens_of ps))
stands_at text ws [] k p placed reached small is = absurd (omega arith)
stands_at text ws (q ∷ ps) zero p placed reached small is =
    let begins = placed.0 in
    let there = (within_text text q.at begins.begins).1 in
    let found = token_behind text (drop q.at text) ws (tokens_of ps) (token_of q.token) reached.0 begins.begins begins.has_tokens in
    let here : IsPlaceOfToken text q.at (ws ++ []) (token_of q.token) =
    subst (λ (at : ℕ). IsPlaceOfToken text at (ws ++ []) (token_of q.token)) (sym there)
    (subst (λ (us : List Token). IsPlaceOfToken text (length text - length (drop q.at text)) us (token_of q.token)) (sym (append-nil ws)) found) in
    subst (λ (x : Placed). StandAt text x.at (ws ++ []) (tokens_of (q ∷ ps))) (sym is) (here, begins)
stands_at text ws (q ∷ ps) (suc k) p placed reached small is =
    subst (λ (us : List Token). StandAt text p.at us (drop k (tokens_of ps))) (append_assoc ws (token_of q.token ∷ []) (take k (tokens_of ps)))
    (stands_at text (ws ++ token_of q.token ∷ []) ps k p placed.1 reached.1 (omega arith) is)

-- There is one such place.

abbrev tokens_in : Piece → ℕ
tokens_in (run bs) = 1
tokens_in (pair b) = 1
tokens_in (single b) = if is_blank b then 0 else 1

put_more : (o : Option Token) (vs ws : List Token) → put o (Some vs) ≡ Some ws → length ws ≡ 1 + length vs
put_more None vs ws h = absurd cc
put_more (Some w) vs ws h = let e : w ∷ vs ≡ ws = cc h in omega (arith, ap length e)

-- how many tokens a piece adds
one_more : (p : Piece) (ps : List Piece) (ws vs : List Token) → tokens_of_pieces (p ∷ ps) ≡ Some ws → tokens_of_pieces ps ≡ Some vs
    → length ws ≡ tokens_in p + length vs
one_more (run bs) ps ws vs h k = put_more (token_of_run bs) vs ws (ap (put (token_of_run bs)) (sym k) ∙ h)
one_more (pair b) ps ws vs h k = let o = option_map sign (pair_sign b) in put_more o vs ws (ap (put o) (sym k) ∙ h)
one_more (single b) ps ws vs h k =
    elim (cases_Bool (is_blank b)) [
      | inl e ↦
          let same : Some vs ≡ Some ws = sym k ∙ rw e at h in
          let tokens : vs ≡ ws = cc same in
          let none : tokens_in (single b) ≡ 0 = rw e refl in
          omega (arith, ap length tokens, none)
      | inr e ↦
          let o = option_map sign (single_sign b) in
          let all : put o (tokens_of_pieces ps) ≡ Some ws = rw e at h in
          let one : tokens_in (single b) ≡ 1 = rw e refl in
          omega (arith, put_more o vs ws (ap (put o) (sym k) ∙ all), one)
    ]

is_one : (p : Piece) (w : Token) → tokens_of_pieces (p ∷ []) ≡ Some (w ∷ []) → tokens_in p ≡ 1
is_one p w h = omega (arith, one_more p [] (w ∷ []) [] h refl)

one_cut : (ps qs : List Piece) (p q : Piece) (rs ss : List Piece) (ws vs : List Token) (w v : Token) → tokens_of_pieces ps ≡ Some ws
    → tokens_of_pieces qs ≡ Some vs → length ws ≡ length vs → tokens_of_pieces (p ∷ []) ≡ Some (w ∷ []) → tokens_of_pieces (q ∷ []) ≡ Some (v ∷ [])
    → ps ++ p ∷ rs ≡ qs ++ q ∷ ss → bytes_of ps ≡ bytes_of qs
one_cut [] [] p q rs ss ws vs w v a b n h k e = refl
one_cut [] (r ∷ qs) p q rs ss ws vs w v a b n h k e =
    let same : p ≡ r = cc e in
    let none : [] ≡ ws = cc a in
    let behind = some_behind r qs vs b in
    absurd (omega (arith, n, ap length none, one_more r qs vs behind.0 b behind.1, ap tokens_in same, is_one p w h))
one_cut (r ∷ ps) [] p q rs ss ws vs w v a b n h k e =
    let same : r ≡ q = cc e in
    let none : [] ≡ vs = cc b in
    let behind = some_behind r ps ws a in
    absurd (omega (arith, n, ap length none, one_more r ps ws behind.0 a behind.1, ap tokens_in same, is_one q v k))
one_cut (r ∷ ps) (s ∷ qs) p q rs ss ws vs w v a b n h k e =
    let first : r ≡ s = cc e in
    let others : ps ++ p ∷ rs ≡ qs ++ q ∷ ss = cc e in
    let behind = some_behind r ps ws a in
    let after = some_behind s qs vs b in
    let count : length behind.0 ≡ length after.0 =
    omega (arith, n, one_more r ps ws behind.0 a behind.1, one_more s qs vs after.0 b after.1, ap tokens_in first) in
    omega (arith, ap piece_bytes first, one_cut ps qs p q rs ss behind.0 after.0 w v behind.1 after.1 count h k others)

-- the token after others of a text begins at one place
pub one_token_place : (text : List ℕ) (at place : ℕ) (passed : List Token) (w v : Token) → IsPlaceOfToken text at passed w
    → IsPlaceOfToken text place passed v → at ≡ place
one_token_place text at place passed w v a b =
    a.place ∙ one_cut a.before b.before a.found b.found a.behind b.behind passed passed w v a.has_tokens b.has_tokens refl a.is_token b.is_token
    (sym a.parts ∙ b.parts) ∙ sym b.place

pub one_stand : (text : List ℕ) (at place : ℕ) (passed left : List Token) → StandAt text at passed left → StandAt text place passed left → at ≡ place
one_stand text at place passed [] a b = a ∙ sym b
one_stand text at place passed (t ∷ ts) a b = one_token_place text at place passed t t a.0 b.0
