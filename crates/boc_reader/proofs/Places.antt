-- Where the tokens of a text stand.
use Rattle.std.proofs.Common.{◌≡◌, ℕ, ◌-◌, List, [], ◌∷◌, ◌++◌, length, drop, Option, Some, None, refl, sym, ap, ◌∙◌, subst, arith}
use Rattle.std.proofs.Common.{append_assoc, append-nil, length-drop}
use Rattle.std.proofs.lemmas.List.{drop-drop, map_push}
use Rattle.boc_reader.specs.Tokens as the
use Rattle.boc_reader.specs.Tokens.{put, tokens_of_text}
use Rattle.boc_reader.specs.Placed.{token_of, tokens_of, ArePlaced, AreEnded, AreReached, BeginsToken, IsEndOf}
use Rattle.boc_reader.specs.WrongTokens.{HasRead}
use Rattle.boc_reader.specs.declared.token.Placed.{Placed}
use Rattle.boc_reader.proofs.Texts.{put_all, no_tokens}

pub end_self : (text : List ℕ) → IsEndOf text text
end_self text = let none : 0 ≡ length text - length text = omega arith in ap (λ n. drop n text) none

pub end_next : (b : ℕ) (bs text : List ℕ) → text ≡ b ∷ bs → IsEndOf bs text
end_next b bs text is =
    let one : 1 ≡ length (b ∷ bs) - length bs = omega arith in
    subst (IsEndOf bs) (sym is) (ap (λ n. drop n (b ∷ bs)) one)

-- the end of an end
pub end_more : (last middle text : List ℕ) → IsEndOf middle text → IsEndOf last middle → IsEndOf last text
end_more last middle text first then =
    let m : length middle ≡ length text - (length text - length middle) = ap length first ∙ length-drop (length text - length middle) text in
    let l : length last ≡ length middle - (length middle - length last) = ap length then ∙ length-drop (length middle - length last) middle in
    then ∙ ap (drop (length middle - length last)) first ∙ drop-drop (length middle - length last) (length text - length middle) text
    ∙ ap (λ n. drop n text) (omega (arith, m, l))

-- each of these tokens begins at its place, before what is left
abbrev pub StandBefore : List ℕ → List ℕ → List Placed → Type 0
StandBefore text rest [] = Unit {0}
StandBefore text rest (p ∷ ps) =
    BeginsToken (drop p.at text) × (tokens_of_text (drop p.at text) ≡ put_all (tokens_of (p ∷ ps)) (tokens_of_text rest)) × StandBefore text rest ps

-- what has no tokens was passed
pub still_before : (text rest after : List ℕ) (ps : List Placed) → tokens_of_text rest ≡ tokens_of_text after → StandBefore text rest ps
    → StandBefore text after ps
still_before text rest after [] same stand = tt
still_before text rest after (p ∷ ps) same stand =
    (stand.0, stand.1 ∙ ap (put_all (tokens_of (p ∷ ps))) same, still_before text rest after ps same stand.2)

-- a token found after others
put_more : (ws : List the.Token) (w : the.Token) (found : Option (List the.Token)) → put_all ws (put (Some w) found) ≡ put_all (ws ++ w ∷ []) found
put_more ws w None = refl
put_more ws w (Some vs) = ap Some (sym (append_assoc ws (w ∷ []) vs))

put_none : (found : Option (List the.Token)) → put_all [] found ≡ found
put_none None = refl
put_none (Some vs) = refl

-- a token more
pub one_more : (text rest after : List ℕ) (ps : List Placed) (p : Placed) → tokens_of_text rest ≡ put (Some (token_of p.token)) (tokens_of_text after)
    → rest ≡ drop p.at text → BeginsToken rest
    → StandBefore text rest ps → StandBefore text after (ps ++ p ∷ [])
one_more text rest after [] p found at begins stand = (
  subst BeginsToken at begins,
  ap tokens_of_text (sym at) ∙ found ∙ sym (put_none (put (Some (token_of p.token)) (tokens_of_text after)))
      ∙ put_more [] (token_of p.token) (tokens_of_text after),
  tt,
)
one_more text rest after (q ∷ qs) p found at begins stand = (
  stand.0,
  stand.1 ∙ ap (put_all (tokens_of (q ∷ qs))) found ∙ put_more (tokens_of (q ∷ qs)) (token_of p.token) (tokens_of_text after)
      ∙ ap (λ ws. put_all (token_of q.token ∷ ws) (tokens_of_text after)) (sym (map_push (λ x. token_of x.token) qs p)),
  one_more text rest after qs p found at begins stand.2,
)

-- at the end of the text all are placed
pub all_placed : (text : List ℕ) (ps : List Placed) → StandBefore text [] ps → ArePlaced text ps
all_placed text [] stand = tt
all_placed text (p ∷ ps) stand =
    (record { begins = stand.0; has_tokens = stand.1 ∙ no_tokens (tokens_of (p ∷ ps)) }, all_placed text ps stand.2)

-- a token more, up to which the text was read
pub reached_more : (text : List ℕ) (before : List the.Token) (ps : List Placed) (p : Placed) → AreReached text before ps
    → HasRead text (drop p.at text) (before ++ tokens_of ps) → AreReached text before (ps ++ p ∷ [])
reached_more text before [] p reached read = (subst (HasRead text (drop p.at text)) (append-nil before) read, tt)
reached_more text before (q ∷ qs) p reached read = (
  reached.0,
  reached_more text (before ++ token_of q.token ∷ []) qs p reached.1
      (subst (HasRead text (drop p.at text)) (sym (append_assoc before (token_of q.token ∷ []) (tokens_of qs))) read),
)

-- a token more, up to whose end the text was read
pub ended_more : (text : List ℕ) (before : List the.Token) (ps : List Placed) (p : Placed) → AreEnded text before ps
    → HasRead text (drop p.end text) (before ++ (tokens_of ps ++ token_of p.token ∷ [])) → AreEnded text before (ps ++ p ∷ [])
ended_more text before [] p ended read = (read, tt)
ended_more text before (q ∷ qs) p ended read = (
  ended.0,
  ended_more text (before ++ token_of q.token ∷ []) qs p ended.1
      (subst (HasRead text (drop p.end text)) (sym (append_assoc before (token_of q.token ∷ []) (tokens_of qs ++ token_of p.token ∷ []))) read),
)
