use Rattle.std.proofs.Common.{◌≡◌, ℕ, ◌-◌, List, [], ◌∷◌, ◌++◌, length, sym, ap, ◌∙◌, subst, arith}
use Rattle.std.proofs.lemmas.List.{nil_from_length, map_push}
use Rattle.boc_reader.specs.Placed.{BeginsToken, token_of, tokens_of}
use Rattle.boc_reader.specs.Tokens.{tokens_of_text}
use Rattle.boc_reader.specs.WrongTokens.{HasRead}
use Rattle.boc_reader.specs.declared.token.Placed.{Placed}
use Rattle.boc_reader.proofs.Texts.{put_all, no_tokens}
use Rattle.boc_reader.proofs.Places.{StandBefore, all_placed, end_more, end_next, one_more, ended_more, reached_more, still_before}
use Rattle.boc_reader.proofs.Reading.{nothing_put, read_blank, read_more, read_on, token_read, tokens_read, wrong_behind}
use Rattle.boc_reader.proofs.lex.tokens.Goals as goal

pub loop-first-preserved-then-is_blank : goal.loop-first-preserved-then-is_blank
loop-first-preserved-then-is_blank c =
    let text = c.args.text.now in
    let rest = c.loop-first.rest.now in
    let after = c.in-Some.after.now in
    let parts = c.in-Some.ensures.cases in
    let blank : HasRead rest after [] = subst (λ (r : List ℕ). HasRead r after []) (sym parts.0)
    (read_blank c.in-Some.first.now after (sym c.if-is_blank.ensures)) in (
      read_more text rest after (tokens_of c.loop-first.all.items) c.loop-first.invariant.0 blank (omega (arith, parts.1)),
      omega (arith, parts.1),
      end_more after rest text c.loop-first.invariant.2 (end_next c.in-Some.first.now after rest parts.0),
      still_before text rest after c.loop-first.all.items (tokens_read rest after [] blank ∙ nothing_put (tokens_of_text after)) c.loop-first.invariant.3,
      c.loop-first.invariant.4,
      c.loop-first.invariant.5,
    )

pub loop-first-preserved-then-first-eq35 : goal.loop-first-preserved-then-first-eq35
loop-first-preserved-then-first-eq35 c =
    let text = c.args.text.now in
    let rest = c.loop-first.rest.now in
    let behind = c.after_comment-rest.result.now in
    let parts = c.in-Some.ensures.cases in
    let hash : rest ≡ 35 ∷ c.in-Some.after.now = parts.0 ∙ ap (λ b. b ∷ c.in-Some.after.now) c.if-first-eq35.true in
    let comment : HasRead rest behind [] = subst (λ (r : List ℕ). HasRead r behind []) (sym hash) c.after_comment-rest.ensures.read in
    let shorter = c.after_comment-rest.ensures.shorter in (
      read_more text rest behind (tokens_of c.loop-first.all.items) c.loop-first.invariant.0 comment (omega (arith, parts.1, shorter)),
      omega (arith, parts.1, shorter),
      end_more behind rest text c.loop-first.invariant.2 (end_more behind c.in-Some.after.now rest
          (end_next c.in-Some.first.now c.in-Some.after.now rest parts.0) c.after_comment-rest.ensures.end),
      still_before text rest behind c.loop-first.all.items (tokens_read rest behind [] comment ∙ nothing_put (tokens_of_text behind))
          c.loop-first.invariant.3,
      c.loop-first.invariant.4,
      c.loop-first.invariant.5,
    )

pub loop-first-preserved : goal.loop-first-preserved
loop-first-preserved c =
    let text = c.args.text.now in
    let rest = c.loop-first.rest.now in
    let after = c.in-Ok.after.now in
    let all = c.loop-first.all.items in
    let begins : BeginsToken rest = subst BeginsToken (sym c.in-Some.ensures.cases.0) (sym c.if-is_blank.ensures, c.if-first-eq35.false) in
    let token : Placed = record { token = c.in-Ok.token; at = length text - length rest; end = length text - length after } in
    let read : HasRead rest after (token_of c.in-Ok.token ∷ []) = c.in-Ok.ensures.read in
    let ends = end_more after rest text c.loop-first.invariant.2 c.in-Ok.ensures.end in
    rw c.in_ok-push-in-Ok.ensures.items (
      subst (HasRead text after) (sym (map_push (λ x. token_of x.token) all token))
          (read_on text rest after (tokens_of all) (token_of c.in-Ok.token ∷ []) c.loop-first.invariant.0 read c.in-Ok.ensures.shorter),
      omega (arith, c.in-Ok.ensures.shorter),
      ends,
      one_more text rest after all token (token_read rest after (token_of c.in-Ok.token) read) c.loop-first.invariant.2 begins c.loop-first.invariant.3,
      reached_more text [] all token c.loop-first.invariant.4
          (subst (λ (r : List ℕ). HasRead text r (tokens_of all)) c.loop-first.invariant.2 c.loop-first.invariant.0),
      ended_more text [] all token c.loop-first.invariant.5
          (subst (λ (r : List ℕ). HasRead text r (tokens_of all ++ token_of c.in-Ok.token ∷ [])) ends
          (read_on text rest after (tokens_of all) (token_of c.in-Ok.token ∷ []) c.loop-first.invariant.0 read c.in-Ok.ensures.shorter)),
    )

pub returns-in-Err-clause-tokens : goal.returns-in-Err-clause-tokens
returns-in-Err-clause-tokens c =
    let text = c.args.text.now in
    let rest = c.loop-first.rest.now in (
      omega (arith, c.in-Some.ensures.cases.1),
      wrong_behind text rest (tokens_of c.loop-first.all.items) c.in-Err.kind c.loop-first.invariant.0 c.in-Err.ensures.read,
    )

pub returns-clause-tokens : goal.returns-clause-tokens
returns-clause-tokens c =
    let none : c.loop-first.rest.now ≡ [] = nil_from_length c.loop-first.rest.now c.in_default.ensures.cases in
    let all = tokens_of c.loop-first.all.items in
    tokens_read c.args.text.now c.loop-first.rest.now all c.loop-first.invariant.0 ∙ ap (λ rest. put_all all (tokens_of_text rest)) none ∙ no_tokens all

pub returns-clause-places : goal.returns-clause-places
returns-clause-places c =
    let none : c.loop-first.rest.now ≡ [] = nil_from_length c.loop-first.rest.now c.in_default.ensures.cases in
    all_placed c.args.text.now c.loop-first.all.items
    (subst (λ (rest : List ℕ). StandBefore c.args.text.now rest c.loop-first.all.items) none c.loop-first.invariant.3)
