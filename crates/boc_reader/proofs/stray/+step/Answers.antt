use Rattle.std.proofs.Common.{◌≡◌, ◌+◌, List, [], ◌∷◌, ◌++◌, length, take, reverse, Option, Some, None}
use Rattle.std.proofs.Common.{Bool, true, false, if◌then◌else◌, Result, Ok, Err, MatchResult, ◌∙◌, sym, ap, refl, arith}
use Rattle.std.proofs.lemmas.List.{reverse-append, take-append-le, length-append}
use Rattle.boc_reader.specs.Tokens.{Token}
use Rattle.boc_reader.specs.Placed.{token_of, tokens_of}
use Rattle.boc_reader.specs.Wanted.{behind, may_be_left_out, wanted_behind}
use Rattle.boc_reader.specs.Room.{left_behind, with_room, within_behind}
use Rattle.boc_reader.specs.WrongShape.{IsReading, IsWrongThere}
use Rattle.boc_reader.specs.declared.room.Room.{Room}
use Rattle.boc_reader.specs.declared.stray.Reading.{Reading}
use Rattle.boc_reader.specs.declared.wanted.Wanted.{Wanted}
use Rattle.boc_reader.specs.declared.fault.ShapeFault.{ShapeFault}
use Rattle.boc_reader.specs.declared.fault.ShapeFault.TheVariants as faults
use Rattle.boc_reader.proofs.stray.+step.Goals as goal

rewritten : {X Y : Type 0} (f : X → Option Y) (rest : Option Y) (found : Option X) (out : Bool) → found ≡ None → out ≡ true
    → (elim found [ Some all ↦ f all | None ↦ if out then rest else None ]) ≡ rest
rewritten f rest (Some x) out none left = absurd cc
rewritten f rest None true none left = refl
rewritten f rest None false none left = absurd cc

-- what may be left out is, where a token isn't that
wanted_of_rest : (t : Token) (w : Wanted) (ws : List Wanted) → behind t w ≡ None → may_be_left_out w ≡ true → wanted_behind t (w ∷ ws) ≡ wanted_behind t ws
wanted_of_rest t w ws none out = rewritten (λ all. Some (all ++ ws)) (wanted_behind t ws) (behind t w) (may_be_left_out w) none out

within_of_rest : (t : Token) (after : List Token) (w : Wanted) (ws : List Wanted) (r : Room) → behind t w ≡ None → may_be_left_out w ≡ true
    → within_behind t after (w ∷ ws) r ≡ within_behind t after ws r
within_of_rest t after w ws r none out =
    rewritten (λ all. with_room (all ++ ws) (left_behind t after w r)) (within_behind t after ws r) (behind t w) (may_be_left_out w) none out

-- what is wrong among the others is wrong
wrong_of_rest : (fault : ShapeFault) (t : Token) (after : List Token) (w : Wanted) (ws : List Wanted) (r : Room) → behind t w ≡ None → may_be_left_out w ≡ true
    → IsWrongThere fault t after ws r → IsWrongThere fault t after (w ∷ ws) r
wrong_of_rest faults.Unexpected t after w ws r none out wrong = wanted_of_rest t w ws none out ∙ wrong
wrong_of_rest faults.TooMany t after w ws r none out wrong =
    (λ e. wrong.0 (sym (wanted_of_rest t w ws none out) ∙ e), within_of_rest t after w ws r none out ∙ wrong.1)

of_rest : (t : Token) (after : List Token) (items others : List Wanted) (w : Wanted) (r : Room) (result : Result Reading ShapeFault)
    → items ≡ others ++ w ∷ [] → behind t w ≡ None → may_be_left_out w ≡ true
    → MatchResult result (λ reading. IsReading reading t after others r) (λ fault. IsWrongThere fault t after (reverse others) r)
    → MatchResult result (λ reading. IsReading reading t after items r) (λ fault. IsWrongThere fault t after (reverse items) r)
of_rest t after items others w r (Ok s) is none out read =
    let turned : reverse items ≡ w ∷ reverse others = ap reverse is ∙ reverse-append others (w ∷ []) in
    let kept : take s.kept items ≡ take s.kept others = ap (take s.kept) is ∙ take-append-le s.kept others (w ∷ []) read.0 in
    let long : length items ≡ length others + 1 = ap length is ∙ length-append others (w ∷ []) in (
      omega (arith, long, read.0),
      rw turned (rw kept (wanted_of_rest t w (reverse others) none out ∙ read.1)),
      rw turned (rw kept (within_of_rest t after w (reverse others) r none out ∙ read.2)),
    )
of_rest t after items others w r (Err fault) is none out wrong =
    let turned : reverse items ≡ w ∷ reverse others = ap reverse is ∙ reverse-append others (w ∷ []) in
    rw turned (wrong_of_rest fault t after w (reverse others) r none out wrong)

pub returns-in-None : goal.returns-in-None
returns-in-None t c =
    let last = c.in-Some.ensures.cases in
    of_rest (token_of c.args.token) (tokens_of c.args.after.now) c.args.wanted.now c.in-Some.others.now c.in-Some.next.now c.args.room c.step.result
    last.0 (sym c.in-None.ensures) (sym c.may_be_left_out.ensures ∙ c.if-may_be_left_out.true) c.step.ensures
