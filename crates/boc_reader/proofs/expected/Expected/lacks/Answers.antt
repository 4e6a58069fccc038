use Rattle.std.proofs.Common.{◌≡◌, reverse, Some, None, false, sym, ap, ◌∙◌}
use Rattle.boc_reader.specs.Placed.{token_of, tokens_of}
use Rattle.boc_reader.specs.Room.{goes_on}
use Rattle.boc_reader.specs.Expected.{is_lacked, rest_of, within_with}
use Rattle.boc_reader.specs.declared.expected.Expected.{Expected}
use Rattle.boc_reader.specs.declared.token.Token.{Token}
use Rattle.boc_reader.proofs.Strays.{wrong_within}
use Rattle.boc_reader.proofs.expected.Expected.lacks.Goals as goal

refused : (e : Expected) (t : Token) → within_with e (token_of t) ≡ None → false ≡ is_lacked e t
refused e t none = ap (λ found. elim found [ Some s ↦ goes_on (rest_of e) s | None ↦ false ]) (sym none)

pub returns : goal.returns
returns c =
    let e = c.args.self.now in
    let t = token_of c.args.token in
    let wrong = rw c.in-Err.is at c.in_ok-room.ensures in
    let items = c.in_ok-wanted.ensures.items ∙ c.deref.ensures.value in
    let none = wrong_within c.in-Err.field-0 t (tokens_of c.found.result.now) (reverse c.in_ok-wanted.wanted.items) e.room wrong.0 in
    refused e c.args.token (rw (sym items) (rw (sym c.found.ensures) none))
