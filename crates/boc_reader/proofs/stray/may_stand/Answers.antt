use Rattle.std.proofs.Common.{◌≡◌, List, reverse, is_ok, is_some, Result, Ok, Err, MatchResult, ◌∙◌, refl}
use Rattle.boc_reader.specs.Tokens.{Token}
use Rattle.boc_reader.specs.Placed.{token_of, tokens_of}
use Rattle.boc_reader.specs.Room.{within_behind}
use Rattle.boc_reader.specs.WrongShape.{IsReading, IsWrongThere}
use Rattle.boc_reader.specs.declared.room.Room.{Room}
use Rattle.boc_reader.specs.declared.stray.Reading.{Reading}
use Rattle.boc_reader.specs.declared.wanted.Wanted.{Wanted}
use Rattle.boc_reader.specs.declared.fault.ShapeFault.{ShapeFault}
use Rattle.boc_reader.proofs.Strays.{wrong_within}
use Rattle.boc_reader.proofs.stray.may_stand.Goals as goal

told : (result : Result Reading ShapeFault) (t : Token) (after : List Token) (items : List Wanted) (r : Room)
    → MatchResult result (λ reading. IsReading reading t after items r) (λ fault. IsWrongThere fault t after (reverse items) r)
    → is_ok result ≡ is_some (within_behind t after (reverse items) r)
told (Ok reading) t after items r read = rw read.2 refl
told (Err fault) t after items r wrong = rw (wrong_within fault t after (reverse items) r wrong) refl

pub returns : goal.returns
returns c =
    c.is_ok.ensures.value
    ∙ told c.step.result (token_of c.args.token) (tokens_of c.args.after.now) c.args.wanted.now c.args.room c.step.ensures
