-- How much of a text has gone out while it is formed.
use Rattle.std.specs.Prelude.{◌≡◌, ℕ, ◌+◌, List, [], ◌++◌, length, Option, Result, MatchResult}
use Rattle.std.specs.Io.KnownBytes.{Appends}
use Rattle.boc_text.specs.declared.outgoing.Outgoing.{Outgoing}
use Rattle.boc_text.specs.declared.whole.Stopped.{Stopped}
use Rattle.boc_text.specs.Streams.{StopsAt}

-- how many bytes its text has so far
abbrev pub size : Outgoing → ℕ
size o = o.gone + length o.part.items

-- of this text so far, all but the part that is held back went out
pub record IsOut (before now : Option (List ℕ)) (text : List ℕ) (o : Outgoing) : Type 0 where
  pub sent : List ℕ
  pub split : text ≡ sent ++ o.part.items
  pub out : Appends before now sent
  pub gone : o.gone ≡ length sent

-- it has no text yet
abbrev pub IsUnused : Outgoing → Type 0
IsUnused o = (now : Option (List ℕ)) → IsOut now now [] o

-- whatever its text was, these bytes came behind it; or the sink failed before all of both was out
abbrev pub Puts : {A : Type 0} → List ℕ → Result A Stopped → Outgoing → Outgoing → Option (List ℕ) → Option (List ℕ) → Type 0
Puts bytes result old new from to = (before : Option (List ℕ)) (text : List ℕ) → IsOut before from text old → MatchResult result
    (λ _. IsOut before to (text ++ bytes) new)
    (λ s. StopsAt s.gone (text ++ bytes) before to)
