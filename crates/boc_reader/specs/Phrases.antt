-- What it means that a phrase was read, or refused.
use Rattle.std.specs.Prelude.{◌≡◌, ℕ, ◌+◌, ◌≤◌, List, Result, Ok, Err}
use Rattle.boc_reader.specs.Tokens.{Token}
use Rattle.boc_reader.specs.declared.fault.Fault.{Fault}
use Rattle.boc_reader.specs.declared.fault.ShapeFault.{ShapeFault}
use Rattle.boc_reader.specs.Placed.{Refusal}

-- The tokens ahead of a cursor, the byte at which the first of them begins, or the text ends, and the room there:
-- how many more nodes the body may have, or how many more cowns or defs the text.
pub record Ahead : Type 0 where
  pub tokens : List Token
  pub position : ℕ
  pub room : ℕ

-- A kind of phrase: its tokens and those that follow, the room that it takes, what may follow it, and the limits inside of it.
pub record Phrase (X : Type 0) : Type 1 where
  pub tokens : X → List Token → List Token
  pub nodes : X → ℕ
  pub Ends : X → List Token → Type 0
  pub IsSmall : X → Type 0

-- a phrase of the kind stands ahead, within the room, and the rest follows it
pub record Stands {X : Type 0} (kind : Phrase X) (ahead : Ahead) (x : X) (rest : List Token) : Type 0 where
  pub tokens : ahead.tokens ≡ kind.tokens x rest
  pub ends : kind.Ends x rest
  pub fits : kind.nodes x ≤ ahead.room
  pub small : kind.IsSmall x

-- no phrase of the kind stands ahead within the room
abbrev pub NoneStands : {X : Type 0} → Phrase X → Ahead → Type 0
NoneStands {X} kind ahead = (x : X) (rest : List Token) → Stands kind ahead x rest → ⊥

-- the phrase that was read stands ahead; after a refusal, except for want of memory, none does
abbrev pub Parses : {X Y : Type 0} → Phrase X → (Y → X) → Ahead → Result Y (Fault ShapeFault) → Ahead → Type 0
Parses kind view old (Ok y) new = Stands kind old (view y) new.tokens × (kind.nodes (view y) + new.room ≡ old.room)
Parses kind view old (Err fault) new = Refusal fault (NoneStands kind old)
