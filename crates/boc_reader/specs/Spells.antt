-- What a text spells.
use Rattle.std.specs.Prelude.{◌≡◌, ℕ, ◌≤◌, List, map, length, Some}
use Rattle.boc_program.specs.declared.limits.TheConstants.{MOST_TEXT}
use Rattle.boc_program.specs.declared.body.Body.{Body}
use Rattle.boc_program.specs.declared.cown.Cown.{Cown}
use Rattle.boc_program.specs.declared.program.Program.{Program}
use Rattle.boc_reader.specs.Tokens.{Token, tokens_of_text}
use Rattle.boc_reader.specs.Shape.{Tree, HasShape}
use Rattle.boc_reader.specs.Names.{PlainBody, PlainCown, PlainProgram, tree_names}

-- a body without the facts that its type keeps
abbrev pub plain_body : Body → PlainBody
plain_body b = record { params = b.params; cown_params = b.cown_params; slots = b.slots; code = b.block }

-- a declaration of cowns, seen plainly
abbrev pub plain_declared : Cown → PlainCown
plain_declared c = record { name = c.name; size = c.size; initial = c.initial }

-- a program without the facts that its type keeps
abbrev pub plain_program : Program → PlainProgram
plain_program p = record { cowns = map plain_declared p.cowns; bodies = map plain_body p.bodies }

-- a text is short enough, its tokens form a tree within the limits, and the names of the tree resolve to this program
pub record Spells (text : List ℕ) (p : Program) : Type 0 where
  pub short : length text ≤ MOST_TEXT
  pub tokens : List Token
  pub has_tokens : tokens_of_text text ≡ Some tokens
  pub tree : Tree
  pub has_shape : HasShape tokens tree
  pub has_names : tree_names tree ≡ Some (plain_program p)
