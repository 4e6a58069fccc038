-- What the listing of a text says of its defs.
use Rattle.std.specs.Prelude.{◌≡◌, ℕ, ◌≤◌, List, length, map, Some}
use Rattle.boc_program.specs.declared.limits.TheConstants.{MOST_TEXT}
use Rattle.boc_program.specs.declared.program.Program.{Program}
use Rattle.boc_reader.specs.Tokens.{Token, tokens_of_text}
use Rattle.boc_reader.specs.Shape.{Tree, HasShape}
use Rattle.boc_reader.specs.Names.{tree_names}
use Rattle.boc_reader.specs.Spells.{plain_program}
use Rattle.boc_reader.specs.Listing.{AreLines, Signature, signature_of}
use Rattle.boc_reader.specs.declared.listing.DefListing.{DefListing}

-- what a listing says of a def, except for its line
abbrev pub listed : DefListing → Signature
listed d = record { name = d.name; params = d.params.items; cowns = d.cowns.items }

-- the tree of a text: the text is short enough, and its tokens form this tree within the limits
pub record HasTree (text : List ℕ) (tree : Tree) : Type 0 where
  pub short : length text ≤ MOST_TEXT
  pub tokens : List Token
  pub has_tokens : tokens_of_text text ≡ Some tokens
  pub has_shape : HasShape tokens tree

-- the names of a text's tree resolve to this program
pub record SpellsBy (text : List ℕ) (tree : Tree) (p : Program) : Type 0 where
  pub has_tree : HasTree text tree
  pub has_names : tree_names tree ≡ Some (plain_program p)

-- the defs of a tree, each of them and in their order, and the lines in which their names begin
pub record AreListed (text : List ℕ) (tree : Tree) (defs : List DefListing) : Type 0 where
  pub all : map listed defs ≡ map signature_of tree.defs
  pub lines : AreLines text tree.defs tree.main (map (λ d. d.line) defs)

-- the defs of a text's tree
pub record ListsDefs (text : List ℕ) (defs : List DefListing) : Type 0 where
  pub tree : Tree
  pub has_tree : HasTree text tree
  pub are_listed : AreListed text tree defs
