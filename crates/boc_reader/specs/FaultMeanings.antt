-- What each fault says of a text.
use Rattle.std.specs.Prelude.{◌≡◌, ℕ, ◌<◌, ◌≤◌, List, length, take, Some, None}
use Rattle.boc_program.specs.declared.limits.TheConstants.{MOST_TEXT}
use Rattle.boc_reader.specs.Tokens.{Token, tokens_of_text}
use Rattle.boc_reader.specs.WrongTokens.{GoesWrong}
use Rattle.boc_reader.specs.WrongShape.{ShapeFaultStandsAt}
use Rattle.boc_reader.specs.Shape.{Tree, HasShape}
use Rattle.boc_reader.specs.Names.{tree_names}
use Rattle.boc_reader.specs.Grammar.{NoShape}
use Rattle.boc_reader.specs.Lines.{line_after}
use Rattle.boc_reader.specs.declared.fault.ReadFault.{ReadFault}
use Rattle.boc_reader.specs.declared.fault.TokenFault.{TokenFault}
use Rattle.boc_reader.specs.declared.fault.TokenFault.TheVariants as token_faults
use Rattle.boc_reader.specs.declared.fault.ShapeFault.{ShapeFault}
use Rattle.boc_reader.specs.declared.fault.ShapeFault.TheVariants as shape_faults
use Rattle.boc_reader.specs.WrongNames.{NameGoesWrong}
use Rattle.boc_reader.specs.declared.fault.NameFault.{NameFault}
use Rattle.boc_reader.specs.declared.fault.NameFault.TheVariants as name_faults
use Rattle.boc_reader.specs.declared.fault.ReadFaultKind.{ReadFaultKind}
use Rattle.boc_reader.specs.declared.fault.ReadFaultKind.TheVariants as kinds

-- a text that is short enough and has no tokens
pub record HasNoTokens (text : List ℕ) : Type 0 where
  pub short : length text ≤ MOST_TEXT
  pub none : tokens_of_text text ≡ None

-- a text whose tokens form no tree within the limits
pub record HasNoShape (text : List ℕ) : Type 0 where
  pub short : length text ≤ MOST_TEXT
  pub tokens : List Token
  pub has_tokens : tokens_of_text text ≡ Some tokens
  pub none : NoShape tokens

-- a text of whose tree the names can't be resolved
pub record HasNoNames (text : List ℕ) : Type 0 where
  pub short : length text ≤ MOST_TEXT
  pub tokens : List Token
  pub has_tokens : tokens_of_text text ≡ Some tokens
  pub tree : Tree
  pub has_shape : HasShape tokens tree
  pub none : tree_names tree ≡ None

-- what a kind of fault says of a text; of want of memory nothing follows
abbrev pub SaysOf : ReadFaultKind → List ℕ → Type 0
SaysOf kinds.NotAscii text = HasNoTokens text
SaysOf kinds.BadToken text = HasNoTokens text
SaysOf kinds.NumberTooLarge text = HasNoTokens text
SaysOf kinds.Unexpected text = HasNoShape text
SaysOf kinds.TooMany text = HasNoShape text
SaysOf kinds.UnknownName text = HasNoNames text
SaysOf kinds.NameTaken text = HasNoNames text
SaysOf kinds.WrongCount text = HasNoNames text
SaysOf kinds.TooLong text = MOST_TEXT < length text
SaysOf kinds.Memory text = Unit {0}

-- the fault stands at one of the bytes of the text, or at its end, and its line is the one of that place
pub record StandsIn (fault : ReadFault) (text : List ℕ) : Type 0 where
  pub within : fault.at ≤ length text
  pub line_is : fault.line ≡ line_after (take fault.at text)

-- the fault is the first one among the tokens of the text, and begins at its place
abbrev pub StandsFirst : TokenFault → ReadFault → List ℕ → Type 0
StandsFirst wrong fault text = StandsIn fault text × GoesWrong wrong text fault.at

-- the fault is the first one of the shape of the text, and stands at its place
abbrev pub StandsInShape : ShapeFault → ReadFault → List ℕ → Type 0
StandsInShape wrong fault text = StandsIn fault text × ShapeFaultStandsAt wrong text fault.at

-- the fault is the first wrong name of the text, and begins at its place
abbrev pub StandsAtName : NameFault → ReadFault → List ℕ → Type 0
StandsAtName wrong fault text = StandsIn fault text × NameGoesWrong wrong text fault.at

-- The place that is reported with a kind of fault: that of the first byte too many where the text is too long, none where memory was refused, that of the
-- first byte of the first fault where the text has no tokens, that of the first token, or the end, that the grammar doesn't allow, that of the first token
-- with which a limit is passed, and that of the first byte of the first wrong name where its names can't be resolved.
abbrev pub TellsPlace : ReadFaultKind → ReadFault → List ℕ → Type 0
TellsPlace kinds.NotAscii fault text = StandsFirst token_faults.NotAscii fault text
TellsPlace kinds.BadToken fault text = StandsFirst token_faults.BadToken fault text
TellsPlace kinds.NumberTooLarge fault text = StandsFirst token_faults.NumberTooLarge fault text
TellsPlace kinds.Unexpected fault text = StandsInShape shape_faults.Unexpected fault text
TellsPlace kinds.TooMany fault text = StandsInShape shape_faults.TooMany fault text
TellsPlace kinds.UnknownName fault text = StandsAtName name_faults.UnknownName fault text
TellsPlace kinds.NameTaken fault text = StandsAtName name_faults.NameTaken fault text
TellsPlace kinds.WrongCount fault text = StandsAtName name_faults.WrongCount fault text
TellsPlace kinds.TooLong fault text = (fault.at ≡ MOST_TEXT) × (fault.line ≡ line_after (take MOST_TEXT text))
TellsPlace kinds.Memory fault text = (fault.at ≡ 0) × (fault.line ≡ 0)

-- what a fault says of the text that is refused for it: what is wrong with it, and where
abbrev pub IsRefusalOf : ReadFault → List ℕ → Type 0
IsRefusalOf fault text = SaysOf fault.kind text × TellsPlace fault.kind fault text
