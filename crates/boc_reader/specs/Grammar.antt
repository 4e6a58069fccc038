-- The kinds of phrases.
use Rattle.std.specs.Prelude.{◌≡◌, ◌≢◌, [], ℕ, ◌+◌, ◌≤◌, Bool, List, ◌∷◌, length, Option, Some, None}
use Rattle.boc_reader.specs.declared.parse.TheConstants.{MOST_LISTED}
use Rattle.boc_reader.specs.declared.terminal.Sign.{Sign}
use Rattle.boc_reader.specs.declared.terminal.Sign.TheVariants.{Open, Close, OpenIndex, CloseBlock, Semicolon, Assign}
use Rattle.boc_reader.specs.declared.terminal.Sign.TheVariants as signs
use Rattle.boc_reader.specs.declared.terminal.Keyword.{Keyword}
use Rattle.boc_reader.specs.declared.terminal.Keyword.TheVariants.{Else, Cown as CownKeyword, Def as DefKeyword, Main}
use Rattle.boc_reader.specs.declared.level.Comparison.{Comparison}
use Rattle.boc_reader.specs.declared.level.SumOperator.{SumOperator}
use Rattle.boc_reader.specs.declared.level.TermOperator.{TermOperator}
use Rattle.boc_reader.specs.Tokens.{Token, name, number, keyword, sign}
use Rattle.boc_program.specs.Sizes.{members}
use Rattle.boc_reader.specs.Shape.{comparison_sign, sum_sign, term_sign, Expr, plain, compared, expr_tokens, expr_nodes, Sum, sum_tokens, sum_nodes, Term}
use Rattle.boc_reader.specs.Shape.{term_tokens, term_nodes, Unary, unary_tokens, unary_nodes, Atom, atom_tokens, atom_nodes, NamedCown, alone, member}
use Rattle.boc_reader.specs.Shape.{ref_tokens, ref_nodes, Stmt, declare, assign, work, if_only, if_else, repeat, when, stmt_tokens, stmt_nodes, IsSmallStmt}
use Rattle.boc_reader.specs.Shape.{Block, block_tokens, block_nodes, IsSmallBlock, IsSmallBody, braced_tokens, list_tokens, list_nodes, each_tokens}
use Rattle.boc_reader.specs.Shape.{name_tokens, written_tokens, Cown, cown_tokens, cowns_declared, HasMembers, HaveMembers, size_tokens, minus_tokens, Def}
use Rattle.boc_reader.specs.Shape.{def_tokens, IsSmallDef, AreSmallDefs, Tree, HasShape}
use Rattle.boc_reader.specs.Phrases.{Phrase}

-- the sign isn't next
abbrev pub NoSign : Sign → List Token → Type 0
NoSign s rest = (after : List Token) → rest ≢ sign s ∷ after

-- the keyword isn't next
abbrev pub NoKeyword : Keyword → List Token → Type 0
NoKeyword k rest = (after : List Token) → rest ≢ keyword k ∷ after

-- no operator of a level is next
abbrev pub NoOperator : {Op : Type 0} → (Op → Sign) → List Token → Type 0
NoOperator {Op} op_sign rest = (op : Op) (after : List Token) → rest ≢ sign (op_sign op) ∷ after

-- how tightly an operator binds: 0 is for a sign that is none
abbrev pub tightness : Sign → ℕ
tightness signs.Equal = 1
tightness signs.NotEqual = 1
tightness signs.Less = 1
tightness signs.AtMost = 1
tightness signs.Greater = 1
tightness signs.AtLeast = 1
tightness signs.Plus = 2
tightness signs.Minus = 2
tightness signs.Star = 3
tightness signs.Slash = 3
tightness signs.Percent = 3
tightness s = 0

-- no operator follows that the phrase would take in
abbrev pub EndsSum : List Token → Type 0
EndsSum rest = NoOperator term_sign rest × NoOperator sum_sign rest

-- no operator follows that an expression would take in; one comparison is all that it may have
abbrev pub EndsExpr : Expr → List Token → Type 0
EndsExpr (plain s) rest = EndsSum rest × NoOperator comparison_sign rest
EndsExpr (compared s op t) rest = EndsSum rest

-- an expression
abbrev pub expr_phrase : Phrase Expr
expr_phrase = record { tokens = expr_tokens; nodes = expr_nodes; Ends = EndsExpr; IsSmall = λ _. Unit {0} }

-- a sum
abbrev pub sum_phrase : Phrase Sum
sum_phrase = record { tokens = sum_tokens; nodes = sum_nodes; Ends = λ _. EndsSum; IsSmall = λ _. Unit {0} }

-- a term
abbrev pub term_phrase : Phrase Term
term_phrase = record { tokens = term_tokens; nodes = term_nodes; Ends = λ _. NoOperator term_sign; IsSmall = λ _. Unit {0} }

-- a factor, after minuses or without one
abbrev pub unary_phrase : Phrase Unary
unary_phrase = record { tokens = unary_tokens; nodes = unary_nodes; Ends = λ _ _. Unit {0}; IsSmall = λ _. Unit {0} }

-- a number, a name, or an expression in parentheses
abbrev pub atom_phrase : Phrase Atom
atom_phrase = record { tokens = atom_tokens; nodes = atom_nodes; Ends = λ _ _. Unit {0}; IsSmall = λ _. Unit {0} }

-- the tokens of an operator and what it takes in, or none
abbrev pub tail_tokens : {Op X : Type 0} → (Op → Sign) → (X → List Token → List Token) → Option (Op × X) → List Token → List Token
tail_tokens op_sign tokens None rest = rest
tail_tokens op_sign tokens (Some p) rest = sign (op_sign p.0) ∷ tokens p.1 rest

-- their nodes: the operator is one
abbrev pub tail_nodes : {Op X : Type 0} → (X → ℕ) → Option (Op × X) → ℕ
tail_nodes nodes None = 0
tail_nodes nodes (Some p) = 1 + nodes p.1

-- where nothing was taken in no operator follows, and else what was taken in ends
abbrev pub EndsTail : {Op X : Type 0} → (Op → Sign) → (X → List Token → Type 0) → Option (Op × X) → List Token → Type 0
EndsTail op_sign Ends None rest = NoOperator op_sign rest
EndsTail op_sign Ends (Some p) rest = Ends p.1 rest

-- an operator and what it takes in, or no operator
abbrev pub tail_phrase : {Op X : Type 0} → (Op → Sign) → Phrase X → Phrase (Option (Op × X))
tail_phrase op_sign kind = record {
  tokens = tail_tokens op_sign kind.tokens;
  nodes = tail_nodes kind.nodes;
  Ends = EndsTail op_sign kind.Ends;
  IsSmall = λ _. Unit {0};
}

-- a comparison and its right side, or neither
abbrev pub compared_phrase : Phrase (Option (Comparison × Sum))
compared_phrase = tail_phrase comparison_sign sum_phrase

-- a plus or a minus and what follows it, or neither
abbrev pub more_terms_phrase : Phrase (Option (SumOperator × Sum))
more_terms_phrase = tail_phrase sum_sign sum_phrase

-- an operator of a term and what follows it, or neither
abbrev pub more_factors_phrase : Phrase (Option (TermOperator × Term))
more_factors_phrase = tail_phrase term_sign term_phrase

-- a phrase, and the sign after it
abbrev pub closed_phrase : {X : Type 0} → Phrase X → Sign → Phrase X
closed_phrase kind close = record { tokens = λ x rest. kind.tokens x (sign close ∷ rest); nodes = kind.nodes; Ends = λ _ _. Unit {0}; IsSmall = kind.IsSmall }

-- a phrase, and one of another kind after it
abbrev pub pair_phrase : {X Y : Type 0} → Phrase X → Phrase Y → Phrase (X × Y)
pair_phrase first second = record {
  tokens = λ p rest. first.tokens p.0 (second.tokens p.1 rest);
  nodes = λ p. first.nodes p.0 + second.nodes p.1;
  Ends = λ p rest. second.Ends p.1 rest;
  IsSmall = λ p. first.IsSmall p.0 × second.IsSmall p.1;
}

-- at most eight of a kind, and the sign after them
abbrev pub list_phrase : {X : Type 0} → Phrase X → Sign → Phrase (List X)
list_phrase kind close = record {
  tokens = λ xs rest. list_tokens kind.tokens xs (sign close ∷ rest);
  nodes = list_nodes kind.nodes;
  Ends = λ _ _. Unit {0};
  IsSmall = λ xs. length xs ≤ MOST_LISTED;
}

-- a name
abbrev pub name_phrase : Phrase (List ℕ)
name_phrase = record { tokens = name_tokens; nodes = λ _. 0; Ends = λ _ _. Unit {0}; IsSmall = λ _. Unit {0} }

-- no index follows a cown that is named without one
abbrev pub EndsRef : NamedCown → List Token → Type 0
EndsRef (alone x) rest = NoSign OpenIndex rest
EndsRef (member x e) rest = Unit {0}

-- a cown that a `when` names
abbrev pub ref_phrase : Phrase NamedCown
ref_phrase = record { tokens = ref_tokens; nodes = ref_nodes; Ends = EndsRef; IsSmall = λ _. Unit {0} }

-- what comes after a name that is written to
abbrev pub written_phrase : Phrase Expr
written_phrase = record { tokens = written_tokens; nodes = expr_nodes; Ends = λ _ _. Unit {0}; IsSmall = λ _. Unit {0} }

-- what stands behind `let`
abbrev pub let_phrase : Phrase (List ℕ × Expr)
let_phrase = pair_phrase name_phrase written_phrase

-- the arguments of a `when`, and its references
abbrev pub arguments_phrase : Phrase (List Expr × List NamedCown)
arguments_phrase = pair_phrase (list_phrase expr_phrase Semicolon) (list_phrase ref_phrase Close)

-- what stands behind `when`
abbrev pub call_phrase : Phrase (List ℕ × (List Expr × List NamedCown))
call_phrase = record {
  tokens = λ p rest. name p.0 ∷ sign Open ∷ arguments_phrase.tokens p.1 (sign Semicolon ∷ rest);
  nodes = λ p. arguments_phrase.nodes p.1;
  Ends = λ _ _. Unit {0};
  IsSmall = λ p. arguments_phrase.IsSmall p.1;
}

-- a block in its braces
abbrev pub braced_phrase : Phrase Block
braced_phrase = record { tokens = braced_tokens; nodes = block_nodes; Ends = λ _ _. Unit {0}; IsSmall = IsSmallBlock }

-- statements, and the brace after them
abbrev pub block_phrase : Phrase Block
block_phrase = record { tokens = λ b rest. block_tokens b (sign CloseBlock ∷ rest); nodes = block_nodes; Ends = λ _ _. Unit {0}; IsSmall = IsSmallBlock }

-- the tokens of `else` and its block, or none
abbrev pub else_tokens : Option Block → List Token → List Token
else_tokens None rest = rest
else_tokens (Some b) rest = keyword Else ∷ braced_tokens b rest

-- the nodes of the block, if there is one
abbrev pub else_nodes : Option Block → ℕ
else_nodes None = 0
else_nodes (Some b) = block_nodes b

-- where there is no `else`, none follows
abbrev pub EndsElse : Option Block → List Token → Type 0
EndsElse None rest = NoKeyword Else rest
EndsElse (Some b) rest = Unit {0}

-- the block is within the limits, if there is one
abbrev pub IsSmallElse : Option Block → Type 0
IsSmallElse None = Unit {0}
IsSmallElse (Some b) = IsSmallBlock b

-- `else` and its block, or nothing
abbrev pub else_phrase : Phrase (Option Block)
else_phrase = record { tokens = else_tokens; nodes = else_nodes; Ends = EndsElse; IsSmall = IsSmallElse }

-- what stands behind `if`
abbrev pub if_phrase : Phrase (Expr × (Block × Option Block))
if_phrase = pair_phrase expr_phrase (pair_phrase braced_phrase else_phrase)

-- what stands behind `repeat`
abbrev pub repeat_phrase : Phrase (Expr × Block)
repeat_phrase = pair_phrase expr_phrase braced_phrase

-- no `else` follows an `if` without one
abbrev pub EndsStmt : Stmt → List Token → Type 0
EndsStmt (declare x e) rest = Unit {0}
EndsStmt (assign x e) rest = Unit {0}
EndsStmt (work e) rest = Unit {0}
EndsStmt (if_only e b) rest = NoKeyword Else rest
EndsStmt (if_else e b c) rest = Unit {0}
EndsStmt (repeat e b) rest = Unit {0}
EndsStmt (when f es rs) rest = Unit {0}

-- a statement
abbrev pub stmt_phrase : Phrase Stmt
stmt_phrase = record { tokens = stmt_tokens; nodes = stmt_nodes; Ends = EndsStmt; IsSmall = IsSmallStmt }

-- a block in its braces, with room of its own
abbrev pub body_phrase : Phrase Block
body_phrase = record { tokens = braced_tokens; nodes = λ _. 0; Ends = λ _ _. Unit {0}; IsSmall = IsSmallBody }

-- no size follows a single cown
abbrev pub EndsSize : Option ℕ → List Token → Type 0
EndsSize None rest = NoSign OpenIndex rest
EndsSize (Some n) rest = Unit {0}

-- what comes after the name of a cown, and makes it an array
abbrev pub size_phrase : Phrase (Option ℕ)
size_phrase = record { tokens = size_tokens; nodes = members; Ends = EndsSize; IsSmall = HasMembers }

-- a value that a cown begins with, after a minus or without one
abbrev pub initial_phrase : Phrase (Bool × ℕ)
initial_phrase = record {
  tokens = λ v rest. sign Assign ∷ minus_tokens v.0 (number v.1 ∷ sign Semicolon ∷ rest);
  nodes = λ _. 0;
  Ends = λ _ _. Unit {0};
  IsSmall = λ _. Unit {0};
}

-- a declaration of cowns
abbrev pub cown_phrase : Phrase Cown
cown_phrase = record { tokens = cown_tokens; nodes = λ c. members c.size; Ends = λ _ _. Unit {0}; IsSmall = λ c. HasMembers c.size }

-- all declarations of cowns, so that none follows
abbrev pub cowns_phrase : Phrase (List Cown)
cowns_phrase = record { tokens = each_tokens cown_tokens; nodes = cowns_declared; Ends = λ _. NoKeyword CownKeyword; IsSmall = HaveMembers }

-- what stands between `def` and its block
abbrev pub signature_phrase : Phrase (List ℕ × (List (List ℕ) × List (List ℕ)))
signature_phrase = record {
  tokens = λ s rest. name s.0 ∷ sign Open ∷ list_tokens name_tokens s.1.0 (sign Semicolon ∷ list_tokens name_tokens s.1.1 (sign Close ∷ rest));
  nodes = λ _. 0;
  Ends = λ _ _. Unit {0};
  IsSmall = λ s. (length s.1.0 ≤ MOST_LISTED) × (length s.1.1 ≤ MOST_LISTED);
}

-- a def
abbrev pub def_phrase : Phrase Def
def_phrase = record { tokens = def_tokens; nodes = λ _. 1; Ends = λ _ _. Unit {0}; IsSmall = IsSmallDef }

-- all defs, so that none follows
abbrev pub defs_phrase : Phrase (List Def)
defs_phrase = record { tokens = each_tokens def_tokens; nodes = length; Ends = λ _. NoKeyword DefKeyword; IsSmall = AreSmallDefs }

-- main's body, and the end of the text
abbrev pub main_phrase : Phrase Block
main_phrase = record { tokens = λ b rest. keyword Main ∷ braced_tokens b rest; nodes = λ _. 0; Ends = λ _ rest. rest ≡ []; IsSmall = IsSmallBody }

-- the tokens are not those of a tree within the limits
abbrev pub NoShape : List Token → Type 0
NoShape tokens = (t : Tree) → HasShape tokens t → ⊥
