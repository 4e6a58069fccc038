-- The syntax tree of a program text, and the tokens that it stands for.
use Rattle.std.specs.Prelude.{◌≡◌, ℕ, ◌+◌, ◌≤◌, Bool, true, false, length, List, [], ◌∷◌, Option, Some, None}
use Rattle.boc_program.specs.declared.limits.TheConstants.{MOST_ARGUMENTS, MOST_COWNS, MOST_DEFS, MOST_HELD, MOST_NODES}
use Rattle.boc_reader.specs.declared.terminal.Sign.{Sign}
use Rattle.boc_reader.specs.declared.terminal.Sign.TheVariants as signs
use Rattle.boc_reader.specs.declared.terminal.Keyword.TheVariants as keywords
use Rattle.boc_reader.specs.declared.level.Comparison.{Comparison}
use Rattle.boc_reader.specs.declared.level.Comparison.TheVariants as comparisons
use Rattle.boc_reader.specs.declared.level.SumOperator.{SumOperator}
use Rattle.boc_reader.specs.declared.level.SumOperator.TheVariants as sums
use Rattle.boc_reader.specs.declared.level.TermOperator.{TermOperator}
use Rattle.boc_reader.specs.declared.level.TermOperator.TheVariants as terms
use Rattle.boc_program.specs.Sizes.{members}
use Rattle.boc_reader.specs.Tokens.{Token, name, number, keyword, sign}

-- Expressions: each level of the grammar is a type. Sums and terms are lists, first operand first.
mutual
  -- one comparison at most
  pub data Expr : Type 0 where
    plain : Sum → Expr
    compared : Sum → Comparison → Sum → Expr

  pub data Sum : Type 0 where
    one_term : Term → Sum
    more_terms : Term → SumOperator → Sum → Sum

  pub data Term : Type 0 where
    one_factor : Unary → Term
    more_factors : Unary → TermOperator → Term → Term

  pub data Unary : Type 0 where
    negated : Unary → Unary
    unsigned : Atom → Unary

  pub data Atom : Type 0 where
    literal : ℕ → Atom
    variable : List ℕ → Atom
    parens : Expr → Atom

-- which cown a `when` names: by a name alone, or a member of an array
pub data NamedCown : Type 0 where
  alone : List ℕ → NamedCown
  member : List ℕ → Expr → NamedCown

-- Statements, and statements one after another. An `if` has its `else` or hasn't.
mutual
  pub data Stmt : Type 0 where
    declare : List ℕ → Expr → Stmt
    assign : List ℕ → Expr → Stmt
    work : Expr → Stmt
    if_only : Expr → Block → Stmt
    if_else : Expr → Block → Block → Stmt
    repeat : Expr → Block → Stmt
    when : List ℕ → List Expr → List NamedCown → Stmt

  pub data Block : Type 0 where
    done : Block
    next : Stmt → Block → Block

-- the declaration of a cown, or of an array of them, with a minus or without one before its value
pub record Cown : Type 0 where
  pub name : List ℕ
  pub size : Option ℕ
  pub negative : Bool
  pub value : ℕ

-- a def: its value parameters, its cown parameters and its block
pub record Def : Type 0 where
  pub name : List ℕ
  pub params : List (List ℕ)
  pub cowns : List (List ℕ)
  pub block : Block

-- the whole of a text
pub record Tree : Type 0 where
  pub cowns : List Cown
  pub defs : List Def
  pub main : Block

-- The tokens of a phrase are given with those that follow it.

-- the sign of each comparison
abbrev pub comparison_sign : Comparison → Sign
comparison_sign comparisons.Equal = signs.Equal
comparison_sign comparisons.NotEqual = signs.NotEqual
comparison_sign comparisons.Less = signs.Less
comparison_sign comparisons.AtMost = signs.AtMost
comparison_sign comparisons.Greater = signs.Greater
comparison_sign comparisons.AtLeast = signs.AtLeast

-- the sign of each operator between terms
abbrev pub sum_sign : SumOperator → Sign
sum_sign sums.Add = signs.Plus
sum_sign sums.Subtract = signs.Minus

-- the sign of each operator between factors
abbrev pub term_sign : TermOperator → Sign
term_sign terms.Multiply = signs.Star
term_sign terms.Divide = signs.Slash
term_sign terms.Remainder = signs.Percent

abbrev mutual
  pub expr_tokens : Expr → List Token → List Token
  expr_tokens (plain s) rest = sum_tokens s rest
  expr_tokens (compared s op t) rest = sum_tokens s (sign (comparison_sign op) ∷ sum_tokens t rest)

  pub sum_tokens : Sum → List Token → List Token
  sum_tokens (one_term t) rest = term_tokens t rest
  sum_tokens (more_terms t op s) rest = term_tokens t (sign (sum_sign op) ∷ sum_tokens s rest)

  pub term_tokens : Term → List Token → List Token
  term_tokens (one_factor u) rest = unary_tokens u rest
  term_tokens (more_factors u op t) rest = unary_tokens u (sign (term_sign op) ∷ term_tokens t rest)

  pub unary_tokens : Unary → List Token → List Token
  unary_tokens (negated u) rest = sign signs.Minus ∷ unary_tokens u rest
  unary_tokens (unsigned a) rest = atom_tokens a rest

  pub atom_tokens : Atom → List Token → List Token
  atom_tokens (literal n) rest = number n ∷ rest
  atom_tokens (variable x) rest = name x ∷ rest
  atom_tokens (parens e) rest = sign signs.Open ∷ expr_tokens e (sign signs.Close ∷ rest)

-- others of a kind, each after a comma
abbrev pub behind_commas : {X : Type 0} → (X → List Token → List Token) → List X → List Token → List Token
behind_commas tokens [] rest = rest
behind_commas tokens (x ∷ xs) rest = sign signs.Comma ∷ tokens x (behind_commas tokens xs rest)

-- any number of a kind, with commas between them
abbrev pub list_tokens : {X : Type 0} → (X → List Token → List Token) → List X → List Token → List Token
list_tokens tokens [] rest = rest
list_tokens tokens (x ∷ xs) rest = tokens x (behind_commas tokens xs rest)

-- one after another
abbrev pub each_tokens : {X : Type 0} → (X → List Token → List Token) → List X → List Token → List Token
each_tokens tokens [] rest = rest
each_tokens tokens (x ∷ xs) rest = tokens x (each_tokens tokens xs rest)

-- the tokens of a reference
abbrev pub ref_tokens : NamedCown → List Token → List Token
ref_tokens (alone x) rest = name x ∷ rest
ref_tokens (member x e) rest = name x ∷ sign signs.OpenIndex ∷ expr_tokens e (sign signs.CloseIndex ∷ rest)

-- what comes after a name that is written to
abbrev pub written_tokens : Expr → List Token → List Token
written_tokens e rest = sign signs.Assign ∷ expr_tokens e (sign signs.Semicolon ∷ rest)

-- what stands behind `when`
abbrev pub call_tokens : List ℕ → List Expr → List NamedCown → List Token → List Token
call_tokens f es rs rest =
    name f ∷ sign signs.Open ∷ list_tokens expr_tokens es (sign signs.Semicolon ∷ list_tokens ref_tokens rs (sign signs.Close ∷ sign signs.Semicolon ∷ rest))

abbrev mutual
  pub stmt_tokens : Stmt → List Token → List Token
  stmt_tokens (declare x e) rest = keyword keywords.Let ∷ name x ∷ written_tokens e rest
  stmt_tokens (assign x e) rest = name x ∷ written_tokens e rest
  stmt_tokens (work e) rest = keyword keywords.Work ∷ expr_tokens e (sign signs.Semicolon ∷ rest)
  stmt_tokens (if_only e b) rest = keyword keywords.If ∷ expr_tokens e (sign signs.OpenBlock ∷ block_tokens b (sign signs.CloseBlock ∷ rest))
  stmt_tokens (if_else e b c) rest =
      keyword keywords.If ∷ expr_tokens e (sign signs.OpenBlock
      ∷ block_tokens b (sign signs.CloseBlock ∷ keyword keywords.Else ∷ sign signs.OpenBlock ∷ block_tokens c (sign signs.CloseBlock ∷ rest)))
  stmt_tokens (repeat e b) rest = keyword keywords.Repeat ∷ expr_tokens e (sign signs.OpenBlock ∷ block_tokens b (sign signs.CloseBlock ∷ rest))
  stmt_tokens (when f es rs) rest = keyword keywords.When ∷ call_tokens f es rs rest

  -- the statements, without the braces round them
  pub block_tokens : Block → List Token → List Token
  block_tokens done rest = rest
  block_tokens (next s b) rest = stmt_tokens s (block_tokens b rest)

-- a block with the braces round it
abbrev pub braced_tokens : Block → List Token → List Token
braced_tokens b rest = sign signs.OpenBlock ∷ block_tokens b (sign signs.CloseBlock ∷ rest)

-- the token of a name
abbrev pub name_tokens : List ℕ → List Token → List Token
name_tokens x rest = name x ∷ rest

-- the size of an array in its brackets, or nothing
abbrev pub size_tokens : Option ℕ → List Token → List Token
size_tokens None rest = rest
size_tokens (Some n) rest = sign signs.OpenIndex ∷ number n ∷ sign signs.CloseIndex ∷ rest

-- a minus, or nothing
abbrev pub minus_tokens : Bool → List Token → List Token
minus_tokens false rest = rest
minus_tokens true rest = sign signs.Minus ∷ rest

-- the declaration of a cown
abbrev pub cown_tokens : Cown → List Token → List Token
cown_tokens c rest =
    keyword keywords.Cown ∷ name c.name ∷ size_tokens c.size (sign signs.Assign ∷ minus_tokens c.negative (number c.value ∷ sign signs.Semicolon ∷ rest))

-- a def with its parameters and its block
abbrev pub def_tokens : Def → List Token → List Token
def_tokens d rest =
    keyword keywords.Def ∷ name d.name ∷ sign signs.Open
    ∷ list_tokens name_tokens d.params (sign signs.Semicolon ∷ list_tokens name_tokens d.cowns (sign signs.Close ∷ braced_tokens d.block rest))

-- the whole of a text: nothing follows main's block
abbrev pub tree_tokens : Tree → List Token
tree_tokens t = each_tokens cown_tokens t.cowns (each_tokens def_tokens t.defs (keyword keywords.Main ∷ braced_tokens t.main []))

-- Nodes: statements, numbers, names in expressions, unary minuses, binary operators, pairs of parentheses, and references.

abbrev mutual
  pub expr_nodes : Expr → ℕ
  expr_nodes (plain s) = sum_nodes s
  expr_nodes (compared s op t) = sum_nodes s + 1 + sum_nodes t

  pub sum_nodes : Sum → ℕ
  sum_nodes (one_term t) = term_nodes t
  sum_nodes (more_terms t op s) = term_nodes t + 1 + sum_nodes s

  pub term_nodes : Term → ℕ
  term_nodes (one_factor u) = unary_nodes u
  term_nodes (more_factors u op t) = unary_nodes u + 1 + term_nodes t

  pub unary_nodes : Unary → ℕ
  unary_nodes (negated u) = 1 + unary_nodes u
  unary_nodes (unsigned a) = atom_nodes a

  pub atom_nodes : Atom → ℕ
  atom_nodes (literal n) = 1
  atom_nodes (variable x) = 1
  atom_nodes (parens e) = 1 + expr_nodes e

-- the nodes of several of a kind
abbrev pub list_nodes : {X : Type 0} → (X → ℕ) → List X → ℕ
list_nodes nodes [] = 0
list_nodes nodes (x ∷ xs) = nodes x + list_nodes nodes xs

-- a reference is a node, beside those of its index
abbrev pub ref_nodes : NamedCown → ℕ
ref_nodes (alone x) = 1
ref_nodes (member x e) = 1 + expr_nodes e

abbrev mutual
  pub stmt_nodes : Stmt → ℕ
  stmt_nodes (declare x e) = 1 + expr_nodes e
  stmt_nodes (assign x e) = 1 + expr_nodes e
  stmt_nodes (work e) = 1 + expr_nodes e
  stmt_nodes (if_only e b) = 1 + (expr_nodes e + block_nodes b)
  stmt_nodes (if_else e b c) = 1 + (expr_nodes e + (block_nodes b + block_nodes c))
  stmt_nodes (repeat e b) = 1 + (expr_nodes e + block_nodes b)
  stmt_nodes (when f es rs) = 1 + (list_nodes expr_nodes es + list_nodes ref_nodes rs)

  pub block_nodes : Block → ℕ
  block_nodes done = 0
  block_nodes (next s b) = stmt_nodes s + block_nodes b

-- at most eight arguments and as many references of each `when`
abbrev mutual
  pub IsSmallStmt : Stmt → Type 0
  IsSmallStmt (declare x e) = Unit {0}
  IsSmallStmt (assign x e) = Unit {0}
  IsSmallStmt (work e) = Unit {0}
  IsSmallStmt (if_only e b) = IsSmallBlock b
  IsSmallStmt (if_else e b c) = IsSmallBlock b × IsSmallBlock c
  IsSmallStmt (repeat e b) = IsSmallBlock b
  IsSmallStmt (when f es rs) = (length es ≤ MOST_ARGUMENTS) × (length rs ≤ MOST_HELD)

  pub IsSmallBlock : Block → Type 0
  IsSmallBlock done = Unit {0}
  IsSmallBlock (next s b) = IsSmallStmt s × IsSmallBlock b

-- a body: at most 1,000 nodes
pub record IsSmallBody (b : Block) : Type 0 where
  pub nodes : block_nodes b ≤ MOST_NODES
  pub calls : IsSmallBlock b

-- a def: at most eight parameters of each kind
pub record IsSmallDef (d : Def) : Type 0 where
  pub params : length d.params ≤ MOST_ARGUMENTS
  pub cowns : length d.cowns ≤ MOST_HELD
  pub body : IsSmallBody d.block

-- every def keeps the limits
abbrev pub AreSmallDefs : List Def → Type 0
AreSmallDefs [] = Unit {0}
AreSmallDefs (d ∷ ds) = IsSmallDef d × AreSmallDefs ds

-- an array has members
abbrev pub HasMembers : Option ℕ → Type 0
HasMembers None = Unit {0}
HasMembers (Some n) = 1 ≤ n

-- every array has members
abbrev pub HaveMembers : List Cown → Type 0
HaveMembers [] = Unit {0}
HaveMembers (c ∷ cs) = HasMembers c.size × HaveMembers cs

-- how many cowns the declarations make, each member of an array counted
abbrev pub cowns_declared : List Cown → ℕ
cowns_declared [] = 0
cowns_declared (c ∷ cs) = members c.size + cowns_declared cs

-- the limits on cowns, defs, parameters, nodes, arguments and references
pub record IsWithinLimits (t : Tree) : Type 0 where
  pub arrays : HaveMembers t.cowns
  pub cowns : cowns_declared t.cowns ≤ MOST_COWNS
  pub defs : length t.defs ≤ MOST_DEFS
  pub small_defs : AreSmallDefs t.defs
  pub small_main : IsSmallBody t.main

-- the tokens are those of a tree within the limits
pub record HasShape (tokens : List Token) (t : Tree) : Type 0 where
  pub tokens_are : tokens ≡ tree_tokens t
  pub limits : IsWithinLimits t
