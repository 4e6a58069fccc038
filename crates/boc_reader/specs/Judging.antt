-- What the pass that looks for the first wrong name says of each part of a tree, where n names come before it and are right.
use Rattle.std.specs.Prelude.{◌≡◌, ℕ, ◌+◌, List, [], ◌∷◌, ◌++◌, length, Option, Some, None, Result, Ok, Err}
use Rattle.boc_reader.specs.Shape.{Expr, plain, compared, Sum, one_term, more_terms, Term, one_factor, more_factors, Unary, negated, unsigned, Atom, literal}
use Rattle.boc_reader.specs.Shape.{variable, parens, NamedCown, alone, member, Stmt, declare, assign, work, if_only, if_else, repeat, when, Block, done, next}
use Rattle.boc_reader.specs.Shape.{Def, Tree}
use Rattle.boc_reader.specs.Names.{Named, Top, Outside, slot_of, global, callee}
use Rattle.boc_reader.specs.NameUses.{variable_fault, alone_fault, member_fault, callee_fault, free_fault, new_fault, scope_behind, first_declared}
use Rattle.boc_reader.specs.NameUses.{declared_cowns}
use Rattle.boc_reader.specs.WrongNames.{Verdict, right, wrong, names_of_tokens}
use Rattle.boc_reader.specs.Tokens.{name}
use Rattle.boc_reader.specs.Placed.{token_of, tokens_of}
use Rattle.boc_reader.specs.declared.token.Placed.{Placed}
use Rattle.boc_reader.specs.declared.fault.Fault.{Fault}
use Rattle.boc_reader.specs.declared.fault.Fault.TheVariants.{Memory, At}
use Rattle.boc_reader.specs.declared.fault.NameFault.{NameFault}

-- what was found is the verdict, unless memory was refused
abbrev pub Judges : Result ℕ (Fault NameFault) → Verdict → Type 0
Judges (Ok n) said = said ≡ right n
Judges (Err Memory) said = Unit {0}
Judges (Err (At fault n)) said = said ≡ wrong fault n

-- a verdict, and where all is right that on what follows
abbrev pub if_right : Verdict → (ℕ → Verdict) → Verdict
if_right (right n) behind = behind n
if_right (wrong fault n) behind = wrong fault n

-- a name
abbrev pub name_verdict : Option NameFault → ℕ → Verdict
name_verdict None n = right (n + 1)
name_verdict (Some fault) n = wrong fault n

-- an expression
abbrev mutual
  pub expr_verdict : Expr → List Named → ℕ → Verdict
  expr_verdict (plain s) scope n = sum_verdict s scope n
  expr_verdict (compared s op t) scope n = if_right (sum_verdict s scope n) (sum_verdict t scope)

  pub sum_verdict : Sum → List Named → ℕ → Verdict
  sum_verdict (one_term t) scope n = term_verdict t scope n
  sum_verdict (more_terms t op s) scope n = if_right (term_verdict t scope n) (sum_verdict s scope)

  pub term_verdict : Term → List Named → ℕ → Verdict
  term_verdict (one_factor u) scope n = unary_verdict u scope n
  term_verdict (more_factors u op t) scope n = if_right (unary_verdict u scope n) (term_verdict t scope)

  pub unary_verdict : Unary → List Named → ℕ → Verdict
  unary_verdict (negated u) scope n = unary_verdict u scope n
  unary_verdict (unsigned a) scope n = atom_verdict a scope n

  pub atom_verdict : Atom → List Named → ℕ → Verdict
  atom_verdict (literal v) scope n = right n
  atom_verdict (variable x) scope n = name_verdict (variable_fault scope x) n
  atom_verdict (parens e) scope n = expr_verdict e scope n

-- several, one after the other
abbrev pub all_verdict : {X : Type 0} → (X → ℕ → Verdict) → List X → ℕ → Verdict
all_verdict said [] n = right n
all_verdict said (x ∷ xs) n = if_right (said x n) (all_verdict said xs)

-- arguments
abbrev pub exprs_verdict : List Named → List Expr → ℕ → Verdict
exprs_verdict scope es n = all_verdict (λ e. expr_verdict e scope) es n

-- a reference
abbrev pub ref_verdict : Outside → List Named → NamedCown → ℕ → Verdict
ref_verdict outside scope (alone x) n = name_verdict (alone_fault (slot_of outside.held x) (global outside.top x)) n
ref_verdict outside scope (member x e) n =
    if_right (name_verdict (member_fault (slot_of outside.held x) (global outside.top x)) n) (expr_verdict e scope)

-- references
abbrev pub refs_verdict : Outside → List Named → List NamedCown → ℕ → Verdict
refs_verdict outside scope rs n = all_verdict (ref_verdict outside scope) rs n

-- a `when`
abbrev pub call_verdict : Outside → List Named → Named → List Expr → List NamedCown → ℕ → Verdict
call_verdict outside scope f es rs n =
    if_right (name_verdict (callee_fault (callee outside.top f) (length es) (length rs)) n)
    (λ m. if_right (exprs_verdict scope es m) (refs_verdict outside scope rs))

-- a statement, and a block
abbrev mutual
  pub stmt_verdict : Stmt → Outside → List Named → ℕ → Verdict
  stmt_verdict (declare x e) outside scope n = if_right (name_verdict (free_fault outside.top scope x) n) (expr_verdict e scope)
  stmt_verdict (assign x e) outside scope n = if_right (name_verdict (variable_fault scope x) n) (expr_verdict e scope)
  stmt_verdict (work e) outside scope n = expr_verdict e scope n
  stmt_verdict (if_only e b) outside scope n = if_right (expr_verdict e scope n) (block_verdict b outside scope)
  stmt_verdict (if_else e b c) outside scope n =
      if_right (if_right (expr_verdict e scope n) (block_verdict b outside scope)) (block_verdict c outside scope)
  stmt_verdict (repeat e b) outside scope n = if_right (expr_verdict e scope n) (block_verdict b outside scope)
  stmt_verdict (when f es rs) outside scope n = call_verdict outside scope f es rs n

  pub block_verdict : Block → Outside → List Named → ℕ → Verdict
  block_verdict done outside scope n = right n
  block_verdict (next s b) outside scope n = if_right (stmt_verdict s outside scope n) (block_verdict b outside (scope_behind s scope))

-- a block after an expression
abbrev pub guarded_verdict : Expr → Block → Outside → List Named → ℕ → Verdict
guarded_verdict e b outside scope n = if_right (expr_verdict e scope n) (block_verdict b outside scope)

-- parameters
abbrev pub parameters_verdict : Top → List Named → List Named → ℕ → Verdict
parameters_verdict top scope [] n = right n
parameters_verdict top scope (x ∷ xs) n = if_right (name_verdict (free_fault top scope x) n) (parameters_verdict top (scope ++ x ∷ []) xs)

-- a body
abbrev pub body_verdict : Top → List Named → List Named → Block → ℕ → Verdict
body_verdict top params held block n =
    if_right (parameters_verdict top [] params n)
    (λ m. if_right (parameters_verdict top params held m) (block_verdict block (record { top = top; held = held }) (params ++ held)))

-- the declarations of cowns
abbrev pub cowns_verdict : List Named → List Named → ℕ → Verdict
cowns_verdict before [] n = right n
cowns_verdict before (x ∷ xs) n = if_right (name_verdict (new_fault before x) n) (cowns_verdict (before ++ x ∷ []) xs)

-- defs
abbrev pub defs_verdict : Top → List Named → List Def → ℕ → Verdict
defs_verdict top before [] n = right n
defs_verdict top before (d ∷ ds) n =
    if_right (name_verdict (new_fault before d.name) n)
    (λ m. if_right (body_verdict top d.params d.cowns d.block m) (defs_verdict top (before ++ d.name ∷ []) ds))

-- the defs of a tree, and main
abbrev pub bodies_verdict : Tree → Top → ℕ → Verdict
bodies_verdict t top n = if_right (defs_verdict top (declared_cowns t) t.defs n) (body_verdict top [] [] t.main)

-- a tree
abbrev pub tree_verdict : Tree → Verdict
tree_verdict t = if_right (cowns_verdict [] (declared_cowns t) 0) (bodies_verdict t (first_declared t))

-- The name after n others of these tokens begins at this byte.
pub record IsNameAt (ps : List Placed) (n at : ℕ) : Type 0 where
  pub before : List Placed
  pub count : length (names_of_tokens (tokens_of before)) ≡ n
  pub found : Placed
  pub called : Named
  pub is_name : token_of found.token ≡ name called
  pub behind : List Placed
  pub parts : ps ≡ before ++ found ∷ behind
  pub place : at ≡ found.at
