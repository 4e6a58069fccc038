-- The names of a tree in the order of the text, each judged where it stands.
use Rattle.std.specs.Prelude.{ℕ, nat_eq, ◌&&◌, if◌then◌else◌, List, [], ◌∷◌, ◌++◌, length, map, is_some, Option, Some, None}
use Rattle.boc_reader.specs.Shape.{Expr, plain, compared, Sum, one_term, more_terms, Term, one_factor, more_factors, Unary, negated, unsigned, Atom, literal}
use Rattle.boc_reader.specs.Shape.{variable, parens, NamedCown, alone, member, Stmt, declare, assign, work, if_only, if_else, repeat, when, Block, done, next}
use Rattle.boc_reader.specs.Shape.{Def, Tree}
use Rattle.boc_reader.specs.Names.{Named, Global, Callee, Top, Outside, among, slot_of, global, callee, globals, is_free}
use Rattle.boc_reader.specs.Resolving.{defs_behind}
use Rattle.boc_reader.specs.declared.fault.NameFault.{NameFault}
use Rattle.boc_reader.specs.declared.fault.NameFault.TheVariants.{UnknownName, NameTaken, WrongCount}

-- a name where it stands in a text, and what is wrong with it there, if anything is
pub record Use : Type 0 where
  pub name : Named
  pub fault : Option NameFault

-- a name with what is wrong with it
abbrev pub judged : Named → Option NameFault → Use
judged x fault = record { name = x; fault = fault }

-- a variable has to be in scope
abbrev pub variable_fault : List Named → Named → Option NameFault
variable_fault scope x = if among scope x then None else Some UnknownName

-- the names of an expression
abbrev mutual
  pub expr_uses : Expr → List Named → List Use
  expr_uses (plain s) scope = sum_uses s scope
  expr_uses (compared s op t) scope = sum_uses s scope ++ sum_uses t scope

  pub sum_uses : Sum → List Named → List Use
  sum_uses (one_term t) scope = term_uses t scope
  sum_uses (more_terms t op s) scope = term_uses t scope ++ sum_uses s scope

  pub term_uses : Term → List Named → List Use
  term_uses (one_factor u) scope = unary_uses u scope
  term_uses (more_factors u op t) scope = unary_uses u scope ++ term_uses t scope

  pub unary_uses : Unary → List Named → List Use
  unary_uses (negated u) scope = unary_uses u scope
  unary_uses (unsigned a) scope = atom_uses a scope

  pub atom_uses : Atom → List Named → List Use
  atom_uses (literal n) scope = []
  atom_uses (variable x) scope = judged x (variable_fault scope x) ∷ []
  atom_uses (parens e) scope = expr_uses e scope

-- the names of each of several, one after the other
abbrev pub all_uses : {X : Type 0} → (X → List Use) → List X → List Use
all_uses uses [] = []
all_uses uses (x ∷ xs) = uses x ++ all_uses uses xs

-- What is wrong with the name of a cown that stands without an index, by its place among the cown parameters and by the cown of that name at the top:
-- an array wants an index.
abbrev pub alone_fault : Option ℕ → Option Global → Option NameFault
alone_fault (Some parameter) found = None
alone_fault None (Some g) = if is_some g.size then Some WrongCount else None
alone_fault None None = Some UnknownName

-- what is wrong with the name of a cown before an index, which is for an array alone
abbrev pub member_fault : Option ℕ → Option Global → Option NameFault
member_fault parameter (Some g) = if is_some g.size then None else Some WrongCount
member_fault (Some parameter) None = Some WrongCount
member_fault None None = Some UnknownName

-- the names of a reference: the cown's, and those of the index
abbrev pub ref_uses : Outside → List Named → NamedCown → List Use
ref_uses outside scope (alone x) = judged x (alone_fault (slot_of outside.held x) (global outside.top x)) ∷ []
ref_uses outside scope (member x e) = judged x (member_fault (slot_of outside.held x) (global outside.top x)) ∷ expr_uses e scope

-- what is wrong with the name of a def that is given so many arguments and cowns
abbrev pub callee_fault : Option Callee → ℕ → ℕ → Option NameFault
callee_fault None args cowns = Some UnknownName
callee_fault (Some d) args cowns = if nat_eq d.args args && nat_eq d.cowns cowns then None else Some WrongCount

-- the names of a `when`: the def's, those of the arguments, and those of the references
abbrev pub call_uses : Outside → List Named → Named → List Expr → List NamedCown → List Use
call_uses outside scope f es rs =
    judged f (callee_fault (callee outside.top f) (length es) (length rs))
    ∷ (all_uses (λ e. expr_uses e scope) es ++ all_uses (ref_uses outside scope) rs)

-- a name that is declared has to be free
abbrev pub free_fault : Top → List Named → Named → Option NameFault
free_fault top scope x = if is_free top scope x then None else Some NameTaken

-- the names in scope after a statement
abbrev pub scope_behind : Stmt → List Named → List Named
scope_behind (declare x e) scope = scope ++ x ∷ []
scope_behind (assign x e) scope = scope
scope_behind (work e) scope = scope
scope_behind (if_only e b) scope = scope
scope_behind (if_else e b c) scope = scope
scope_behind (repeat e b) scope = scope
scope_behind (when f es rs) scope = scope

-- the names of a statement; the one that a `let` declares isn't in scope yet in its expression
abbrev mutual
  pub stmt_uses : Stmt → Outside → List Named → List Use
  stmt_uses (declare x e) outside scope = judged x (free_fault outside.top scope x) ∷ expr_uses e scope
  stmt_uses (assign x e) outside scope = judged x (variable_fault scope x) ∷ expr_uses e scope
  stmt_uses (work e) outside scope = expr_uses e scope
  stmt_uses (if_only e b) outside scope = expr_uses e scope ++ block_uses b outside scope
  stmt_uses (if_else e b c) outside scope = expr_uses e scope ++ (block_uses b outside scope ++ block_uses c outside scope)
  stmt_uses (repeat e b) outside scope = expr_uses e scope ++ block_uses b outside scope
  stmt_uses (when f es rs) outside scope = call_uses outside scope f es rs

  -- the names that a block declares are free again after it
  pub block_uses : Block → Outside → List Named → List Use
  block_uses done outside scope = []
  block_uses (next s b) outside scope = stmt_uses s outside scope ++ block_uses b outside (scope_behind s scope)

-- parameters, each of which is in scope for those after it
abbrev pub parameter_uses : Top → List Named → List Named → List Use
parameter_uses top scope [] = []
parameter_uses top scope (x ∷ xs) = judged x (free_fault top scope x) ∷ parameter_uses top (scope ++ x ∷ []) xs

-- the names of a body: its value parameters, its cown parameters, and those of its block
abbrev pub body_uses : Top → List Named → List Named → Block → List Use
body_uses top params held block = parameter_uses top [] (params ++ held) ++ block_uses block (record { top = top; held = held }) (params ++ held)

-- a name that is declared at the top may not be among those before it
abbrev pub new_fault : List Named → Named → Option NameFault
new_fault before x = if among before x then Some NameTaken else None

-- the names of declarations of cowns
abbrev pub cown_uses : List Named → List Named → List Use
cown_uses before [] = []
cown_uses before (x ∷ xs) = judged x (new_fault before x) ∷ cown_uses (before ++ x ∷ []) xs

-- the names of defs: of each its own, and those of its body
abbrev pub def_uses : Top → List Named → List Def → List Use
def_uses top before [] = []
def_uses top before (d ∷ ds) = judged d.name (new_fault before d.name) ∷ (body_uses top d.params d.cowns d.block ++ def_uses top (before ++ d.name ∷ []) ds)

-- what is declared at the top of a tree, where the first declaration of a name counts
abbrev pub first_declared : Tree → Top
first_declared t = record { cowns = globals 0 t.cowns; defs = defs_behind (globals 0 t.cowns) [] t.defs }

-- the names of the cowns of a tree
abbrev pub declared_cowns : Tree → List Named
declared_cowns t = map (λ c. c.name) t.cowns

-- every name of a tree: those of its cowns, of its defs, and of main's body
abbrev pub tree_uses : Tree → List Use
tree_uses t =
    cown_uses [] (declared_cowns t) ++ (def_uses (first_declared t) (declared_cowns t) t.defs ++ body_uses (first_declared t) [] [] t.main)
