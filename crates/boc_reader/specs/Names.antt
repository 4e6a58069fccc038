-- What the names of a program text stand for.
use Rattle.std.specs.Prelude.{ℕ, suc, ◌+◌, max, nat_eq, Bool, true, false, ◌||◌, ◌&&◌, not, if◌then◌else◌, List, [], ◌∷◌, ◌++◌, length, map, is_some, Option}
use Rattle.std.specs.Prelude.{Some, None, position, find, ℤ, pos, neg_ℤ}
use Rattle.std.specs.List.{list_any}
use Rattle.std.specs.Option.{option_map, option_and_then}
use Rattle.std.specs.Str.{bytes_eq}
use Rattle.boc_program.specs.declared.body.Operator.{Operator}
use Rattle.boc_program.specs.declared.body.Operator.TheVariants as operators
use Rattle.boc_reader.specs.declared.level.Comparison.{Comparison}
use Rattle.boc_reader.specs.declared.level.Comparison.TheVariants as comparisons
use Rattle.boc_reader.specs.declared.level.SumOperator.{SumOperator}
use Rattle.boc_reader.specs.declared.level.SumOperator.TheVariants as sums
use Rattle.boc_reader.specs.declared.level.TermOperator.{TermOperator}
use Rattle.boc_reader.specs.declared.level.TermOperator.TheVariants as terms
use Rattle.boc_program.specs.Syntax as resolved
use Rattle.boc_program.specs.Sizes.{members}
use Rattle.boc_reader.specs.Shape.{Expr, plain, compared, Sum, one_term, more_terms, Term, one_factor, more_factors, Unary, negated, unsigned, Atom, literal}
use Rattle.boc_reader.specs.Shape.{variable, parens, NamedCown, alone, member, Stmt, declare, assign, work, if_only, if_else, repeat, when, Block, done, next}
use Rattle.boc_reader.specs.Shape.{Cown, Def, Tree}

-- a name, by its bytes
abbrev pub Named : Type 0
Named = List ℕ

-- a name is one of several
abbrev pub among : List Named → Named → Bool
among names x = list_any (λ y. bytes_eq y x) names

-- a cown, or an array of cowns, that is declared at the top: the number of its first cown, and its size where it is an array
pub record Global : Type 0 where
  pub name : Named
  pub first : ℕ
  pub size : Option ℕ

-- a def: how many arguments and cowns it takes
pub record Callee : Type 0 where
  pub name : Named
  pub args : ℕ
  pub cowns : ℕ

-- what is declared at the top of the whole text
pub record Top : Type 0 where
  pub cowns : List Global
  pub defs : List Callee

-- the names declared at the top, in the order of the text
abbrev pub top_names : Top → List Named
top_names top = map (λ g. g.name) top.cowns ++ map (λ d. d.name) top.defs

-- what a body sees beside the names in scope: the top, and its cown parameters
pub record Outside : Type 0 where
  pub top : Top
  pub held : List Named

-- The names in scope are listed in the order of their slots: value parameters, cown parameters, locals.
abbrev pub slot_of : List Named → Named → Option ℕ
slot_of scope x = position (λ y. bytes_eq y x) scope

-- the operator of a comparison
abbrev pub compares : Comparison → Operator
compares comparisons.Equal = operators.Equal
compares comparisons.NotEqual = operators.NotEqual
compares comparisons.Less = operators.Less
compares comparisons.AtMost = operators.AtMost
compares comparisons.Greater = operators.Greater
compares comparisons.AtLeast = operators.AtLeast

-- the operator between two terms
abbrev pub adds : SumOperator → Operator
adds sums.Add = operators.Add
adds sums.Subtract = operators.Subtract

-- the operator between two factors
abbrev pub multiplies : TermOperator → Operator
multiplies terms.Multiply = operators.Multiply
multiplies terms.Divide = operators.Divide
multiplies terms.Remainder = operators.Remainder

-- what stands to the left of an operand: nothing, or an operand and an operator
abbrev pub Left : Type 0
Left = Option (resolved.SlotExpr × Operator)

-- an operand, after what stands to its left
abbrev pub joined : Left → resolved.SlotExpr → resolved.SlotExpr
joined None e = e
joined (Some l) e = resolved.Binary l.1 l.0 e

-- An expression whose names are slots, where each is in scope. Sums and terms associate to the left.
abbrev mutual
  pub expr_names : Expr → List Named → Option resolved.SlotExpr
  expr_names (plain s) scope = sum_names s scope None
  expr_names (compared s op t) scope =
      option_and_then (λ a. option_map (resolved.Binary (compares op) a) (sum_names t scope None)) (sum_names s scope None)

  pub sum_names : Sum → List Named → Left → Option resolved.SlotExpr
  sum_names (one_term t) scope left = option_map (joined left) (term_names t scope None)
  sum_names (more_terms t op s) scope left =
      option_and_then (λ e. sum_names s scope (Some (joined left e, adds op))) (term_names t scope None)

  pub term_names : Term → List Named → Left → Option resolved.SlotExpr
  term_names (one_factor u) scope left = option_map (joined left) (unary_names u scope)
  term_names (more_factors u op t) scope left =
      option_and_then (λ e. term_names t scope (Some (joined left e, multiplies op))) (unary_names u scope)

  pub unary_names : Unary → List Named → Option resolved.SlotExpr
  unary_names (negated u) scope = option_map resolved.Negate (unary_names u scope)
  unary_names (unsigned a) scope = atom_names a scope

  pub atom_names : Atom → List Named → Option resolved.SlotExpr
  atom_names (literal n) scope = Some (resolved.Number (pos n))
  atom_names (variable x) scope = option_map resolved.Slot (slot_of scope x)
  atom_names (parens e) scope = expr_names e scope

-- each of several, in their order
abbrev pub all_names : {X Y : Type 0} → (X → Option Y) → List X → Option (List Y)
all_names names [] = Some []
all_names names (x ∷ xs) = option_and_then (λ y. option_map (λ ys. y ∷ ys) (all_names names xs)) (names x)

-- a single cown
abbrev pub single : Option Global → Option resolved.CownRef
single None = None
single (Some g) = if is_some g.size then None else Some (resolved.Single g.first)

-- a member of an array
abbrev pub member_of : Option Global → resolved.SlotExpr → Option resolved.CownRef
member_of None e = None
member_of (Some g) e = option_map (λ n. resolved.Member g.first n e) g.size

-- the cown or array of a name, where one is declared
abbrev pub global : Top → Named → Option Global
global top x = find (λ g. bytes_eq g.name x) top.cowns

-- a cown parameter by its place, or a single cown
abbrev pub held_or_single : Option ℕ → Option Global → Option resolved.CownRef
held_or_single (Some i) g = Some (resolved.Held i)
held_or_single None g = single g

-- the cown that a reference stands for
abbrev pub ref_names : Outside → List Named → NamedCown → Option resolved.CownRef
ref_names outside scope (alone x) = held_or_single (slot_of outside.held x) (global outside.top x)
ref_names outside scope (member x e) = option_and_then (member_of (global outside.top x)) (expr_names e scope)

-- a statement whose names are resolved, apart from those that follow it
pub data ResolvedStmt : Type 0 where
  Set : ℕ → resolved.SlotExpr → ResolvedStmt
  Spend : resolved.SlotExpr → ResolvedStmt
  Choose : resolved.SlotExpr → resolved.Code → resolved.Code → ResolvedStmt
  Loop : resolved.SlotExpr → resolved.Code → ResolvedStmt
  Spawn : ℕ → List resolved.SlotExpr → List resolved.CownRef → ResolvedStmt

-- a statement, and then those that follow it
abbrev pub then_code : ResolvedStmt → resolved.Code → resolved.Code
then_code (Set slot e) rest = resolved.Assign slot e rest
then_code (Spend e) rest = resolved.Work e rest
then_code (Choose e a b) rest = resolved.If e a b rest
then_code (Loop e a) rest = resolved.Repeat e a rest
then_code (Spawn kind args refs) rest = resolved.When kind args refs rest

-- the kind of a def: main's is 0, and that of the defs their place in the text, from 1
abbrev pub kind_of : Top → Named → Option ℕ
kind_of top f = option_map suc (position (λ d. bytes_eq d.name f) top.defs)

-- the def takes so many arguments and cowns
abbrev pub takes : Option Callee → ℕ → ℕ → Bool
takes None args cowns = false
takes (Some d) args cowns = nat_eq d.args args && nat_eq d.cowns cowns

-- the def of a name, where one is declared
abbrev pub callee : Top → Named → Option Callee
callee top f = find (λ d. bytes_eq d.name f) top.defs

-- a `when`, where it gives the def as many arguments and cowns as it takes
abbrev pub call_names : Outside → List Named → Named → List Expr → List NamedCown → Option ResolvedStmt
call_names outside scope f es rs =
    if takes (callee outside.top f) (length es) (length rs)
    then option_and_then (λ kind. option_and_then (λ args. option_map (Spawn kind args) (all_names (ref_names outside scope) rs))
    (all_names (λ e. expr_names e scope) es)) (kind_of outside.top f)
    else None

-- a name that may be declared: none at the top, and none in scope
abbrev pub is_free : Top → List Named → Named → Bool
is_free top scope x = not (among (top_names top) x || among scope x)

-- A statement, with the names in scope behind it. A `let` takes the next slot, once its expression is resolved.
abbrev mutual
  pub stmt_names : Stmt → Outside → List Named → Option (ResolvedStmt × List Named)
  stmt_names (declare x e) outside scope =
      if is_free outside.top scope x then option_map (λ v. (Set (length scope) v, scope ++ x ∷ [])) (expr_names e scope) else None
  stmt_names (assign x e) outside scope =
      option_and_then (λ slot. option_map (λ v. (Set slot v, scope)) (expr_names e scope)) (slot_of scope x)
  stmt_names (work e) outside scope = option_map (λ v. (Spend v, scope)) (expr_names e scope)
  stmt_names (if_only e b) outside scope =
      option_and_then (λ v. option_map (λ a. (Choose v a resolved.Done, scope)) (block_names b outside scope)) (expr_names e scope)
  stmt_names (if_else e b c) outside scope =
      option_and_then (λ v. option_and_then (λ a. option_map (λ o. (Choose v a o, scope)) (block_names c outside scope)) (block_names b outside scope))
      (expr_names e scope)
  stmt_names (repeat e b) outside scope =
      option_and_then (λ v. option_map (λ a. (Loop v a, scope)) (block_names b outside scope)) (expr_names e scope)
  stmt_names (when f es rs) outside scope = option_map (λ s. (s, scope)) (call_names outside scope f es rs)

  -- the names that a block declares are free again after it
  pub block_names : Block → Outside → List Named → Option resolved.Code
  block_names done outside scope = Some resolved.Done
  block_names (next s b) outside scope =
      option_and_then (λ x. option_map (then_code x.0) (block_names b outside x.1)) (stmt_names s outside scope)

-- one slot more than the greatest that a block writes, and n at the least
abbrev pub deepest : ℕ → resolved.Code → ℕ
deepest n resolved.Done = n
deepest n (resolved.Assign slot e rest) = max (suc slot) (deepest n rest)
deepest n (resolved.Work e rest) = deepest n rest
deepest n (resolved.If e a b rest) = max (deepest n a) (max (deepest n b) (deepest n rest))
deepest n (resolved.Repeat e a rest) = max (deepest n a) (deepest n rest)
deepest n (resolved.When kind args refs rest) = deepest n rest

-- a body, a cown and a program apart from the facts that their types keep
pub record PlainBody : Type 0 where
  pub params : ℕ
  pub cown_params : ℕ
  pub slots : ℕ
  pub code : resolved.Code

-- the same of a cown: its name, its size where it is an array, and its initial value
pub record PlainCown : Type 0 where
  pub name : Named
  pub size : Option ℕ
  pub initial : ℤ

-- the same of a program: its cowns, and its bodies with main's first
pub record PlainProgram : Type 0 where
  pub cowns : List PlainCown
  pub bodies : List PlainBody

-- names declared one after the other, each free where it is declared
abbrev pub are_free : Top → List Named → List Named → Bool
are_free top scope [] = true
are_free top scope (x ∷ xs) = is_free top scope x && are_free top (scope ++ x ∷ []) xs

-- a body with these parameters
abbrev pub body_names : Top → List Named → List Named → Block → Option PlainBody
body_names top params held block =
    if are_free top [] (params ++ held)
    then option_map (λ code. let b : PlainBody = record {
      params = length params;
      cown_params = length held;
      slots = deepest (length (params ++ held)) code;
      code = code;
    } in b)
    (block_names block (record { top = top; held = held }) (params ++ held))
    else None

-- the cowns of these declarations, numbered from n on
abbrev pub globals : ℕ → List Cown → List Global
globals n [] = []
globals n (c ∷ cs) = (record { name = c.name; first = n; size = c.size }) ∷ globals (n + members c.size) cs

-- the defs of these declarations
abbrev pub callees : List Def → List Callee
callees ds = map (λ d. let c : Callee = record { name = d.name; args = length d.params; cowns = length d.cowns } in c) ds

-- what a tree declares at the top
abbrev pub top_of : Tree → Top
top_of t = record { cowns = globals 0 t.cowns; defs = callees t.defs }

-- no name occurs twice
abbrev pub are_distinct : List Named → Bool
are_distinct [] = true
are_distinct (x ∷ xs) = not (among xs x) && are_distinct xs

-- the number after its minus, or without one
abbrev pub initial_value : Cown → ℤ
initial_value c = if c.negative then neg_ℤ (pos c.value) else pos c.value

-- the cown of a declaration
abbrev pub plain_cown : Cown → PlainCown
plain_cown c = record { name = c.name; size = c.size; initial = initial_value c }

-- the program of a tree, where every name is declared once and used as what it is
abbrev pub tree_names : Tree → Option PlainProgram
tree_names t =
    if are_distinct (top_names (top_of t))
    then option_and_then (λ main. option_map (λ defs. let p : PlainProgram = record { cowns = map plain_cown t.cowns; bodies = main ∷ defs } in p)
    (all_names (λ d. body_names (top_of t) d.params d.cowns d.block) t.defs))
    (body_names (top_of t) [] [] t.main)
    else None
