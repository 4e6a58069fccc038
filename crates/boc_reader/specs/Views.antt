-- The tree in memory, as the tree that it stands for.
use Rattle.std.specs.Prelude.{ℕ, List, [], ◌∷◌, map}
use Rattle.boc_reader.specs.Shape as the
use Rattle.boc_reader.specs.declared.shape.Spot.{Spot}
use Rattle.boc_reader.specs.declared.shape.Expr as exprs
use Rattle.boc_reader.specs.declared.shape.Sum as sums
use Rattle.boc_reader.specs.declared.shape.Term as terms
use Rattle.boc_reader.specs.declared.shape.Unary as unaries
use Rattle.boc_reader.specs.declared.shape.Atom as atoms
use Rattle.boc_reader.specs.declared.shape.NamedCown.{NamedCown}
use Rattle.boc_reader.specs.declared.shape.NamedCown.TheVariants as refs
use Rattle.boc_reader.specs.declared.shape.Stmt.{Stmt}
use Rattle.boc_reader.specs.declared.shape.Stmt.TheOpen as layer
use Rattle.boc_reader.specs.declared.shape.Stmt.TheFolds.{fold-Stmt}
use Rattle.boc_reader.specs.declared.shape.CownShape.{CownShape}
use Rattle.boc_reader.specs.declared.shape.DefShape.{DefShape}
use Rattle.boc_reader.specs.declared.shape.Tree.{Tree}

-- a name without where it lies
abbrev pub name_of : Spot → List ℕ
name_of s = s.name.now

abbrev mutual
  pub expr_of : exprs.Expr → the.Expr
  expr_of (exprs.Plain' p s) = the.plain (sum_of s)
  expr_of (exprs.Compared' p s op q t) = the.compared (sum_of s) op (sum_of t)

  pub sum_of : sums.Sum → the.Sum
  sum_of (sums.One' p t) = the.one_term (term_of t)
  sum_of (sums.More' p t op q s) = the.more_terms (term_of t) op (sum_of s)

  pub term_of : terms.Term → the.Term
  term_of (terms.One u) = the.one_factor (unary_of u)
  term_of (terms.More' u op p t) = the.more_factors (unary_of u) op (term_of t)

  pub unary_of : unaries.Unary → the.Unary
  unary_of (unaries.Negated' p u) = the.negated (unary_of u)
  unary_of (unaries.Plain a) = the.unsigned (atom_of a)

  pub atom_of : atoms.Atom → the.Atom
  atom_of (atoms.Number n) = the.literal n.value
  atom_of (atoms.Name x) = the.variable x.name.now
  atom_of (atoms.Parens' p e) = the.parens (expr_of e)

-- a cown that a `when` names
abbrev pub named_cown_of : NamedCown → the.NamedCown
named_cown_of (refs.Alone x) = the.alone x.name.now
named_cown_of (refs.Member x e) = the.member x.name.now (expr_of e)

-- a block of these statements
abbrev pub block_from : List the.Stmt → the.Block
block_from [] = the.done
block_from (s ∷ ss) = the.next s (block_from ss)

-- one statement, with those inside of it seen already
abbrev pub stmt_layer : layer.Stmt-F the.Stmt → the.Stmt
stmt_layer (layer.Let x e) = the.declare x.name.now (expr_of e)
stmt_layer (layer.Assign x e) = the.assign x.name.now (expr_of e)
stmt_layer (layer.Work e) = the.work (expr_of e)
stmt_layer (layer.If e body) = the.if_only (expr_of e) (block_from body.items)
stmt_layer (layer.IfElse e body other) = the.if_else (expr_of e) (block_from body.items) (block_from other.items)
stmt_layer (layer.Repeat e body) = the.repeat (expr_of e) (block_from body.items)
stmt_layer (layer.When f es rs) = the.when f.name.now (map expr_of es.items) (map named_cown_of rs.items)

-- a statement with all that is inside of it
abbrev pub stmt_of : Stmt → the.Stmt
stmt_of = fold-Stmt the.Stmt stmt_layer

-- a block of statements that are stored
abbrev pub block_of : List Stmt → the.Block
block_of ss = block_from (map stmt_of ss)

-- a declaration of cowns
abbrev pub cown_of : CownShape → the.Cown
cown_of c = record { name = c.name.name.now; size = c.size; negative = c.negative; value = c.value.value }

-- a def
abbrev pub def_of : DefShape → the.Def
def_of d = record {
  name = d.name.name.now;
  params = map name_of d.params.items;
  cowns = map name_of d.cowns.items;
  block = block_of d.block.items;
}

-- a whole text
abbrev pub tree_of : Tree → the.Tree
tree_of t = record { cowns = map cown_of t.cowns.items; defs = map def_of t.defs.items; main = block_of t.main.items }
