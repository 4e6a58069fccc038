-- A block seen as what it says.
use Rattle.std.specs.Prelude.{List, [], ◌∷◌, map}
use Rattle.boc_program.specs.declared.body.Expr.{Expr}
use Rattle.boc_program.specs.declared.body.Expr.TheVariants as expr
use Rattle.boc_program.specs.declared.body.CownRef.{CownRef}
use Rattle.boc_program.specs.declared.body.CownRef.TheVariants as ref
use Rattle.boc_program.specs.declared.body.Stmt.{Stmt}
use Rattle.boc_program.specs.declared.body.Stmt.TheVariants as stmt
use Rattle.boc_program.specs.Syntax as the

-- the expression that is stored
abbrev pub slot_expr_of : Expr → the.SlotExpr
slot_expr_of (expr.Number z) = the.Number z
slot_expr_of (expr.Slot i) = the.Slot i
slot_expr_of (expr.Negate' p e) = the.Negate (slot_expr_of e)
slot_expr_of (expr.Binary' op p a q b) = the.Binary op (slot_expr_of a) (slot_expr_of b)

-- the cown that is named
abbrev pub cown_ref_of : CownRef → the.CownRef
cown_ref_of (ref.Held i) = the.Held i
cown_ref_of (ref.Single cown) = the.Single cown
cown_ref_of (ref.Member first size index) = the.Member first size (slot_expr_of index)

-- a statement, and then the rest
abbrev pub before : Stmt → the.Code → the.Code
before (stmt.Assign slot e) rest = the.Assign slot (slot_expr_of e) rest
before (stmt.Work e) rest = the.Work (slot_expr_of e) rest
before (stmt.If e a b) rest = the.If (slot_expr_of e) a b rest
before (stmt.Repeat e a) rest = the.Repeat (slot_expr_of e) a rest
before (stmt.When kind args refs) rest = the.When kind (map slot_expr_of args.items) (map cown_ref_of refs.items) rest

-- the statements that are stored, one after another
abbrev pub code_of : List Stmt → the.Code
code_of [] = the.Done
code_of (s ∷ rest) = before s (code_of rest)
