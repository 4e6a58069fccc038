-- What a body says, spelled as a list of numbers: two codes are the same where their cells are.
--
-- Each thing begins with a cell that tells what it is, its tag. A list ends with a 0, and so do statements:
-- all tags are above 0. So one can tell from the cells alone where a thing ends.
use Rattle.std.specs.Prelude.{ℕ, List, [], ◌∷◌, ◌++◌, map, ℤ, pos, negsuc, unsigned_abs}
use Rattle.boc_program.specs.declared.body.Operator.{Operator}
use Rattle.boc_program.specs.declared.body.Operator.TheVariants as op
use Rattle.boc_program.specs.declared.body.Stmt.{Stmt}
use Rattle.boc_program.specs.declared.body.Stmt.TheVariants as stmt
use Rattle.boc_program.specs.Syntax.{SlotExpr, Number, Slot, Negate, Binary, CownRef, Held, Single, Member, Code, Done, Assign, Work, If, Repeat, When}
use Rattle.boc_program.specs.memory.View.{slot_expr_of, cown_ref_of}

-- the tag of a number, which tells its sign
abbrev pub sign_cell : ℤ → ℕ
sign_cell (pos n) = 1
sign_cell (negsuc n) = 2

-- the tag of two operands with an operator between them
abbrev pub operator_cell : Operator → ℕ
operator_cell op.Add = 5
operator_cell op.Subtract = 6
operator_cell op.Multiply = 7
operator_cell op.Divide = 8
operator_cell op.Remainder = 9
operator_cell op.Equal = 10
operator_cell op.NotEqual = 11
operator_cell op.Less = 12
operator_cell op.AtMost = 13
operator_cell op.Greater = 14
operator_cell op.AtLeast = 15

-- the cells of an expression
abbrev pub expr_cells : SlotExpr → List ℕ
expr_cells (Number z) = sign_cell z ∷ unsigned_abs z ∷ []
expr_cells (Slot i) = 3 ∷ i ∷ []
expr_cells (Negate e) = 4 ∷ expr_cells e
expr_cells (Binary o a b) = operator_cell o ∷ (expr_cells a ++ expr_cells b)

-- the cells of expressions, one after another
abbrev pub exprs_cells : List SlotExpr → List ℕ
exprs_cells [] = 0 ∷ []
exprs_cells (e ∷ es) = expr_cells e ++ exprs_cells es

-- the cells of a reference to a cown
abbrev pub ref_cells : CownRef → List ℕ
ref_cells (Held i) = 1 ∷ i ∷ []
ref_cells (Single cown) = 2 ∷ cown ∷ []
ref_cells (Member first size index) = 3 ∷ first ∷ size ∷ expr_cells index

-- the cells of references, one after another
abbrev pub refs_cells : List CownRef → List ℕ
refs_cells [] = 0 ∷ []
refs_cells (r ∷ rs) = ref_cells r ++ refs_cells rs

-- the cells of statements, one after another
abbrev pub cells_of : Code → List ℕ
cells_of Done = 0 ∷ []
cells_of (Assign slot e rest) = 1 ∷ slot ∷ (expr_cells e ++ cells_of rest)
cells_of (Work e rest) = 2 ∷ (expr_cells e ++ cells_of rest)
cells_of (If e a b rest) = 3 ∷ (expr_cells e ++ (cells_of a ++ (cells_of b ++ cells_of rest)))
cells_of (Repeat e a rest) = 4 ∷ (expr_cells e ++ (cells_of a ++ cells_of rest))
cells_of (When kind args refs rest) = 5 ∷ kind ∷ (exprs_cells args ++ (refs_cells refs ++ cells_of rest))

-- the cells of a statement that is stored, with nothing behind it
abbrev pub stmt_cells : Stmt → List ℕ
stmt_cells (stmt.Assign slot e) = 1 ∷ slot ∷ expr_cells (slot_expr_of e)
stmt_cells (stmt.Work e) = 2 ∷ expr_cells (slot_expr_of e)
stmt_cells (stmt.If e a b) = 3 ∷ (expr_cells (slot_expr_of e) ++ (cells_of a ++ cells_of b))
stmt_cells (stmt.Repeat e a) = 4 ∷ (expr_cells (slot_expr_of e) ++ cells_of a)
stmt_cells (stmt.When kind args refs) = 5 ∷ kind ∷ (exprs_cells (map slot_expr_of args.items) ++ refs_cells (map cown_ref_of refs.items))
