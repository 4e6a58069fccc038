-- A statement and what follows it.
use Rattle.std.proofs.Common.{◌≡◌, ◌+◌, ◌≤◌, ◌++◌, arith, append_assoc, refl, length, false, true, Bool, map}
use Rattle.std.specs.Prelude.{◌&&◌, nat_lt, nat_le}
use Rattle.boc_program.specs.Resolved.{Scope, fits, nodes, expr_fits, ref_fits, every}
use Rattle.boc_program.specs.declared.body.Stmt.{Stmt}
use Rattle.boc_program.specs.declared.body.Stmt.TheVariants as stmt
use Rattle.boc_program.specs.Syntax.{Code, Done, code_size}
use Rattle.boc_program.specs.Signatures.{Test, whens_pass}
use Rattle.boc_program.specs.memory.View.{before, slot_expr_of, cown_ref_of}
use Rattle.boc_program.specs.memory.Cells.{cells_of, stmt_cells}

-- a statement and what follows it count together, in size and in nodes
then_counts : (s : Stmt) (rest : Code) → (code_size (before s rest) ≡ code_size (before s Done) + code_size rest)
    × (nodes (before s rest) ≡ nodes (before s Done) + nodes rest)
then_counts (stmt.Assign slot e) rest = (omega arith, omega arith)
then_counts (stmt.Work e) rest = (omega arith, omega arith)
then_counts (stmt.If e a b) rest = (omega arith, omega arith)
then_counts (stmt.Repeat e a) rest = (omega arith, omega arith)
then_counts (stmt.When kind args refs) rest = (omega arith, omega arith)

pub then_size : (s : Stmt) (rest : Code) → code_size (before s rest) ≡ code_size (before s Done) + code_size rest
then_size s rest = (then_counts s rest).0

pub then_positive : (s : Stmt) → 1 ≤ code_size (before s Done)
then_positive (stmt.Assign slot e) = omega arith
then_positive (stmt.Work e) = omega arith
then_positive (stmt.If e a b) = omega arith
then_positive (stmt.Repeat e a) = omega arith
then_positive (stmt.When kind args refs) = omega arith

pub nodes_before : (s : Stmt) (rest : Code) → nodes (before s rest) ≡ nodes (before s Done) + nodes rest
nodes_before s rest = (then_counts s rest).1

-- the cells of a statement stand before those of what follows
pub cells_before : (s : Stmt) (rest : Code) → cells_of (before s rest) ≡ stmt_cells s ++ cells_of rest
cells_before (stmt.Assign slot e) rest = refl
cells_before (stmt.Work e) rest = refl
cells_before (stmt.If e a b) rest = simp append_assoc refl
cells_before (stmt.Repeat e a) rest = simp append_assoc refl
cells_before (stmt.When kind args refs) rest = simp append_assoc refl

and_swap : (x r : Bool) → (x && r) ≡ ((x && true) && r)
and_swap true r = refl
and_swap false r = refl

pub fits_before : (scope : Scope) (s : Stmt) (rest : Code) → fits scope (before s rest) ≡ (fits scope (before s Done) && fits scope rest)
fits_before scope (stmt.Assign slot e) rest = and_swap (nat_lt slot scope.slots && expr_fits scope.slots (slot_expr_of e)) (fits scope rest)
fits_before scope (stmt.Work e) rest = and_swap (expr_fits scope.slots (slot_expr_of e)) (fits scope rest)
fits_before scope (stmt.If e a b) rest = and_swap (expr_fits scope.slots (slot_expr_of e) && (fits scope a && fits scope b)) (fits scope rest)
fits_before scope (stmt.Repeat e a) rest = and_swap (expr_fits scope.slots (slot_expr_of e) && fits scope a) (fits scope rest)
fits_before scope (stmt.When kind args refs) rest =
    and_swap ((nat_le (length (map slot_expr_of args.items)) 8 && nat_le (length (map cown_ref_of refs.items)) 8)
    && (every (map (expr_fits scope.slots) (map slot_expr_of args.items)) && every (map (ref_fits scope) (map cown_ref_of refs.items)))) (fits scope rest)

and_pair_swap : (a b r : Bool) → ((a && b) && r) ≡ (((a && b) && true) && r)
and_pair_swap a b r = and_swap (a && b) r

pub whens_before : (test : Test) (s : Stmt) (rest : Code) → whens_pass test (before s rest) ≡ (whens_pass test (before s Done) && whens_pass test rest)
whens_before test (stmt.Assign slot e) rest = refl
whens_before test (stmt.Work e) rest = refl
whens_before test (stmt.If e a b) rest = and_pair_swap (whens_pass test a) (whens_pass test b) (whens_pass test rest)
whens_before test (stmt.Repeat e a) rest = and_swap (whens_pass test a) (whens_pass test rest)
whens_before test (stmt.When kind args refs) rest = and_swap (test kind (map slot_expr_of args.items) (map cown_ref_of refs.items)) (whens_pass test rest)
