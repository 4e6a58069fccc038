-- Statement after statement, with the names in scope.
use Rattle.std.proofs.Common.{◌≡◌, ℕ, zero, suc, ◌+◌, ◌≤◌, ◌<◌, List, [], ◌∷◌, ◌++◌, length, take, drop, get_or, Option, Some, None, refl, sym, ap, ◌∙◌, arith}
use Rattle.std.proofs.Common.{add-one, drop-cons}
use Rattle.std.proofs.lemmas.List.{take-take, length-take, drop_all}
use Rattle.std.specs.Option.{option_map, option_and_then}
use Rattle.boc_reader.specs.declared.shape.Stmt.{Stmt as Stmt'}
use Rattle.boc_reader.specs.Shape.{done, next, stmt_nodes, block_nodes}
use Rattle.boc_reader.specs.Views.{stmt_of, block_of}
use Rattle.boc_program.specs.declared.body.Stmt.{Stmt}
use Rattle.boc_program.specs.declared.body.Stmt.TheVariants as stmts
use Rattle.boc_program.specs.Syntax.{Code, Done}
use Rattle.boc_program.specs.memory.View.{before, code_of}
use Rattle.boc_reader.specs.Names.{Named, Outside, then_code, stmt_names, block_names}
use Rattle.boc_reader.specs.Resolving.{resolved_stmt_of}

abbrev pub code_onto : List Stmt → Code → Code
code_onto [] c = c
code_onto (s ∷ ss) c = before s (code_onto ss c)

-- the statements so far, before others
abbrev pub with_code : List Stmt → Option Code → Option Code
with_code front None = None
with_code front (Some c) = Some (code_onto front c)

then_before : (s : Stmt) (c : Code) → then_code (resolved_stmt_of s) c ≡ before s c
then_before (stmts.Assign slot e) c = refl
then_before _ c = refl

onto_more : (ss : List Stmt) (s : Stmt) (c : Code) → code_onto (ss ++ s ∷ []) c ≡ code_onto ss (then_code (resolved_stmt_of s) c)
onto_more [] s c = sym (then_before s c)
onto_more (x ∷ xs) s c = ap (before x) (onto_more xs s c)

with_more : (front : List Stmt) (s : Stmt) (r : Option Code) → with_code front (option_map (then_code (resolved_stmt_of s)) r) ≡ with_code (front ++ s ∷ []) r
with_more front s None = refl
with_more front s (Some c) = ap Some (sym (onto_more front s c))

onto_done : (ss : List Stmt) → code_onto ss Done ≡ code_of ss
onto_done [] = refl
onto_done (s ∷ ss) = ap (before s) (onto_done ss)

block_at : (b : List Stmt') (i : ℕ) (s : Stmt') → i < length b → s ≡ get_or b i s → block_of (drop i b) ≡ next (stmt_of s) (block_of (drop (i + 1) b))
block_at b i s h e = rw (add-one, drop-cons b i s h) (ap (λ x. next (stmt_of x) (block_of (drop (suc i) b))) (sym e))

-- a statement of a block has no more nodes than the block
pub nodes_of_one : (b : List Stmt') (i : ℕ) (s : Stmt') → i < length b → s ≡ get_or b i s → stmt_nodes (stmt_of s) ≤ block_nodes (block_of b)
nodes_of_one [] i s h e = absurd (omega (arith, h))
nodes_of_one (x ∷ xs) zero s h e = omega (arith, ap (λ y. stmt_nodes (stmt_of y)) e)
nodes_of_one (x ∷ xs) (suc i) s h e = omega (arith, nodes_of_one xs i s (omega (arith, h)) e)

pub goes_on : (b : List Stmt') (i : ℕ) (s : Stmt') (front all : List Stmt) (x : Stmt) (outside : Outside) (scope scope' : List Named) (whole : Option Code)
    → i < length b → s ≡ get_or b i s → stmt_names (stmt_of s) outside scope ≡ Some (resolved_stmt_of x, scope') → all ≡ front ++ x ∷ []
    → whole ≡ with_code front (block_names (block_of (drop i b)) outside scope) → whole ≡ with_code all (block_names (block_of (drop (i + 1) b)) outside scope')
goes_on b i s front all x outside scope scope' whole h e found more so_far =
    so_far ∙ ap (λ c. with_code front (block_names c outside scope)) (block_at b i s h e)
    ∙ ap (λ o. with_code front (option_and_then (λ y. option_map (then_code y.0) (block_names (block_of (drop (i + 1) b)) outside y.1)) o)) found
    ∙ with_more front x (block_names (block_of (drop (i + 1) b)) outside scope')
    ∙ ap (λ xs. with_code xs (block_names (block_of (drop (i + 1) b)) outside scope')) (sym more)

pub ends : (front : List Stmt) (outside : Outside) (scope : List Named) → with_code front (block_names done outside scope) ≡ Some (code_of front)
ends front outside scope = ap Some (onto_done front)

pub at_end : (b : List Stmt') (i : ℕ) (front : List Stmt) (outside : Outside) (scope : List Named) (whole : Option Code) → length b ≤ i
    → whole ≡ with_code front (block_names (block_of (drop i b)) outside scope) → whole ≡ Some (code_of front)
at_end b i front outside scope whole h so_far =
    so_far ∙ ap (λ xs. with_code front (block_names (block_of xs) outside scope)) (drop_all i b h) ∙ ends front outside scope

-- what stood in the outer scope stays in front
pub stays_outer : {X : Type 0} (old mid new : List X) → take (length old) mid ≡ old → take (length mid) new ≡ mid → take (length old) new ≡ old
stays_outer old mid new e f =
    let n = ap length e ∙ refl in
    let k : length old ≤ length mid = omega (arith, length-take (length old) mid, ap length e) in
    sym (take-take (length old) (length mid) new k) ∙ ap (take (length old)) f ∙ e
