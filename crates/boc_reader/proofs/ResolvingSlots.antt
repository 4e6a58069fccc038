-- The deepest slot of statements.
use Rattle.std.proofs.Common.{◌≡◌, ℕ, ◌-◌, ◌≤◌, List, [], ◌∷◌, length, take, drop, get_or, sym, ap, ◌∙◌, arith}
use Rattle.std.proofs.lemmas.List.{take_rest}
use Rattle.std.specs.Prelude.{max}
use Rattle.boc_program.specs.declared.body.Expr.{Expr}
use Rattle.boc_program.specs.declared.body.Stmt.{Stmt}
use Rattle.boc_program.specs.declared.body.Stmt.TheVariants as stmts
use Rattle.boc_program.specs.Syntax.{Code, Done}
use Rattle.boc_program.specs.memory.View.{before, code_of}
use Rattle.boc_reader.specs.Names.{deepest}
use Rattle.boc_reader.proofs.ResolvingKeeps.{deepest-max}

pub deepest_before : (n : ℕ) (s : Stmt) (rest : Code) → deepest n (before s rest) ≡ max (deepest n (before s Done)) (deepest n rest)
deepest_before n (stmts.If e a b) rest = omega (arith, deepest-max n rest, deepest-max n a, deepest-max n b)
deepest_before n (stmts.Repeat e a) rest = omega (arith, deepest-max n rest, deepest-max n a)
deepest_before n _ rest = omega (arith, deepest-max n rest)

pub slots_of_if : (n : ℕ) (s : Stmt) (e : Expr) (a b : Code) (x y r : ℕ) → s ≡ stmts.If e a b → x ≡ deepest n a → y ≡ deepest n b → r ≡ max x y
    → r ≡ deepest n (before s Done)
slots_of_if n s e a b x y r is f g h =
    let k : r ≡ deepest n (before (stmts.If e a b) Done) = omega (arith, deepest-max n a, deepest-max n b) in
    k ∙ ap (λ t. deepest n (before t Done)) (sym is)

pub slots_of_repeat : (n : ℕ) (s : Stmt) (e : Expr) (a : Code) (r : ℕ) → s ≡ stmts.Repeat e a → r ≡ deepest n a → r ≡ deepest n (before s Done)
slots_of_repeat n s e a r is f =
    let k : r ≡ deepest n (before (stmts.Repeat e a) Done) = omega (arith, deepest-max n a) in
    k ∙ ap (λ t. deepest n (before t Done)) (sym is)

pub slots_of_more : (n : ℕ) (ss : List Stmt) (s : Stmt) (x y r : ℕ) → 1 ≤ length ss → s ≡ get_or ss 0 s → x ≡ deepest n (before s Done)
    → y ≡ deepest n (code_of (take (length ss - 1) (drop 1 ss))) → r ≡ max x y → r ≡ deepest n (code_of ss)
slots_of_more n [] s x y r long is f g h = absurd (omega arith)
slots_of_more n (z ∷ zs) s x y r long is f g h =
    let first = f ∙ ap (λ t. deepest n (before t Done)) is in
    let others = g ∙ ap (λ l. deepest n (code_of l)) (take_rest (z ∷ zs) 1) in
    h ∙ ap (λ k. max k y) first ∙ ap (max (deepest n (before z Done))) others ∙ sym (deepest_before n z (code_of zs))
