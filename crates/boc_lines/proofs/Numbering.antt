-- The numbers of bodies and of their statements.
use Rattle.std.proofs.Common.{◌≡◌, ℕ, zero, suc, ◌+◌, ◌*◌, ◌≤◌, List, [], ◌∷◌, refl, sym, ap, ◌∙◌, subst, arith, add-zero, length, Some}
use Rattle.std.specs.Prelude.{slice_get}
use Rattle.boc_program.specs.declared.body.Body.{Body}
use Rattle.boc_program.specs.declared.body.Stmt.{Stmt}
use Rattle.boc_program.specs.declared.body.Stmt.TheVariants as stmt
use Rattle.boc_program.specs.Syntax.{Code, Done, Assign, Work, If, Repeat, When, code_size}
use Rattle.boc_program.specs.Resolved.{nodes}
use Rattle.boc_program.specs.memory.View.{before}
use Rattle.boc_program.specs.Meaning.{State}
use Rattle.boc_lines.specs.Charges.{After, charged}
use Rattle.boc_lines.specs.Numbers.{starts_from}
use Rattle.boc_lines.specs.Replays.{start_of, numbers}

-- each statement is a node
pub size_within : (c : Code) → code_size c ≤ nodes c
size_within Done = omega arith
size_within (Assign slot e rest) = omega (arith, size_within rest)
size_within (Work e rest) = omega (arith, size_within rest)
size_within (If e a b rest) = omega (arith, size_within a, size_within b, size_within rest)
size_within (Repeat e a rest) = omega (arith, size_within a, size_within rest)
size_within (When kind args refs rest) = omega (arith, size_within rest)

pub if_shift : (k a b : ℕ) → k + 1 + a + b ≡ k + (a + b + 0 + 1)
if_shift k a b = omega arith

pub repeat_shift : (k a : ℕ) → k + 1 + a ≡ k + (a + 0 + 1)
repeat_shift k a = omega arith

-- what a statement is charged, and then what follows it
pub charged_before : (s : Stmt) (rest : Code) (k : ℕ) (at : State) (after : After)
    → charged (before s rest) k at after ≡ charged (before s Done) k at (λ at. charged rest (k + code_size (before s Done)) at after)
charged_before (stmt.Assign slot e) rest k at after = refl
charged_before (stmt.Work e) rest k at after = refl
charged_before (stmt.If e a b) rest k at after =
    ap (λ n. charged (before (stmt.If e a b) Done) k at (λ at. charged rest n at after)) (if_shift k (code_size a) (code_size b))
charged_before (stmt.Repeat e a) rest k at after =
    ap (λ n. charged (before (stmt.Repeat e a) Done) k at (λ at. charged rest n at after)) (repeat_shift k (code_size a))
charged_before (stmt.When kind args refs) rest k at after = refl

next_shift : (k size start : ℕ) → (k + 1 + size) + start ≡ k + (1 + size + start)
next_shift k size start = omega arith

-- the place of a body's start among all
pub start_is : (k : ℕ) (bodies : List Body) (kind : ℕ) (body : Body) → slice_get bodies kind ≡ Some body
    → slice_get (starts_from k bodies) kind ≡ Some (k + start_of bodies kind)
start_is k [] kind body is = absurd cc
start_is k (b ∷ bodies) zero body is = ap (λ n. Some n) (sym (add-zero k))
start_is k (b ∷ bodies) (suc kind) body is =
    start_is (k + 1 + code_size b.block) bodies kind body is ∙ ap (λ n. Some n) (next_shift k (code_size b.block) (start_of bodies kind))

-- its numbers are among all
pub start_within : (bodies : List Body) (kind : ℕ) (body : Body) → slice_get bodies kind ≡ Some body
    → start_of bodies kind + 1 + code_size body.block ≤ numbers bodies
start_within [] kind body is = absurd cc
start_within (b ∷ bodies) zero body is =
    let same : b ≡ body = cc in
    subst (λ (x : Body). 0 + 1 + code_size x.block ≤ 1 + code_size b.block + numbers bodies) same (omega arith)
start_within (b ∷ bodies) (suc kind) body is = omega (arith, start_within bodies kind body is)

-- there are few: a body has at most 1,000 statements
pub numbers_few : (bodies : List Body) → numbers bodies ≤ 1001 * length bodies
numbers_few [] = omega arith
numbers_few (b ∷ bodies) = omega (arith, numbers_few bodies, size_within b.block, b.few_nodes)
