-- The blocks in a block are smaller than it.
use Rattle.std.specs.Prelude.{◌≤◌, max, List, [], ◌∷◌}
use Rattle.std.proofs.Common.{arith}
use denote.Param.Weighed.{most}
use Rattle.boc_program.specs.declared.body.Block.TheDeep.{deep-Stmt}
use Rattle.boc_program.specs.declared.body.Stmt.{Stmt}
use Rattle.boc_program.specs.declared.body.Stmt.TheVariants.{Assign, Work, If, Repeat, When}
use Rattle.boc_program.specs.Syntax.{code_size}
use Rattle.boc_program.specs.memory.View.{code_of}

blocks_fall : (stmts : List Stmt) → most deep-Stmt stmts ≤ code_size (code_of stmts)
blocks_fall [] = omega arith
blocks_fall (Assign slot e ∷ rest) = omega (arith, blocks_fall rest)
blocks_fall (Work e ∷ rest) = omega (arith, blocks_fall rest)
blocks_fall (If e a b ∷ rest) = omega (arith, blocks_fall rest)
blocks_fall (Repeat e a ∷ rest) = omega (arith, blocks_fall rest)
blocks_fall (When kind args refs ∷ rest) = omega (arith, blocks_fall rest)

pub size_falls : (stmts : List Stmt) → max (most deep-Stmt stmts) 0 ≤ code_size (code_of stmts)
size_falls stmts = omega (arith, blocks_fall stmts)
