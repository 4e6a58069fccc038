-- What a body says, with every name resolved.
use Rattle.std.specs.Prelude.{ℕ, ◌+◌, List, ℤ}
use Rattle.boc_program.specs.declared.body.Operator.{Operator}

-- an expression over a body's slots
pub data SlotExpr : Type 0 where
  Number : ℤ → SlotExpr
  Slot : ℕ → SlotExpr
  Negate : SlotExpr → SlotExpr
  Binary : Operator → SlotExpr → SlotExpr → SlotExpr

-- which cown a `when` names: one that the body holds, one by its number, or a member of an array by its first cown, its size and an index
pub data CownRef : Type 0 where
  Held : ℕ → CownRef
  Single : ℕ → CownRef
  Member : ℕ → ℕ → SlotExpr → CownRef

-- statements, one after another
pub data Code : Type 0 where
  Done : Code
  Assign : ℕ → SlotExpr → Code → Code
  Work : SlotExpr → Code → Code
  If : SlotExpr → Code → Code → Code → Code
  Repeat : SlotExpr → Code → Code → Code
  When : ℕ → List SlotExpr → List CownRef → Code → Code

-- a number larger than that of each block in it
abbrev pub code_size : Code → ℕ
code_size Done = 0
code_size (Assign slot e rest) = code_size rest + 1
code_size (Work e rest) = code_size rest + 1
code_size (If e a b rest) = code_size a + code_size b + code_size rest + 1
code_size (Repeat e a rest) = code_size a + code_size rest + 1
code_size (When kind args refs rest) = code_size rest + 1
