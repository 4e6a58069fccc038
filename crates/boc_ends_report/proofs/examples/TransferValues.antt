-- The definition of the text of values tried on a program.
use Rattle.std.proofs.Common.{◌≡◌, [], ◌∷◌, ◌++◌, refl, codes, decimal, pos}
use Rattle.boc_ends_report.specs.ValueTexts.{values_text}
use Rattle.boc_program.proofs.examples.Transfer.{cowns}

pub lines : values_text cowns (pos 12 ∷ pos 4 ∷ []) ≡ (codes "a " ++ decimal 12 ++ codes "\n") ++ ((codes "b " ++ decimal 4 ++ codes "\n") ++ [])
lines = refl
