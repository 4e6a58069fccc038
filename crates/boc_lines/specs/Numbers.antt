-- The numbers of the starts of bodies.
use Rattle.std.specs.Prelude.{ℕ, ◌+◌, List, [], ◌∷◌}
use Rattle.boc_program.specs.declared.body.Body.{Body}
use Rattle.boc_program.specs.Syntax.{code_size}

-- of bodies, of which the first has the number k
abbrev pub starts_from : ℕ → List Body → List ℕ
starts_from k [] = []
starts_from k (b ∷ bodies) = k ∷ starts_from (k + 1 + code_size b.block) bodies
