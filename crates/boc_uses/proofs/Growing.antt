-- Lists of one thing that grow at their end.
use Rattle.std.proofs.Common.{◌≡◌, ℕ, ◌+◌, ◌∷◌, [], ◌++◌, List, sym, ap, ◌∙◌, append_assoc}
use Rattle.std.specs.Prelude.{replicate}
use Rattle.std.proofs.lemmas.List.{replicate-append-replicate}

pub replicate_more : {A : Type 0} (n : ℕ) (x : A) → replicate n x ++ (x ∷ []) ≡ replicate (n + 1) x
replicate_more n x = replicate-append-replicate n 1 x

pub then_one_more : {A : Type 0} (xs : List A) (n : ℕ) (x : A) → (xs ++ replicate n x) ++ (x ∷ []) ≡ xs ++ replicate (n + 1) x
then_one_more xs n x = append_assoc xs (replicate n x) (x ∷ []) ∙ ap (λ r. xs ++ r) (replicate_more n x)
