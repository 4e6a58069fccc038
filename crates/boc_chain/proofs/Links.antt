-- What links spell is what is read back from the end.
use Rattle.std.proofs.Common.{◌≡◌, ℕ, zero, suc, ◌+◌, List, [], ◌∷◌, ◌++◌, length, refl, sym, ◌∙◌, ap, append_assoc, arith}
use Rattle.std.proofs.lemmas.List.{append-nil}
use Rattle.std.specs.Prelude.{Option, Some, None}
use Rattle.boc_chain.specs.declared.request.Request.{Request}
use Rattle.boc_chain.specs.Links.{Tie, Spells, end_of, walk, request, before_of}

back : (link : ℕ → ℕ → Option Tie) (c : ℕ) (before : Option ℕ) (xs : List Request) (fuel : ℕ) → Spells link c before xs
    → walk link c (length xs + fuel) (end_of before xs) ≡ walk link c fuel before ++ xs
back link c before [] fuel s = ap (λ n. walk link c n before) (omega arith) ∙ sym (append-nil (walk link c fuel before))
back link c before (r ∷ rest) fuel s =
    ap (λ n. walk link c n (end_of (Some r.slot) rest)) (omega arith)
    ∙ back link c (Some r.slot) rest (suc fuel) s.1
    ∙ ap (λ o. (walk link c fuel (before_of o) ++ (request r.slot o ∷ [])) ++ rest) s.0
    ∙ append_assoc (walk link c fuel before) (r ∷ []) rest

nothing_behind : (link : ℕ → ℕ → Option Tie) (c fuel : ℕ) → walk link c fuel None ≡ []
nothing_behind link c zero = refl
nothing_behind link c (suc fuel) = refl

-- with fuel for its length, the walk gives the list
pub walk_spells : (link : ℕ → ℕ → Option Tie) (c : ℕ) (xs : List Request) (fuel : ℕ) → Spells link c None xs
    → walk link c (length xs + fuel) (end_of None xs) ≡ xs
walk_spells link c xs fuel s = back link c None xs fuel s ∙ ap (λ q. q ++ xs) (nothing_behind link c fuel)
