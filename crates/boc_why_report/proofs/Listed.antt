-- The shares that are told.
use Rattle.std.proofs.Common.{◌≡◌, ◌<◌, ℕ, List, All, length, take, get_or, subst, sym}
use Rattle.std.proofs.lemmas.List.Elements.{All-get_or, All-take}
use Rattle.boc_why.specs.declared.shares.Share.{Share}
use Rattle.boc_why_report.specs.declared.lists.TheConstants.{MOST_LISTED}

-- the key of a share that is told is below the bound of all keys
pub told_below : (shares told : List Share) (bound i : ℕ) (none : Share) → All (λ s. s.key < bound) shares → told ≡ take MOST_LISTED shares
    → i < length told → (get_or told i none).key < bound
told_below shares told bound i none below is there =
    All-get_or (λ s. s.key < bound) told i none there
    (subst (All (λ s. s.key < bound)) (sym is) (All-take (λ s. s.key < bound) MOST_LISTED shares below))
