-- How links spell the lists: each request knows the slot before it, and the one after it once that is settled.
use Rattle.std.specs.Prelude.{◌≡◌, ℕ, zero, suc, Bool, false, List, [], ◌∷◌, ◌++◌, if◌then◌else◌, Option, Some, None}
use Rattle.boc_chain.specs.declared.request.Request.{Request}

-- what a link says, by slots alone
pub record Tie : Type 0 where
  pub settled : Bool
  pub scheduled : Bool
  pub before : Option ℕ
  pub next : Option ℕ

-- the slot that follows, exactly where it is settled
abbrev pub next_of : List Request → Option ℕ
next_of [] = None
next_of (r ∷ rest) = if r.settled then Some r.slot else None

-- the links of cown c spell this list, of which the first stands behind `before`
abbrev pub Spells : (ℕ → ℕ → Option Tie) → ℕ → Option ℕ → List Request → Type 0
Spells link c before [] = Unit {0}
Spells link c before (r ∷ rest) =
    (link r.slot c ≡ Some (record { settled = r.settled; scheduled = r.flagged; before = before; next = next_of rest }))
    × Spells link c (Some r.slot) rest

-- the slot at the end
abbrev pub end_of : Option ℕ → List Request → Option ℕ
end_of before [] = before
end_of before (r ∷ rest) = end_of (Some r.slot) rest

-- the request that a link stands for
abbrev pub request : ℕ → Option Tie → Request
request slot None = record { slot = slot; settled = false; flagged = false }
request slot (Some l) = record { slot = slot; settled = l.settled; flagged = l.scheduled }

-- the slot before, if it is known
abbrev pub before_of : Option Tie → Option ℕ
before_of None = None
before_of (Some l) = l.before

-- the list read back from its end, along `before`
abbrev pub walk : (ℕ → ℕ → Option Tie) → ℕ → ℕ → Option ℕ → List Request
walk link c zero slot = []
walk link c (suc fuel) None = []
walk link c (suc fuel) (Some slot) = walk link c fuel (before_of (link slot c)) ++ (request slot (link slot c) ∷ [])
