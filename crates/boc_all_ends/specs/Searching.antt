-- A search from layer to layer.
use Rattle.std.specs.Prelude.{◌≡◌, ◌↔◌, ℕ, ◌+◌, List, true, false}
use Rattle.boc_program.specs.declared.limits.TheConstants.{MOST_ROWS}
use Rattle.boc_program.specs.declared.program.Program.{Program}
use Rattle.boc_runs.specs.Serial.{Behaviour}
use Rattle.boc_closed_sets.specs.Covers.{Covers}
use Rattle.boc_front_rows.specs.declared.row.Front.{Front}
use Rattle.boc_all_ends.specs.declared.ends.Ends.{Ends}
use Rattle.boc_all_ends.specs.declared.search.Next.{Next}
use Rattle.boc_all_ends.specs.declared.search.Next.TheVariants.{Whole, Full}
use Rattle.boc_all_ends.specs.declared.search.Reach.{Reach}
use Rattle.boc_all_ends.specs.Ends.{IsEndless}
use Rattle.boc_all_ends.specs.Gathered.{AreNoted}
use Rattle.boc_all_ends.specs.Spreading.{seen, AreKept}

-- these fronts stand for enough orders of so many rows
pub record StandsAt (p : Program) (lists : List (List Behaviour)) (rows : ℕ) (fs : List Front) : Type 0 where
  pub covers : Covers p rows (seen lists fs)
  pub kept : AreKept lists rows fs

-- the next layer, or the search has looked at as many fronts as it may
abbrev pub IsNext : Program → List (List Behaviour) → ℕ → ℕ → ℕ → Next → Type 0
IsNext p lists rows fronts most (Whole next) = StandsAt p lists (rows + 1) next.keys
IsNext p lists rows fronts most Full = fronts ≡ most

-- how far a search has come, with these ends
pub record HasReached (p : Program) (fronts most : ℕ) (ends : Ends) (reach : Reach) : Type 0 where
  pub noted : AreNoted p reach.below ends
  pub whole : reach.whole ≡ true → reach.below ≡ MOST_ROWS + 1
  pub stopped : reach.whole ≡ false → fronts ≡ most
  pub endless : reach.whole ≡ true → (reach.endless ≡ true ↔ IsEndless p)
