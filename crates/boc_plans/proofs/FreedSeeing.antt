-- A cown is taken out of the rows as plans see them.
use Rattle.std.proofs.Common.{◌≡◌, ℕ, List, [], ◌∷◌, refl, ap}
use Rattle.boc_runs.specs.declared.rows.Row.{Row}
use Rattle.boc_runs.specs.Changes.{freed_row, without}
use Rattle.boc_plans.specs.declared.sharing.Sharing.{Sharing}
use Rattle.boc_plans.specs.declared.sharing.Sharing.TheVariants.{Exclusive, SharedReads}
use Rattle.boc_plans.specs.Seen.{writing_all, seen}

writing_without : (cown : ℕ) (rows : List Row) → writing_all (without cown rows) ≡ without cown (writing_all rows)
writing_without cown [] = refl
writing_without cown (x ∷ rows) = ap (λ (xs : List Row). freed_row cown (record x { written = x.cowns }) ∷ xs) (writing_without cown rows)

-- the rows without a cown, as they are seen, are those that are seen, without it
pub without-seen : (cown : ℕ) (s : Sharing) (rows : List Row) → seen s (without cown rows) ≡ without cown (seen s rows)
without-seen cown Exclusive rows = writing_without cown rows
without-seen cown SharedReads rows = refl
