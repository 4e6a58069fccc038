use Rattle.std.proofs.Common.{◌≡◌, ℕ, length}
use Rattle.std.specs.Prelude.{Option, Some, slice_get}
use Rattle.boc_runs.specs.Rows.{cowns_of}
use Rattle.boc_cut.specs.Windows.{ComesFrom}
use Rattle.boc_cut.proofs.origins.origins_of.Given as goal

-- each row so far comes from the table
abbrev pub invariant-loop-number : goal.invariant-loop-number
invariant-loop-number l = (length l.origins.items ≡ l.number)
    × ((row : ℕ) (origin : Option ℕ) → slice_get l.origins.items row ≡ Some origin
    → ComesFrom l.table.rows.items l.table.uses.items l.kept (cowns_of l.rows row) origin)
