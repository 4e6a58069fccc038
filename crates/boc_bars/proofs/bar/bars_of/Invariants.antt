use Rattle.std.proofs.Common.{◌≡◌, ℕ, ◌<◌, length, Some}
use Rattle.std.specs.Prelude.{slice_get}
use Rattle.boc_bars.specs.declared.bar.Stretch.{Stretch}
use Rattle.boc_bars.specs.Bars.{own_bar}
use Rattle.boc_bars.proofs.bar.bars_of.Given as goal

-- the rows so far have their bars
abbrev pub invariant-loop-number : goal.invariant-loop-number
invariant-loop-number l =
    (length l.bars.items ≡ l.number)
    × ((row : ℕ) (runs : Stretch) → row < l.number → slice_get l.rows row ≡ Some runs → slice_get l.bars.items row ≡ Some (own_bar row runs))
