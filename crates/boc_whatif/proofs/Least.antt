-- The rows with one row at its least ticks, and their greedy plan.
use Rattle.std.proofs.Common.{◌≡◌, ℕ, zero, suc, ◌<◌, max, List, [], ◌∷◌, length, refl, sym, ◌∙◌, ap, subst, arith}
use Rattle.std.specs.Prelude.{slice_index}
use Rattle.boc_runs.specs.declared.rows.Row.{Row}
use Rattle.boc_runs.specs.Rows.{IsRows, Fits, edited, ticks_of}
use Rattle.boc_runs.proofs.Editing.{least_fits}
use Rattle.boc_plans.specs.declared.sharing.Sharing.{Sharing}
use Rattle.boc_plans.specs.Seen.{seen}
use Rattle.boc_plans.specs.Edits.{IsLeastTicks}
use Rattle.boc_plans.specs.Sweeps.{IsGreedyEnd, IsLeastGreedyEnd}
use Rattle.boc_plans.proofs.Seeing.{length-seen, ticks_of-seen, edited-seen}
use Rattle.boc_sweep.specs.Lasts.{HasLasts}
use Rattle.boc_whatif.proofs.Keeping.{lasts_seen}

-- a row that takes its own ticks is not edited
edited_own : (rows : List Row) (row ticks : ℕ) → ticks ≡ ticks_of rows row → edited rows row ticks ≡ rows
edited_own [] row ticks e = refl
edited_own (x ∷ rows) zero ticks e = ap (λ (t : ℕ). record x { ticks = t } ∷ rows) e
edited_own (x ∷ rows) (suc row) ticks e = ap (λ (xs : List Row). x ∷ xs) (edited_own rows row ticks e)

module _ (rows : List Row) (hr : IsRows rows) (s : Sharing) (lasts : List ℕ) (has : HasLasts rows lasts) (row : ℕ) (there : row < length rows)
    (least : ℕ) (is : least ≡ max 1 (slice_index lasts row)) where
  pub fits : Fits rows row least
  fits = least_fits rows hr row (slice_index lasts row) least there (has.at row there) is

  seen_lasts : HasLasts (seen s rows) lasts
  seen_lasts = lasts_seen s rows (seen s rows) lasts refl has

  seen_there : row < length (seen s rows)
  seen_there = omega (arith, there, length-seen s rows)

  -- they fit the row, also as plans see it
  pub seen_fits : Fits (seen s rows) row least
  seen_fits = record {
    there = seen_there;
    low = fits.low;
    high = fits.high;
    last = slice_index lasts row;
    is_last = seen_lasts.at row seen_there;
    covers = omega (arith, is);
  }

  is_least : IsLeastTicks (seen s rows) row least
  is_least = record { last = slice_index lasts row; is_last = seen_lasts.at row seen_there; is = is }

  -- where the row takes its least ticks, the plan is that of the rows as they are
  pub end_now : (p end : ℕ) → least ≡ ticks_of rows row → IsGreedyEnd (seen s rows) p end → IsLeastGreedyEnd (seen s rows) p row end
  end_now p end same e =
      let own : edited (seen s rows) row least ≡ seen s rows = edited_own (seen s rows) row least (same ∙ sym (ticks_of-seen s rows row)) in
      record { least = least; is_least = is_least; is_end = subst (λ (l : List Row). IsGreedyEnd l p end) (sym own) e }

  module _ (list : List Row) (list_is : list ≡ seen s (edited rows row least)) where
    pub then_is : list ≡ edited (seen s rows) row least
    then_is = list_is ∙ edited-seen s rows row least

    pub end_then : (p end : ℕ) → IsGreedyEnd list p end → IsLeastGreedyEnd (seen s rows) p row end
    end_then p end e = record { least = least; is_least = is_least; is_end = rw then_is at e }
