-- Rows without one of their cowns are rows of a record.
use Rattle.std.proofs.Common.{◌≡◌, ℕ, zero, suc, ◌<◌, ◌≤◌, List, [], ◌∷◌, length, take, not, refl, ap, sym, ◌∙◌, arith}
use Rattle.std.specs.Option.{option_map_or}
use Rattle.std.specs.Prelude.{slice_get, ◌==◌}
use Rattle.std.proofs.lemmas.List.{length-map}
use Rattle.std.proofs.lemmas.List.Elements.{All-filter}
use Rattle.std.proofs.lemmas.List.Kept.{IsStrictlyIncreasing-filter}
use Rattle.boc_program.specs.Cowns.{others}
use Rattle.boc_program.specs.declared.limits.TheConstants.{MOST_COWNS}
use Rattle.boc_program.proofs.Freeing.{among_others}
use Rattle.boc_runs.specs.declared.rows.Row.{Row}
use Rattle.boc_runs.specs.Rows.{IsRows, parent_of, offset_of, ticks_of, cowns_of, written_of}
use Rattle.boc_runs.specs.Changes.{freed_row, without}

module _ (cown : ℕ) where
  pub length-without : (rows : List Row) → length (without cown rows) ≡ length rows
  length-without rows = length-map rows (freed_row cown)

  read_freed : {X : Type 0} (f g : Row → X) (d : X) → ((x : Row) → f (freed_row cown x) ≡ g x) → (rows : List Row) (r : ℕ)
      → option_map_or f (slice_get (without cown rows) r) d ≡ option_map_or g (slice_get rows r) d
  read_freed f g d tells [] r = refl
  read_freed f g d tells (x ∷ rows) zero = tells x
  read_freed f g d tells (x ∷ rows) (suc r) = read_freed f g d tells rows r

  pub parent_of-without : (rows : List Row) (r : ℕ) → parent_of (without cown rows) r ≡ parent_of rows r
  parent_of-without = read_freed (λ (x : Row). x.parent) (λ (x : Row). x.parent) 0 (λ x. refl)

  pub offset_of-without : (rows : List Row) (r : ℕ) → offset_of (without cown rows) r ≡ offset_of rows r
  offset_of-without = read_freed (λ (x : Row). x.offset) (λ (x : Row). x.offset) 0 (λ x. refl)

  pub ticks_of-without : (rows : List Row) (r : ℕ) → ticks_of (without cown rows) r ≡ ticks_of rows r
  ticks_of-without = read_freed (λ (x : Row). x.ticks) (λ (x : Row). x.ticks) 0 (λ x. refl)

  pub cowns_of-without : (rows : List Row) (r : ℕ) → cowns_of (without cown rows) r ≡ others cown (cowns_of rows r)
  cowns_of-without [] r = refl
  cowns_of-without (x ∷ rows) zero = refl
  cowns_of-without (x ∷ rows) (suc r) = cowns_of-without rows r

  pub written_of-without : (rows : List Row) (r : ℕ) → written_of (without cown rows) r ≡ others cown (written_of rows r)
  written_of-without [] r = refl
  written_of-without (x ∷ rows) zero = refl
  written_of-without (x ∷ rows) (suc r) = written_of-without rows r

  module _ (rows : List Row) (hr : IsRows rows) where
    within : (r : ℕ) → r < length (without cown rows) → r < length rows
    within r h = omega (arith, length-without rows)

    pub rows_without : IsRows (without cown rows)
    rows_without = record {
      not_empty = omega (arith, length-without rows, hr.not_empty);
      not_many = omega (arith, length-without rows, hr.not_many);
      cowns_rise = λ r h. rw (cowns_of-without rows r)
          (IsStrictlyIncreasing-filter (λ (c : ℕ). not (c == cown)) (cowns_of rows r) (hr.cowns_rise r (within r h)));
      cowns_below = λ r h. rw (cowns_of-without rows r)
          (All-filter (λ (c : ℕ). not (c == cown)) (λ (c : ℕ). c < MOST_COWNS) (cowns_of rows r) (hr.cowns_below r (within r h)));
      written_own = λ r h. rw (cowns_of-without rows r, written_of-without rows r)
          (among_others cown (cowns_of rows r) (written_of rows r) (hr.written_own r (within r h)));
      main_parent = parent_of-without rows 0 ∙ hr.main_parent;
      main_offset = offset_of-without rows 0 ∙ hr.main_offset;
      main_cowns = cowns_of-without rows 0 ∙ ap (others cown) hr.main_cowns;
      parent_before = λ r above h. omega (arith, parent_of-without rows r, hr.parent_before r above (within r h));
      offset_above = λ r above h. omega (arith, offset_of-without rows r, hr.offset_above r above (within r h));
      offsets_rise = λ a b above before h same. omega (
        arith,
        offset_of-without rows a,
        offset_of-without rows b,
        hr.offsets_rise a b above before (within b h) (sym (parent_of-without rows a) ∙ same ∙ parent_of-without rows b),
      );
      ticks_low = λ r h. omega (arith, ticks_of-without rows r, hr.ticks_low r (within r h));
      ticks_high = λ r h. omega (arith, ticks_of-without rows r, hr.ticks_high r (within r h));
      ticks_cover = λ r above h. rw (offset_of-without rows r, parent_of-without rows r, ticks_of-without rows (parent_of rows r))
          (hr.ticks_cover r above (within r h));
    }

take_all : (n : ℕ) (rows : List Row) → length rows ≤ n → take n rows ≡ rows
take_all zero [] h = refl
take_all zero (x ∷ rows) h = absurd (omega (arith, h))
take_all (suc n) [] h = refl
take_all (suc n) (x ∷ rows) h = ap (λ (l : List Row). x ∷ l) (take_all n rows (omega (arith, h)))

-- the rows that were made of all rows
pub all_without : (cown : ℕ) (rows : List Row) → IsRows rows → (list items : List Row) (n : ℕ) → items ≡ rows → length items ≤ n
    → list ≡ without cown (take n items) → IsRows list
all_without cown rows hr list items n same long is = rw (is, take_all n items long, same) (rows_without cown rows hr)
