-- Rows that change, as plans see them and without a cown.
use Rattle.std.proofs.Common.{◌≡◌, ℕ, zero, suc, ◌+◌, ◌<◌, ◌≤◌, max, List, [], ◌∷◌, length, refl, ap, sym, ◌∙◌, subst, arith}
use Rattle.std.specs.Prelude.{slice_get}
use Rattle.boc_program.specs.declared.limits.TheConstants.{MOST_TICKS}
use Rattle.boc_runs.specs.declared.rows.Row.{Row}
use Rattle.boc_runs.specs.Rows.{IsLast, Fits, edited, parent_of, offset_of, ticks_of}
use Rattle.boc_runs.specs.Changes.{FitsAt, IsChildOf, IsSameBut, IsScaled, freed_row, moved, part_of, without}
use Rattle.boc_runs.proofs.Scaling.{last_of_same}
use Rattle.boc_runs.proofs.Freeing.{length-without, parent_of-without, offset_of-without, ticks_of-without}
use Rattle.boc_plans.specs.declared.edit.Change.{Change}
use Rattle.boc_plans.specs.declared.edit.Change.TheVariants.{Ticks, Offset, Cost}
use Rattle.boc_plans.specs.declared.sharing.Sharing.{Sharing}
use Rattle.boc_plans.specs.declared.sharing.Sharing.TheVariants.{Exclusive, SharedReads}
use Rattle.boc_plans.specs.Edits.{IsChanged}
use Rattle.boc_plans.specs.Seen.{seen, writing_all}
use Rattle.boc_plans.proofs.Seeing.{length-seen, parent_of-seen, offset_of-seen, ticks_of-seen}

moved_writing : (rows : List Row) (row offset : ℕ) → writing_all (moved rows row offset) ≡ moved (writing_all rows) row offset
moved_writing [] row offset = refl
moved_writing (x ∷ rows) zero offset = refl
moved_writing (x ∷ rows) (suc row) offset = ap (λ (xs : List Row). record x { written = x.cowns } ∷ xs) (moved_writing rows row offset)

pub moved-seen : (s : Sharing) (rows : List Row) (row offset : ℕ) → seen s (moved rows row offset) ≡ moved (seen s rows) row offset
moved-seen Exclusive rows row offset = moved_writing rows row offset
moved-seen SharedReads rows row offset = refl

-- rows that tell the same of parents, offsets and ticks are scaled alike
module _ (mapped : List Row → List Row) (rows after : List Row) (row over under : ℕ) (s : IsScaled rows row over under after)
    (whole : (xs : List Row) → length (mapped xs) ≡ length xs) (parents : (xs : List Row) (r : ℕ) → parent_of (mapped xs) r ≡ parent_of xs r)
    (offsets : (xs : List Row) (r : ℕ) → offset_of (mapped xs) r ≡ offset_of xs r) (ticks : (xs : List Row) (r : ℕ) → ticks_of (mapped xs) r ≡ ticks_of xs r)
    (same : (r : ℕ) → IsSameBut (slice_get (mapped rows) r) (slice_get (mapped after) r)) where
  unmapped : (xs : List Row) (n p last : ℕ) → IsLast (mapped xs) n p last → IsLast xs n p last
  unmapped xs n p last l = last_of_same (mapped xs) xs n p last (λ a below. sym (parents xs a)) (λ a below. sym (offsets xs a)) l

  child_before : (b : ℕ) → IsChildOf (mapped rows) row b → IsChildOf rows row b
  child_before b child = (child.0, omega (arith, child.1, whole rows), sym (parents rows b) ∙ child.2)

  child_after : (b : ℕ) → IsChildOf rows row b → IsChildOf (mapped rows) row b
  child_after b child = (child.0, omega (arith, child.1, whole rows), parents rows b ∙ child.2)

  pub scaled_alike : IsScaled (mapped rows) row over under (mapped after)
  scaled_alike = record {
    whole = whole after ∙ s.whole ∙ sym (whole rows);
    same = same;
    offsets = λ b elder child l. offsets after b ∙ s.offsets b elder (child_before b child) (unmapped after b row elder l)
        ∙ ap (λ (k : ℕ). max (part_of over under k) (elder + 1)) (sym (offsets rows b));
    other_offsets = λ b not. offsets after b ∙ s.other_offsets b (λ child. not (child_after b child)) ∙ sym (offsets rows b);
    ticks = λ last l. ticks after row
        ∙ s.ticks last (subst (λ (n : ℕ). IsLast after n row last) (whole after) (unmapped after (length (mapped after)) row last l))
        ∙ ap (λ (k : ℕ). max (max 1 (part_of over under k)) last) (sym (ticks rows row));
    other_ticks = λ r ne. ticks after r ∙ s.other_ticks r ne ∙ sym (ticks rows r);
  }

same_writing : (rows after : List Row) (r : ℕ) → ((r : ℕ) → IsSameBut (slice_get rows r) (slice_get after r))
    → IsSameBut (slice_get (writing_all rows) r) (slice_get (writing_all after) r)
same_writing [] [] r same = tt
same_writing [] (y ∷ after) zero same = same 0
same_writing [] (y ∷ after) (suc r) same = same_writing [] after r (λ k. same (suc k))
same_writing (x ∷ rows) [] zero same = same 0
same_writing (x ∷ rows) [] (suc r) same = same_writing rows [] r (λ k. same (suc k))
same_writing (x ∷ rows) (y ∷ after) zero same = ap (λ (z : Row). record z { written = z.cowns }) (same 0)
same_writing (x ∷ rows) (y ∷ after) (suc r) same = same_writing rows after r (λ k. same (suc k))

same_freed : (cown : ℕ) (rows after : List Row) (r : ℕ) → ((r : ℕ) → IsSameBut (slice_get rows r) (slice_get after r))
    → IsSameBut (slice_get (without cown rows) r) (slice_get (without cown after) r)
same_freed cown [] [] r same = tt
same_freed cown [] (y ∷ after) zero same = same 0
same_freed cown [] (y ∷ after) (suc r) same = same_freed cown [] after r (λ k. same (suc k))
same_freed cown (x ∷ rows) [] zero same = same 0
same_freed cown (x ∷ rows) [] (suc r) same = same_freed cown rows [] r (λ k. same (suc k))
same_freed cown (x ∷ rows) (y ∷ after) zero same = ap (freed_row cown) (same 0)
same_freed cown (x ∷ rows) (y ∷ after) (suc r) same = same_freed cown rows after r (λ k. same (suc k))

pub scaled-seen : (s : Sharing) (rows : List Row) (row over under : ℕ) (after : List Row) → IsScaled rows row over under after
    → IsScaled (seen s rows) row over under (seen s after)
scaled-seen SharedReads rows row over under after h = h
scaled-seen Exclusive rows row over under after h =
    scaled_alike writing_all rows after row over under h (length-seen Exclusive) (parent_of-seen Exclusive) (offset_of-seen Exclusive)
    (ticks_of-seen Exclusive) (λ r. same_writing rows after r h.same)

scaled-without : (cown : ℕ) (rows : List Row) (row over under : ℕ) (after : List Row) → IsScaled rows row over under after
    → IsScaled (without cown rows) row over under (without cown after)
scaled-without cown rows row over under after h =
    scaled_alike (without cown) rows after row over under h (length-without cown) (parent_of-without cown) (offset_of-without cown)
    (ticks_of-without cown) (λ r. same_freed cown rows after r h.same)

edited-without : (cown : ℕ) (rows : List Row) (row ticks : ℕ) → without cown (edited rows row ticks) ≡ edited (without cown rows) row ticks
edited-without cown [] row ticks = refl
edited-without cown (x ∷ rows) zero ticks = refl
edited-without cown (x ∷ rows) (suc row) ticks = ap (λ (xs : List Row). freed_row cown x ∷ xs) (edited-without cown rows row ticks)

moved-without : (cown : ℕ) (rows : List Row) (row offset : ℕ) → without cown (moved rows row offset) ≡ moved (without cown rows) row offset
moved-without cown [] row offset = refl
moved-without cown (x ∷ rows) zero offset = refl
moved-without cown (x ∷ rows) (suc row) offset = ap (λ (xs : List Row). freed_row cown x ∷ xs) (moved-without cown rows row offset)

fits-without : (cown : ℕ) (rows : List Row) (row ticks : ℕ) → Fits rows row ticks → Fits (without cown rows) row ticks
fits-without cown rows row ticks f = record {
  there = omega (arith, f.there, length-without cown rows);
  low = f.low;
  high = f.high;
  last = f.last;
  is_last = rw (length-without cown rows) (last_of_same rows (without cown rows) (length rows) row f.last (λ a below. parent_of-without cown rows a)
      (λ a below. offset_of-without cown rows a) f.is_last);
  covers = f.covers;
}

stands-without : (cown : ℕ) (rows : List Row) (row offset : ℕ) → FitsAt rows row offset → FitsAt (without cown rows) row offset
stands-without cown rows row offset f = record {
  child = f.child;
  there = omega (arith, f.there, length-without cown rows);
  above = f.above;
  after_elder = λ a some below same. omega (
    arith,
    offset_of-without cown rows a,
    f.after_elder a some below (sym (parent_of-without cown rows a) ∙ same ∙ parent_of-without cown rows row),
  );
  before_younger = λ b behind here same. omega (
    arith,
    offset_of-without cown rows b,
    f.before_younger b behind (omega (arith, here, length-without cown rows)) (sym (parent_of-without cown rows b) ∙ same ∙ parent_of-without cown rows row),
  );
  within = omega (arith, f.within, ticks_of-without cown rows (parent_of rows row), ap (ticks_of (without cown rows)) (parent_of-without cown rows row));
}

-- a row changes without a cown as with it
pub changed-without : (rows : List Row) (cown row : ℕ) (change : Change) (after : List Row) → IsChanged rows row change after
    → IsChanged (without cown rows) row change (without cown after)
changed-without rows cown row (Ticks ticks) after h = (fits-without cown rows row ticks h.0, ap (without cown) h.1 ∙ edited-without cown rows row ticks)
changed-without rows cown row (Offset offset) after h =
    (stands-without cown rows row offset h.0, ap (without cown) h.1 ∙ moved-without cown rows row offset)
changed-without rows cown row (Cost part) after h = (
  omega (arith, h.0, length-without cown rows),
  scaled-without cown rows row part.over part.under after h.1,
  omega (arith, h.2, ticks_of-without cown after row),
)
