-- The rows as plans see them: all but what they wrote stays.
use Rattle.std.proofs.Common.{◌≡◌, ℕ, zero, suc, ◌<◌, List, [], ◌∷◌, length, refl, ap, sym, ◌∙◌, arith}
use Rattle.std.specs.Option.{option_map_or}
use Rattle.std.specs.Prelude.{slice_get}
use Rattle.std.specs.List.{Contains}
use Rattle.std.specs.List.Sorted.{IsStrictlyIncreasing}
use Rattle.std.proofs.lemmas.List.Elements.{Contains-get_or}
use Rattle.std.proofs.lemmas.List.Sums.{sum_by-cons}
use Rattle.boc_runs.specs.declared.rows.Row.{Row}
use Rattle.boc_plans.specs.declared.sharing.Sharing.{Sharing}
use Rattle.boc_plans.specs.declared.sharing.Sharing.TheVariants.{Exclusive, SharedReads}
use Rattle.boc_program.specs.Cowns.{AreAmong}
use Rattle.boc_runs.specs.Rows.{IsRows, parent_of, offset_of, ticks_of, cowns_of, written_of, edited}
use Rattle.boc_plans.specs.Seen.{writing_all, seen}
use Rattle.boc_plans.specs.Plans.{work_of}

pub length-writing : (rows : List Row) → length (writing_all rows) ≡ length rows
length-writing [] = refl
length-writing (x ∷ rows) = ap suc (length-writing rows)

-- what a row tells, where what it wrote counts as all its cowns
read_writing : {X : Type 0} (f g : Row → X) (d : X) → ((x : Row) → f (record x { written = x.cowns }) ≡ g x) → (rows : List Row) (r : ℕ)
    → option_map_or f (slice_get (writing_all rows) r) d ≡ option_map_or g (slice_get rows r) d
read_writing f g d tells [] r = refl
read_writing f g d tells (x ∷ rows) zero = tells x
read_writing f g d tells (x ∷ rows) (suc r) = read_writing f g d tells rows r

-- where cowns are exclusive, a row writes what it has
pub written_of-writing : (rows : List Row) (r : ℕ) → written_of (writing_all rows) r ≡ cowns_of rows r
written_of-writing = read_writing (λ (x : Row). x.written.items) (λ (x : Row). x.cowns.items) [] (λ x. refl)

-- what else a row tells stays
kept_seen : {X : Type 0} (f : Row → X) (d : X) → ((x : Row) → f (record x { written = x.cowns }) ≡ f x) → (s : Sharing) (rows : List Row) (r : ℕ)
    → option_map_or f (slice_get (seen s rows) r) d ≡ option_map_or f (slice_get rows r) d
kept_seen f d tells Exclusive rows r = read_writing f f d tells rows r
kept_seen f d tells SharedReads rows r = refl

pub length-seen : (s : Sharing) (rows : List Row) → length (seen s rows) ≡ length rows
length-seen Exclusive rows = length-writing rows
length-seen SharedReads rows = refl

pub parent_of-seen : (s : Sharing) (rows : List Row) (r : ℕ) → parent_of (seen s rows) r ≡ parent_of rows r
parent_of-seen = kept_seen (λ (x : Row). x.parent) 0 (λ x. refl)

pub offset_of-seen : (s : Sharing) (rows : List Row) (r : ℕ) → offset_of (seen s rows) r ≡ offset_of rows r
offset_of-seen = kept_seen (λ (x : Row). x.offset) 0 (λ x. refl)

pub ticks_of-seen : (s : Sharing) (rows : List Row) (r : ℕ) → ticks_of (seen s rows) r ≡ ticks_of rows r
ticks_of-seen = kept_seen (λ (x : Row). x.ticks) 0 (λ x. refl)

pub cowns_of-seen : (s : Sharing) (rows : List Row) (r : ℕ) → cowns_of (seen s rows) r ≡ cowns_of rows r
cowns_of-seen = kept_seen (λ (x : Row). x.cowns.items) [] (λ x. refl)

-- a row's cowns are among themselves
own_among : (cowns : List ℕ) → IsStrictlyIncreasing cowns → AreAmong cowns cowns
own_among cowns rise = record { rise = rise; own = λ k d h. Contains-get_or cowns k d h }

module _ (rows : List Row) (hr : IsRows rows) where
  within : (r : ℕ) → r < length (writing_all rows) → r < length rows
  within r h = omega (arith, length-writing rows)

  rows_writing : IsRows (writing_all rows)
  rows_writing = record {
    not_empty = omega (arith, length-writing rows, hr.not_empty);
    not_many = omega (arith, length-writing rows, hr.not_many);
    cowns_rise = λ r h. rw (cowns_of-seen Exclusive rows r) (hr.cowns_rise r (within r h));
    cowns_below = λ r h. rw (cowns_of-seen Exclusive rows r) (hr.cowns_below r (within r h));
    written_own = λ r h. rw (cowns_of-seen Exclusive rows r, written_of-writing rows r) (own_among (cowns_of rows r) (hr.cowns_rise r (within r h)));
    main_parent = parent_of-seen Exclusive rows 0 ∙ hr.main_parent;
    main_offset = offset_of-seen Exclusive rows 0 ∙ hr.main_offset;
    main_cowns = cowns_of-seen Exclusive rows 0 ∙ hr.main_cowns;
    parent_before = λ r above h. omega (arith, parent_of-seen Exclusive rows r, hr.parent_before r above (within r h));
    offset_above = λ r above h. omega (arith, offset_of-seen Exclusive rows r, hr.offset_above r above (within r h));
    offsets_rise = λ a b above before h same. omega (
      arith,
      offset_of-seen Exclusive rows a,
      offset_of-seen Exclusive rows b,
      hr.offsets_rise a b above before (within b h) (sym (parent_of-seen Exclusive rows a) ∙ same ∙ parent_of-seen Exclusive rows b),
    );
    ticks_low = λ r h. omega (arith, ticks_of-seen Exclusive rows r, hr.ticks_low r (within r h));
    ticks_high = λ r h. omega (arith, ticks_of-seen Exclusive rows r, hr.ticks_high r (within r h));
    ticks_cover = λ r above h. rw (offset_of-seen Exclusive rows r, parent_of-seen Exclusive rows r, ticks_of-seen Exclusive rows (parent_of rows r))
        (hr.ticks_cover r above (within r h));
  }

-- the rows as they are seen are the rows of a record
pub rows_seen : (s : Sharing) (rows : List Row) → IsRows rows → IsRows (seen s rows)
rows_seen Exclusive rows hr = rows_writing rows hr
rows_seen SharedReads rows hr = hr

edited_writing : (rows : List Row) (row ticks : ℕ) → writing_all (edited rows row ticks) ≡ edited (writing_all rows) row ticks
edited_writing [] row ticks = refl
edited_writing (x ∷ rows) zero ticks = refl
edited_writing (x ∷ rows) (suc row) ticks = ap (λ (xs : List Row). record x { written = x.cowns } ∷ xs) (edited_writing rows row ticks)

-- an edit is seen as an edit of what is seen
pub edited-seen : (s : Sharing) (rows : List Row) (row ticks : ℕ) → seen s (edited rows row ticks) ≡ edited (seen s rows) row ticks
edited-seen Exclusive rows row ticks = edited_writing rows row ticks
edited-seen SharedReads rows row ticks = refl

-- where cowns are exclusive, a row counts as writing each cown that it has
pub written_of-seen : (s : Sharing) (rows all : List Row) (r c : ℕ) → all ≡ seen s rows → Contains (cowns_of all r) c → s ≡ Exclusive
    → Contains (written_of all r) c
written_of-seen Exclusive rows all r c same has e = rw (same, written_of-writing rows r) (rw (same, cowns_of-seen Exclusive rows r) at has)
written_of-seen SharedReads rows all r c same has e = absurd (let bad : ⊥ = cc in bad)

pub shape_is : (s : Sharing) (rows all : List Row) → all ≡ seen s rows → IsRows rows → IsRows all
shape_is s rows all e hr = rw e (rows_seen s rows hr)

work_of-writing : (rows : List Row) → work_of (writing_all rows) ≡ work_of rows
work_of-writing [] = refl
work_of-writing (x ∷ rows) =
    let f : Row → ℕ = λ (y : Row). y.ticks in
    omega (arith, sum_by-cons f (record x { written = x.cowns }) (writing_all rows), sum_by-cons f x rows, work_of-writing rows)

-- and they take as many ticks
pub work_of-seen : (s : Sharing) (rows : List Row) → work_of (seen s rows) ≡ work_of rows
work_of-seen Exclusive rows = work_of-writing rows
work_of-seen SharedReads rows = refl
