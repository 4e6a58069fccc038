-- Rows of which one is spawned at another tick: what changes, and what stays.
use Rattle.std.proofs.Common.{◌≡◌, ◌≢◌, ℕ, zero, suc, ◌<◌, ◌≤◌, List, [], ◌∷◌, length, refl, ap, sym, ◌∙◌, inl, inr, arith, get_or}
use Rattle.std.specs.Option.{option_map_or}
use Rattle.std.specs.Prelude.{slice_get, slice_set}
use Rattle.std.proofs.lemmas.Bool.{cases_eq}
use Rattle.boc_runs.specs.declared.rows.Row.{Row}
use Rattle.boc_runs.specs.Rows.{IsRows, parent_of, offset_of, ticks_of, cowns_of, written_of}
use Rattle.boc_runs.specs.Changes.{FitsAt, moved}

-- all but the offset stays
pub length-moved : (rows : List Row) (row offset : ℕ) → length (moved rows row offset) ≡ length rows
length-moved [] row offset = refl
length-moved (x ∷ rows) zero offset = refl
length-moved (x ∷ rows) (suc row) offset = ap suc (length-moved rows row offset)

-- what a row tells besides its offset stays
kept_moved : {X : Type 0} (f : Row → X) (d : X) → ((x : Row) (offset : ℕ) → f (record x { offset = offset }) ≡ f x) → (rows : List Row) (row offset r : ℕ)
    → option_map_or f (slice_get (moved rows row offset) r) d ≡ option_map_or f (slice_get rows r) d
kept_moved f d keeps [] row offset r = refl
kept_moved f d keeps (x ∷ rows) zero offset zero = keeps x offset
kept_moved f d keeps (x ∷ rows) zero offset (suc r) = refl
kept_moved f d keeps (x ∷ rows) (suc row) offset zero = refl
kept_moved f d keeps (x ∷ rows) (suc row) offset (suc r) = kept_moved f d keeps rows row offset r

pub parent_of-moved : (rows : List Row) (row offset r : ℕ) → parent_of (moved rows row offset) r ≡ parent_of rows r
parent_of-moved = kept_moved (λ (x : Row). x.parent) 0 (λ x offset. refl)

pub ticks_of-moved : (rows : List Row) (row offset r : ℕ) → ticks_of (moved rows row offset) r ≡ ticks_of rows r
ticks_of-moved = kept_moved (λ (x : Row). x.ticks) 0 (λ x offset. refl)

pub cowns_of-moved : (rows : List Row) (row offset r : ℕ) → cowns_of (moved rows row offset) r ≡ cowns_of rows r
cowns_of-moved = kept_moved (λ (x : Row). x.cowns.items) [] (λ x offset. refl)

pub written_of-moved : (rows : List Row) (row offset r : ℕ) → written_of (moved rows row offset) r ≡ written_of rows r
written_of-moved = kept_moved (λ (x : Row). x.written.items) [] (λ x offset. refl)

pub offset_of-moved_other : (rows : List Row) (row offset r : ℕ) → r ≢ row → offset_of (moved rows row offset) r ≡ offset_of rows r
offset_of-moved_other [] row offset r ne = refl
offset_of-moved_other (x ∷ rows) zero offset zero ne = absurd (ne refl)
offset_of-moved_other (x ∷ rows) zero offset (suc r) ne = refl
offset_of-moved_other (x ∷ rows) (suc row) offset zero ne = refl
offset_of-moved_other (x ∷ rows) (suc row) offset (suc r) ne = offset_of-moved_other rows row offset r (λ e. ne (ap suc e))

pub offset_of-moved_same : (rows : List Row) (row offset : ℕ) → row < length rows → offset_of (moved rows row offset) row ≡ offset
offset_of-moved_same [] row offset h = absurd (omega arith)
offset_of-moved_same (x ∷ rows) zero offset h = refl
offset_of-moved_same (x ∷ rows) (suc row) offset h = offset_of-moved_same rows row offset (omega arith)

-- the rows, where the one that is spawned at another tick was read at its number
pub moved_read : (rows : List Row) (row offset : ℕ) (x : Row) → row < length rows → x ≡ get_or rows row x →
    slice_set rows row (record x { offset = offset }) ≡ moved rows row offset
moved_read [] row offset x h e = absurd (omega arith)
moved_read (y ∷ rows) zero offset x h e = rw e refl
moved_read (y ∷ rows) (suc row) offset x h e = ap (λ (xs : List Row). y ∷ xs) (moved_read rows row offset x (omega arith) e)

-- the same, where the rows are seen through their type
pub moved_seen : (seen rows : List Row) (row offset : ℕ) (x : Row) → seen ≡ rows → row < length seen → x ≡ get_or rows row x →
    slice_set rows row (record x { offset = offset }) ≡ moved seen row offset
moved_seen seen rows row offset x same h e = rw same (moved_read rows row offset x (omega (arith, ap (length {A = Row}) same)) e)

-- the moved rows are the rows of a record
module _ (rows : List Row) (hr : IsRows rows) (row offset : ℕ) (f : FitsAt rows row offset) where
  within : (r : ℕ) → r < length (moved rows row offset) → r < length rows
  within r h = omega (arith, length-moved rows row offset)

  above : (r : ℕ) → 0 < r → r < length rows → 0 < offset_of (moved rows row offset) r
  above r some there = elim (cases_eq r row) [
    | inl e ↦ rw e (omega (arith, offset_of-moved_same rows row offset f.there, f.above))
    | inr ne ↦ omega (arith, offset_of-moved_other rows row offset r ne, hr.offset_above r some there)
  ]

  covers : (r : ℕ) → 0 < r → r < length rows → offset_of (moved rows row offset) r ≤ ticks_of rows (parent_of rows r)
  covers r some there = elim (cases_eq r row) [
    | inl e ↦ rw e (omega (arith, offset_of-moved_same rows row offset f.there, f.within))
    | inr ne ↦ omega (arith, offset_of-moved_other rows row offset r ne, hr.ticks_cover r some there)
  ]

  rise : (a b : ℕ) → 0 < a → a < b → b < length rows → parent_of rows a ≡ parent_of rows b
      → offset_of (moved rows row offset) a < offset_of (moved rows row offset) b
  rise a b some before there same = elim (cases_eq a row) [
    | inl e ↦ (
        let later : b ≢ row = λ (is : b ≡ row). absurd (omega (arith, e, is, before)) in
        omega (
          arith,
          ap (offset_of (moved rows row offset)) e,
          offset_of-moved_same rows row offset f.there,
          offset_of-moved_other rows row offset b later,
          f.before_younger b (omega (arith, e, before)) there (sym same ∙ ap (parent_of rows) e),
        ))
    | inr ne ↦ elim (cases_eq b row) [
      | inl e ↦ omega (
        arith,
        ap (offset_of (moved rows row offset)) e,
        offset_of-moved_same rows row offset f.there,
        offset_of-moved_other rows row offset a ne,
        f.after_elder a some (omega (arith, e, before)) (same ∙ ap (parent_of rows) e),
      )
      | inr other ↦ omega (
        arith,
        offset_of-moved_other rows row offset a ne,
        offset_of-moved_other rows row offset b other,
        hr.offsets_rise a b some before there same,
      )
    ]
  ]

  main_stays : offset_of (moved rows row offset) 0 ≡ 0
  main_stays = offset_of-moved_other rows row offset 0 (λ (e : 0 ≡ row). absurd (omega (arith, e, f.child))) ∙ hr.main_offset

  pub rows_moved : IsRows (moved rows row offset)
  rows_moved = record {
    not_empty = omega (arith, length-moved rows row offset, hr.not_empty);
    not_many = omega (arith, length-moved rows row offset, hr.not_many);
    cowns_rise = λ r h. rw (cowns_of-moved rows row offset r) (hr.cowns_rise r (within r h));
    cowns_below = λ r h. rw (cowns_of-moved rows row offset r) (hr.cowns_below r (within r h));
    written_own = λ r h. rw (cowns_of-moved rows row offset r, written_of-moved rows row offset r) (hr.written_own r (within r h));
    main_parent = parent_of-moved rows row offset 0 ∙ hr.main_parent;
    main_offset = main_stays;
    main_cowns = cowns_of-moved rows row offset 0 ∙ hr.main_cowns;
    parent_before = λ r some h. omega (arith, parent_of-moved rows row offset r, hr.parent_before r some (within r h));
    offset_above = λ r some h. above r some (within r h);
    offsets_rise = λ a b some before h same. rise a b some before (within b h)
        (sym (parent_of-moved rows row offset a) ∙ same ∙ parent_of-moved rows row offset b);
    ticks_low = λ r h. omega (arith, ticks_of-moved rows row offset r, hr.ticks_low r (within r h));
    ticks_high = λ r h. omega (arith, ticks_of-moved rows row offset r, hr.ticks_high r (within r h));
    ticks_cover = λ r some h. rw (parent_of-moved rows row offset r, ticks_of-moved rows row offset (parent_of rows r)) (covers r some (within r h));
  }
