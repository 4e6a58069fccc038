-- Rows that change: what stays, and when they can't.
use Rattle.std.proofs.Common.{◌≡◌, ◌≢◌, ℕ, zero, suc, ◌+◌, ◌<◌, ◌≤◌, max, List, [], ◌∷◌, length}
use Rattle.std.proofs.Common.{take, drop, ◌++◌, get_or, refl, ap, sym, ◌∙◌, subst, inl, inr, arith, length-set}
use Rattle.std.specs.Prelude.{slice_set, slice_index, Result, Ok, Err, OnErr}
use Rattle.std.proofs.lemmas.Bool.{cases_eq}
use Rattle.std.proofs.lemmas.List.{get_or-set_same, get_or-set_other}
use Rattle.boc_runs.specs.declared.rows.Row.{Row}
use Rattle.boc_runs.specs.declared.siblings.Siblings.{Siblings}
use Rattle.boc_runs.specs.Rows.{IsRows, IsLast, Fits, edited, parent_of, offset_of, ticks_of}
use Rattle.boc_runs.specs.Changes.{FitsAt, IsScaled, IsChildOf, moved}
use Rattle.boc_runs.specs.Siblings.{AreSiblings}
use Rattle.boc_runs.proofs.Editing.{length-edited, parent_of-edited, rows_edited, one_last, last_edited}
use Rattle.boc_runs.proofs.Moving.{length-moved, parent_of-moved, ticks_of-moved, cowns_of-moved, written_of-moved, offset_of-moved_other, rows_moved}
use Rattle.boc_runs.proofs.NextChildren.{siblings_stay}
use Rattle.boc_runs.proofs.Scaling.{same_parents, same_cowns, same_written, rows_scaled, one_scaling}
use Rattle.boc_plans.specs.declared.edit.Edit.{Edit}
use Rattle.boc_plans.specs.declared.edit.EditFault.{EditFault}
use Rattle.boc_plans.specs.declared.edit.EditFault.TheVariants.{NoRow, BelowSpawn, TooManyTicks, NoParent, NotBetween}
use Rattle.boc_plans.specs.declared.edit.Change.{Change}
use Rattle.boc_plans.specs.declared.edit.Change.TheVariants.{Ticks, Offset, Cost}
use Rattle.boc_plans.specs.declared.sharing.Sharing.{Sharing}
use Rattle.boc_plans.specs.declared.sharing.Sharing.TheVariants.{Exclusive, SharedReads}
use Rattle.boc_plans.specs.Edits.{IsBelowSpawn, IsChangeFault, IsChanged, IsEditFault}
use Rattle.boc_plans.specs.Seen.{seen}
use Rattle.boc_plans.proofs.Seeing.{length-seen, parent_of-seen, offset_of-seen, ticks_of-seen, cowns_of-seen, written_of-writing}
use Rattle.boc_order.proofs.Placing.{AreSameBefore}
use Rattle.boc_order.proofs.Replacing.{edited_same}
use Rattle.boc_sweep.specs.Lasts.{HasLasts}

-- rows that change are the rows of a record
pub changed_rows : (rows : List Row) → IsRows rows → (row : ℕ) (change : Change) (after : List Row) → IsChanged rows row change after → IsRows after
changed_rows rows hr row (Ticks ticks) after h = rw h.1 (rows_edited rows hr row ticks h.0)
changed_rows rows hr row (Offset offset) after h = rw h.1 (rows_moved rows hr row offset h.0)
changed_rows rows hr row (Cost part) after h = rows_scaled rows hr row part.over part.under after h.1 h.0 h.2

-- there are as many, and the one that changes is one of them
pub changed_length : (rows : List Row) (row : ℕ) (change : Change) (after : List Row) → IsChanged rows row change after → length after ≡ length rows
changed_length rows row (Ticks ticks) after h = ap (length {A = Row}) h.1 ∙ length-edited rows row ticks
changed_length rows row (Offset offset) after h = ap (length {A = Row}) h.1 ∙ length-moved rows row offset
changed_length rows row (Cost part) after h = h.1.whole

pub changed_there : (rows : List Row) (row : ℕ) (change : Change) (after : List Row) → IsChanged rows row change after → row < length rows
changed_there rows row (Ticks ticks) after h = h.0.there
changed_there rows row (Offset offset) after h = h.0.there
changed_there rows row (Cost part) after h = h.0

-- and they have the same siblings
pub siblings_changed : (rows : List Row) (siblings : Siblings) (row : ℕ) (change : Change) (after : List Row) → IsChanged rows row change after
    → AreSiblings rows siblings → AreSiblings after siblings
siblings_changed rows siblings row (Ticks ticks) after h are = siblings_stay rows after (changed_length rows row (Ticks ticks) after h)
    (λ r. ap (λ (l : List Row). parent_of l r) h.1 ∙ parent_of-edited rows row ticks r) siblings are
siblings_changed rows siblings row (Offset offset) after h are = siblings_stay rows after (changed_length rows row (Offset offset) after h)
    (λ r. ap (λ (l : List Row). parent_of l r) h.1 ∙ parent_of-moved rows row offset r) siblings are
siblings_changed rows siblings row (Cost part) after h are = siblings_stay rows after h.1.whole (same_parents rows after h.1.same) siblings are

moved_same : (rows : List Row) (row offset : ℕ) → AreSameBefore row rows (moved rows row offset)
moved_same rows row offset = record {
  len = length-moved rows row offset;
  parents = parent_of-moved rows row offset;
  offsets = λ r h. offset_of-moved_other rows row offset r (let ne : r ≢ row = omega arith in ne);
  cowns = cowns_of-moved rows row offset;
  written = written_of-moved rows row offset;
  ticks = λ r h. ticks_of-moved rows row offset r;
}

scaled_same : (rows : List Row) → IsRows rows → (row over under : ℕ) (after : List Row) → IsScaled rows row over under after → AreSameBefore row rows after
scaled_same rows hr row over under after s = record {
  len = s.whole;
  parents = same_parents rows after s.same;
  offsets = λ r h. s.other_offsets r (λ child. absurd (omega (arith, h, hr.parent_before r child.0 child.1, child.2)));
  cowns = same_cowns rows after s.same;
  written = same_written rows after s.same;
  ticks = λ r h. s.other_ticks r (let ne : r ≢ row = omega arith in ne);
}

changed_same : (rows : List Row) → IsRows rows → (row : ℕ) (change : Change) (after : List Row) → IsChanged rows row change after
    → AreSameBefore row rows after
changed_same rows hr row (Ticks ticks) after h = rw h.1 (edited_same rows row ticks)
changed_same rows hr row (Offset offset) after h = rw h.1 (moved_same rows row offset)
changed_same rows hr row (Cost part) after h = scaled_same rows hr row part.over part.under after h.1

same_seen : (s : Sharing) (n : ℕ) (rows others : List Row) → AreSameBefore n rows others → AreSameBefore n (seen s rows) (seen s others)
same_seen SharedReads n rows others a = a
same_seen Exclusive n rows others a = record {
  len = length-seen Exclusive others ∙ a.len ∙ sym (length-seen Exclusive rows);
  parents = λ r. parent_of-seen Exclusive others r ∙ a.parents r ∙ sym (parent_of-seen Exclusive rows r);
  offsets = λ r h. offset_of-seen Exclusive others r ∙ a.offsets r h ∙ sym (offset_of-seen Exclusive rows r);
  cowns = λ r. cowns_of-seen Exclusive others r ∙ a.cowns r ∙ sym (cowns_of-seen Exclusive rows r);
  written = λ r. written_of-writing others r ∙ a.cowns r ∙ sym (written_of-writing rows r);
  ticks = λ r h. ticks_of-seen Exclusive others r ∙ a.ticks r h ∙ sym (ticks_of-seen Exclusive rows r);
}

-- the rows before the one that changes are the same, as plans see them
pub seen_same : (s : Sharing) (rows : List Row) → IsRows rows → (row : ℕ) (change : Change) (after : List Row) → IsChanged rows row change after
    → AreSameBefore row (seen s rows) (seen s after)
seen_same s rows hr row change after h = same_seen s row rows after (changed_same rows hr row change after h)

-- what is wrong with a change is wrong with the edit
pub edit_fault : (rows : List Row) (edit : Edit) (fault : EditFault) → IsChangeFault rows edit.row edit.change fault → IsEditFault rows edit fault
edit_fault rows edit NoRow h = absurd (none rows edit.row edit.change h)
  where
    none : (rows : List Row) (row : ℕ) (change : Change) → IsChangeFault rows row change NoRow → ⊥
    none rows row (Ticks ticks) h = h
    none rows row (Offset offset) h = h
    none rows row (Cost part) h = h
edit_fault rows edit BelowSpawn h = h
edit_fault rows edit TooManyTicks h = h
edit_fault rows edit NoParent h = h
edit_fault rows edit NotBetween h = h

too_few : (rows : List Row) (row ticks : ℕ) → IsBelowSpawn rows row ticks → Fits rows row ticks → ⊥
too_few rows row ticks b f =
    let same : f.last ≡ b.is_least.last = one_last rows (length rows) row f.last b.is_least.last f.is_last b.is_least.is_last in
    omega (arith, f.low, f.covers, b.below, b.is_least.is, same)

change_fault : (rows : List Row) (row : ℕ) (change : Change) (fault : EditFault) → IsChangeFault rows row change fault
    → (after : List Row) → IsChanged rows row change after → ⊥
change_fault rows row (Ticks ticks) NoRow w after h = w
change_fault rows row (Ticks ticks) BelowSpawn w after h = too_few rows row ticks w h.0
change_fault rows row (Ticks ticks) TooManyTicks w after h = omega (arith, w.above, h.0.high)
change_fault rows row (Ticks ticks) NoParent w after h = w
change_fault rows row (Ticks ticks) NotBetween w after h = w
change_fault rows row (Offset offset) NoRow w after h = w
change_fault rows row (Offset offset) BelowSpawn w after h = w
change_fault rows row (Offset offset) TooManyTicks w after h = w
change_fault rows row (Offset offset) NoParent w after h = omega (arith, w.0, h.0.child)
change_fault rows row (Offset offset) NotBetween w after h = w.unfit h.0
change_fault rows row (Cost part) NoRow w after h = w
change_fault rows row (Cost part) BelowSpawn w after h = w
change_fault rows row (Cost part) TooManyTicks w after h =
    omega (arith, w.above, h.2, ap (λ (l : List Row). ticks_of l row) (one_scaling rows row part.over part.under w.after after w.scaled h.1))
change_fault rows row (Cost part) NoParent w after h = w
change_fault rows row (Cost part) NotBetween w after h = w

-- an edit with a fault does not fit
pub refused : (rows : List Row) (edit : Edit) (fault : EditFault) → IsEditFault rows edit fault → (after : List Row)
    → IsChanged rows edit.row edit.change after → ⊥
refused rows edit NoRow w after h = omega (arith, w, changed_there rows edit.row edit.change after h)
refused rows edit BelowSpawn w after h = change_fault rows edit.row edit.change BelowSpawn w after h
refused rows edit TooManyTicks w after h = change_fault rows edit.row edit.change TooManyTicks w after h
refused rows edit NoParent w after h = change_fault rows edit.row edit.change NoParent w after h
refused rows edit NotBetween w after h = change_fault rows edit.row edit.change NotBetween w after h

-- no row gets or loses a child where a row takes other ticks
pub lasts_edited : (rows : List Row) (offsets : List ℕ) (row ticks : ℕ) → HasLasts rows offsets → HasLasts (edited rows row ticks) offsets
lasts_edited rows offsets row ticks h = record {
  whole = h.whole ∙ sym (length-edited rows row ticks);
  at = λ r there. rw (length-edited rows row ticks) (last_edited rows row ticks (length rows) r _
      (h.at r (omega (arith, there, length-edited rows row ticks))));
}

-- what holds anyway holds of a fault
pub on_err : {A E P : Type 0} → (r : Result A E) → P → OnErr r P
on_err (Ok a) h = tt
on_err (Err e) h = h

-- the last children, where those of one row change
module _ (rows after : List Row) (offsets : List ℕ) (p last : ℕ) (h : HasLasts rows offsets) (whole : length after ≡ length rows)
    (parents : (r : ℕ) → parent_of after r ≡ parent_of rows r)
    (others : (b : ℕ) → 0 < b → b < length rows → parent_of rows b ≢ p → offset_of after b ≡ offset_of rows b)
    (is : IsLast after (length after) p last) (there : p < length rows) where
  keeps : (q : ℕ) → q ≢ p → (l : ℕ) → IsLast rows (length rows) q l → IsLast after (length rows) q l
  keeps q ne l k = record {
    none_above = λ a some below same.
        let own : parent_of rows a ≡ q = sym (parents a) ∙ same in
        omega (arith, others a some below (λ (e : parent_of rows a ≡ p). ne (sym own ∙ e)), k.none_above a some below own);
    reached = elim k.reached [
      | inl e ↦ inl e
      | inr (a, some, below, same, at) ↦
          inr (a, some, below, parents a ∙ same, others a some below (λ (e : parent_of rows a ≡ p). ne (sym same ∙ e)) ∙ at)
    ];
  }

  at : (q : ℕ) → q < length after → IsLast after (length after) q (slice_index (slice_set offsets p last) q)
  at q here = elim (cases_eq q p) [
    | inl e ↦ rw (e, get_or-set_same offsets p last 0 (omega (arith, there, h.whole))) is
    | inr ne ↦ rw (get_or-set_other offsets p q last 0 ne, whole) (keeps q ne _ (h.at q (omega (arith, here, whole))))
  ]

  pub lasts_put : HasLasts after (slice_set offsets p last)
  lasts_put = record { whole = length-set offsets p last ∙ h.whole ∙ sym whole; at = at }

-- a list that was written over as a whole
pub written_over : (new items : List ℕ) (len : ℕ) → length new ≡ length items → len ≡ length items → take len (new ++ drop (length new) items) ≡ new
written_over [] [] zero same whole = refl
written_over [] [] (suc len) same whole = absurd (omega (arith, whole))
written_over [] (y ∷ ys) len same whole = absurd (omega (arith, same))
written_over (x ∷ xs) [] len same whole = absurd (omega (arith, same))
written_over (x ∷ xs) (y ∷ ys) zero same whole = absurd (omega (arith, whole))
written_over (x ∷ xs) (y ∷ ys) (suc len) same whole = ap (λ (l : List ℕ). x ∷ l) (written_over xs ys len (omega (arith, same)) (omega (arith, whole)))
