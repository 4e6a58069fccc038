-- Rows of which one may take other ticks, as they are seen.
use Rattle.std.proofs.Common.{◌≡◌, ◌≢◌, ℕ, ◌<◌, List, length, Option, Some, None, refl, ap, sym, ◌∙◌, get_or, arith}
use Rattle.std.proofs.lemmas.List.{get_or_default}
use Rattle.boc_runs.specs.declared.rows.Row.{Row}
use Rattle.boc_plans.specs.declared.sharing.OtherTicks.{OtherTicks}
use Rattle.boc_plans.specs.declared.sharing.Sharing.{Sharing}
use Rattle.boc_plans.specs.declared.sharing.Sharing.TheVariants.{Exclusive, SharedReads}
use Rattle.boc_runs.specs.Rows.{parent_of, offset_of, ticks_of, cowns_of, written_of}
use Rattle.boc_plans.specs.Seen.{edited_by, seen}
use Rattle.boc_runs.proofs.Children.{row_read}
use Rattle.boc_runs.proofs.Editing.{length-edited, parent_of-edited, offset_of-edited, cowns_of-edited, written_of-edited}
use Rattle.boc_runs.proofs.Editing.{ticks_of-edited_same, ticks_of-edited_other}
use Rattle.boc_plans.proofs.Seeing.{length-seen, parent_of-seen, offset_of-seen, ticks_of-seen, cowns_of-seen}

length-edited_by : (o : Option OtherTicks) (rows : List Row) → length (edited_by o rows) ≡ length rows
length-edited_by None rows = refl
length-edited_by (Some e) rows = length-edited rows e.row e.ticks

parent_of-edited_by : (o : Option OtherTicks) (rows : List Row) (r : ℕ) → parent_of (edited_by o rows) r ≡ parent_of rows r
parent_of-edited_by None rows r = refl
parent_of-edited_by (Some e) rows r = parent_of-edited rows e.row e.ticks r

offset_of-edited_by : (o : Option OtherTicks) (rows : List Row) (r : ℕ) → offset_of (edited_by o rows) r ≡ offset_of rows r
offset_of-edited_by None rows r = refl
offset_of-edited_by (Some e) rows r = offset_of-edited rows e.row e.ticks r

cowns_of-edited_by : (o : Option OtherTicks) (rows : List Row) (r : ℕ) → cowns_of (edited_by o rows) r ≡ cowns_of rows r
cowns_of-edited_by None rows r = refl
cowns_of-edited_by (Some e) rows r = cowns_of-edited rows e.row e.ticks r

written_of-edited_by : (o : Option OtherTicks) (rows : List Row) (r : ℕ) → written_of (edited_by o rows) r ≡ written_of rows r
written_of-edited_by None rows r = refl
written_of-edited_by (Some e) rows r = written_of-edited rows e.row e.ticks r

-- what a row that was read at its number tells, as it is seen, but for its ticks
pub record IsSeenRow (rows : List Row) (r : ℕ) (x : Row) : Type 0 where
  pub parent : x.parent ≡ parent_of rows r
  pub offset : x.offset ≡ offset_of rows r
  pub cowns : x.cowns.items ≡ cowns_of rows r

module _ (s : Sharing) (o : Option OtherTicks) (rows all : List Row) (e : all ≡ seen s (edited_by o rows)) where
  pub length_is : length rows ≡ length all
  length_is = omega (arith, ap (length {A = Row}) e, length-seen s (edited_by o rows), length-edited_by o rows)

  module _ (r : ℕ) (h : r < length all) where
    pub row_there : r < length rows
    row_there = omega (arith, h, length_is)

    pub seen_read : (x : Row) → IsSeenRow all r (get_or rows r x)
    seen_read x =
        let i = row_read rows r (get_or rows r x) row_there (get_or_default rows r x (get_or rows r x) row_there) in
        rw e (record {
          parent = sym i.parent ∙ sym (parent_of-edited_by o rows r) ∙ sym (parent_of-seen s (edited_by o rows) r);
          offset = sym i.offset ∙ sym (offset_of-edited_by o rows r) ∙ sym (offset_of-seen s (edited_by o rows) r);
          cowns = sym i.cowns ∙ sym (cowns_of-edited_by o rows r) ∙ sym (cowns_of-seen s (edited_by o rows) r);
        })

    seen_ticks : (x : Row) → x ≡ get_or rows r x → ticks_of (edited_by o rows) r ≡ ticks_of rows r → x.ticks ≡ ticks_of all r
    seen_ticks x is same = rw e (sym (row_read rows r x row_there is).ticks ∙ sym same ∙ sym (ticks_of-seen s (edited_by o rows) r))

    -- the row takes its own ticks where no row takes others
    pub own_ticks : (x : Row) → x ≡ get_or rows r x → o ≡ None → x.ticks ≡ ticks_of all r
    own_ticks x is none = seen_ticks x is (ap (λ (k : Option OtherTicks). ticks_of (edited_by k rows) r) none)

    -- and where another row does
    pub kept_ticks : (x : Row) → x ≡ get_or rows r x → (edit : OtherTicks) → o ≡ Some edit → r ≢ edit.row → x.ticks ≡ ticks_of all r
    kept_ticks x is edit some ne = seen_ticks x is
        (ap (λ (k : Option OtherTicks). ticks_of (edited_by k rows) r) some ∙ ticks_of-edited_other rows edit.row edit.ticks r ne)

    -- the row that takes other ticks
    pub other_ticks : (edit : OtherTicks) → o ≡ Some edit → r ≡ edit.row → edit.ticks ≡ ticks_of all r
    other_ticks edit some same =
        let there : edit.row < length rows = omega (arith, row_there, same) in
        rw e (sym (ticks_of-edited_same rows edit.row edit.ticks there) ∙ sym (ap (λ (k : Option OtherTicks). ticks_of (edited_by k rows) edit.row) some)
        ∙ sym (ticks_of-seen s (edited_by o rows) edit.row) ∙ ap (λ (k : ℕ). ticks_of (seen s (edited_by o rows)) k) (sym same))

-- what a row wrote, where reads are shared
pub written_read : (s : Sharing) (o : Option OtherTicks) (rows all : List Row) (r : ℕ) (x : Row) → all ≡ seen s (edited_by o rows) → r < length all
    → x ≡ get_or rows r x → s ≡ SharedReads → written_of all r ≡ x.written.items
written_read Exclusive o rows all r x e h is k = absurd (let bad : ⊥ = cc in bad)
written_read SharedReads o rows all r x e h is k =
    rw e (written_of-edited_by o rows r ∙ (row_read rows r x (row_there SharedReads o rows all e r h) is).written)
