-- Rows that are fit, one after another.
use Rattle.std.proofs.Common.{zero, suc, ◌≡◌, ◌≢◌, inl, inr, ℕ, ◌+◌, ◌<◌, ◌≤◌, List, [], length, Some, get_or, refl, ap, sym, ◌∙◌, subst, arith}
use Rattle.std.specs.Prelude.{slice_get, slice_set, slice_index, replicate}
use Rattle.std.proofs.lemmas.Bool.Decides.{eqb_tells}
use Rattle.std.proofs.lemmas.List.{get_or-set_same, get_or-set_other}
use Rattle.std.proofs.lemmas.Option.{slice_get_read}
use Rattle.boc_runs.specs.declared.rows.Row.{Row}
use Rattle.boc_runs.specs.Rows.{IsRows, IsFit, IsLast, parent_of, offset_of, ticks_of, cowns_of, written_of}
use Rattle.boc_runs.proofs.Scaling.{up_to, is_zero}

-- the fields of a row that was read at its number
pub record IsRow (rows : List Row) (r : ℕ) (x : Row) : Type 0 where
  pub parent : parent_of rows r ≡ x.parent
  pub offset : offset_of rows r ≡ x.offset
  pub cowns : cowns_of rows r ≡ x.cowns.items
  pub ticks : ticks_of rows r ≡ x.ticks
  pub written : written_of rows r ≡ x.written.items

pub row_read : (rows : List Row) (r : ℕ) (x : Row) → r < length rows → x ≡ get_or rows r x → IsRow rows r x
row_read rows r x h e =
    let s : slice_get rows r ≡ Some x = slice_get_read rows (length rows) r x refl h e in
    record { parent = rw s refl; offset = rw s refl; cowns = rw s refl; ticks = rw s refl; written = rw s refl }

-- each row of a record is fit
pub rows_fit : (rows : List Row) → IsRows rows → (r : ℕ) → r < length rows → IsFit rows r
rows_fit rows h r there = record {
  cowns = record { rise = h.cowns_rise r there; below = h.cowns_below r there };
  written = h.written_own r there;
  ticks_low = h.ticks_low r there;
  ticks_high = h.ticks_high r there;
  main = λ e. subst (λ (x : ℕ). (parent_of rows x ≡ 0) × (offset_of rows x ≡ 0) × (cowns_of rows x ≡ [])) (sym e) (h.main_parent, h.main_offset, h.main_cowns);
  child = λ above. record {
    parent_before = h.parent_before r above there;
    offset_above = h.offset_above r above there;
    ticks_cover = h.ticks_cover r above there;
    offsets_rise = λ a k l same. h.offsets_rise a r k l there same;
  };
}

-- a fit row's parent is a row that is there
pub parent_there : (rows : List Row) (r : ℕ) → IsFit rows r → r < length rows → parent_of rows r < length rows
parent_there rows r fit there =
    elim (is_zero r) [
      | inl e ↦ omega (arith, there, (fit.main e).0)
      | inr h ↦ omega (arith, there, (fit.child h).parent_before)
    ]

-- before the first row nobody has a child
pub no_child : (rows : List Row) (p last : ℕ) → last ≡ 0 → IsLast rows 0 p last
no_child rows p last e = record { none_above = λ a above below same. absurd (omega (arith, below)); reached = inl e }

-- the offsets of one parent's children rise
own_above : (rows : List Row) (n a : ℕ) → IsFit rows n → 0 < a → a < n + 1 → parent_of rows a ≡ parent_of rows n → offset_of rows a ≤ offset_of rows n
own_above rows n a fit k l same =
    elim (up_to a n l) [
      | inl e ↦ rw e (omega arith)
      | inr h ↦ omega (arith, (fit.child (omega (arith, k, h))).offsets_rise a k h same)
    ]

main_offset : (rows : List Row) (n : ℕ) → IsFit rows n → n ≡ 0 → offset_of rows n ≡ 0
main_offset rows n fit e = (fit.main e).1

-- the row that comes is the last child of its parent
pub own_child : (rows : List Row) (n : ℕ) → IsFit rows n → IsLast rows (n + 1) (parent_of rows n) (offset_of rows n)
own_child rows n fit = record {
  none_above = λ a k l same. own_above rows n a fit k l same;
  reached = elim (is_zero n) [
    | inl e ↦ inl (main_offset rows n fit e)
    | inr h ↦ inr (n, h, omega arith, refl, refl)
  ];
}

other_above : (rows : List Row) (n p last a : ℕ) → parent_of rows n ≢ p → IsLast rows n p last → 0 < a → a < n + 1 → parent_of rows a ≡ p
    → offset_of rows a ≤ last
other_above rows n p last a other was k l same =
    elim (up_to a n l) [
      | inl e ↦ absurd (other (ap (parent_of rows) (sym e) ∙ same))
      | inr h ↦ was.none_above a k h same
    ]

-- and no child of another row
other_child : (rows : List Row) (n p last : ℕ) → parent_of rows n ≢ p → IsLast rows n p last → IsLast rows (n + 1) p last
other_child rows n p last other was = record {
  none_above = λ a k l same. other_above rows n p last a other was k l same;
  reached = elim was.reached [
    | inl e ↦ inl e
    | inr r ↦ inr (r.0, r.1, omega (arith, r.2), r.3, r.4)
  ];
}

-- the table of last children, after one row more
pub last_more : (rows : List Row) (n : ℕ) (table : List ℕ) → IsFit rows n → parent_of rows n < length table → ((p : ℕ) → IsLast rows n p (slice_index table p))
    → (p : ℕ) → IsLast rows (n + 1) p (slice_index (slice_set table (parent_of rows n) (offset_of rows n)) p)
last_more rows n table fit there lasts p =
    elim (eqb_tells p (parent_of rows n)) [
      | inl e ↦ subst (λ q. IsLast rows (n + 1) q (slice_index (slice_set table (parent_of rows n) (offset_of rows n)) q)) (sym e.1)
          (subst (IsLast rows (n + 1) (parent_of rows n)) (sym (get_or-set_same table (parent_of rows n) (offset_of rows n) 0 there)) (own_child rows n fit))
      | inr e ↦ subst (IsLast rows (n + 1) p) (sym (get_or-set_other table (parent_of rows n) p (offset_of rows n) 0 e.1))
          (other_child rows n p (slice_index table p) (λ q. e.1 (sym q)) (lasts p))
    ]

-- one fit row more
pub fit_more : (rows : List Row) (n : ℕ) → ((r : ℕ) → r < n → IsFit rows r) → IsFit rows n → (r : ℕ) → r < n + 1 → IsFit rows r
fit_more rows n fits fit r h =
    elim (up_to r n h) [
      | inl e ↦ subst (IsFit rows) (sym e) fit
      | inr l ↦ fits r l
    ]

-- fit rows, of which there are some and not too many, are the rows of a record
pub rows_of_fit : (rows : List Row) → 0 < length rows → length rows ≤ 65535 → ((r : ℕ) → r < length rows → IsFit rows r) → IsRows rows
rows_of_fit rows some few fits =
    let main = (fits 0 some).main refl in
    record {
      not_empty = some;
      not_many = few;
      cowns_rise = λ r h. (fits r h).cowns.rise;
      cowns_below = λ r h. (fits r h).cowns.below;
      written_own = λ r h. (fits r h).written;
      main_parent = main.0;
      main_offset = main.1;
      main_cowns = main.2;
      parent_before = λ r above h. ((fits r h).child above).parent_before;
      offset_above = λ r above h. ((fits r h).child above).offset_above;
      offsets_rise = λ a b k l h same. ((fits b h).child (omega (arith, k, l))).offsets_rise a k l same;
      ticks_low = λ r h. (fits r h).ticks_low;
      ticks_high = λ r h. (fits r h).ticks_high;
      ticks_cover = λ r above h. ((fits r h).child above).ticks_cover;
    }

-- zeros
pub zeros : (n p : ℕ) → slice_index (replicate n 0) p ≡ 0
zeros zero p = refl
zeros (suc n) zero = refl
zeros (suc n) (suc p) = zeros n p
