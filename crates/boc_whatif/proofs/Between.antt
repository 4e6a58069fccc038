-- A row between its siblings.
use Rattle.std.proofs.Common.{◌≡◌, ℕ, ◌+◌, ◌<◌, ◌≤◌, List, length, get_or, ap, sym, ◌∙◌, inl, inr, arith}
use Rattle.boc_runs.specs.declared.rows.Row.{Row}
use Rattle.boc_runs.specs.Rows.{IsRows, parent_of, offset_of, ticks_of}
use Rattle.boc_runs.specs.Changes.{FitsAt}
use Rattle.boc_runs.specs.Siblings.{IsLastChild, IsNextChild}
use Rattle.boc_runs.proofs.Scaling.{is_zero}
use Rattle.boc_runs.proofs.Children.{row_read, rows_fit, parent_there}
use Rattle.boc_runs.proofs.NextChildren.{last_is, next_is}

-- a row's last child before another row is there; main stands for none
pub last_there : (rows : List Row) → IsRows rows → (p n a : ℕ) → IsLastChild rows p n a → a < length rows
last_there rows hr p n a last = elim (is_zero a) [
  | inl e ↦ omega (arith, e, hr.not_empty)
  | inr some ↦ (last.child some).1.1
]

-- an offset that was read
pub read_offset : (rows : List Row) (r : ℕ) (x : Row) → r < length rows → x ≡ get_or rows r x → offset_of rows r ≡ (get_or rows r x).offset
read_offset rows r x there is = (row_read rows r x there is).offset ∙ ap (λ (z : Row). z.offset) is

-- a parent that was read, and is there
pub read_parent : (rows now : List Row) → now ≡ rows → IsRows rows → (r : ℕ) (x : Row) → r < length rows → x ≡ get_or now r x
    → (parent_of rows r ≡ (get_or now r x).parent) × ((get_or now r x).parent < length rows)
read_parent rows now same hr r x there is =
    let own : parent_of now r ≡ (get_or now r x).parent =
    (row_read now r x (omega (arith, there, ap (length {A = Row}) same)) is).parent ∙ ap (λ (z : Row). z.parent) is in
    let parent : parent_of rows r ≡ (get_or now r x).parent = ap (λ (list : List Row). parent_of list r) (sym same) ∙ own in
    (parent, omega (arith, parent, parent_there rows r (rows_fit rows hr r there) there))

-- the ticks of a parent that was read
pub read_ticks : (rows : List Row) (p q : ℕ) (z : Row) → p ≡ q → q < length rows → z ≡ get_or rows q z → ticks_of rows p ≡ (get_or rows q z).ticks
read_ticks rows p q z same there is = ap (ticks_of rows) same ∙ (row_read rows q z there is).ticks ∙ ap (λ (x : Row). x.ticks) is

-- where a row can be spawned it is behind its elder sibling
pub above_elder : (rows : List Row) → IsRows rows → (row offset elder : ℕ) → row < length rows → IsLastChild rows (parent_of rows row) row elder
    → FitsAt rows row offset → offset_of rows elder < offset
above_elder rows hr row offset elder there before f =
    let last = last_is rows hr (parent_of rows row) row elder (omega (arith, there)) before in
    elim last.reached [
      | inl e ↦ omega (arith, e, f.above)
      | inr (a, some, less, same, is) ↦ omega (arith, is, f.after_elder a some less same)
    ]

-- and before its younger one
pub below_younger : (rows : List Row) (row offset younger : ℕ) → IsNextChild rows (parent_of rows row) (row + 1) younger → FitsAt rows row offset
    → younger < length rows → offset < offset_of rows younger
below_younger rows row offset younger behind f inside = f.before_younger younger (omega (arith, behind.above)) inside (behind.child inside).2

-- and that is all
pub fits_between : (rows : List Row) → IsRows rows → (row offset elder younger : ℕ) → 0 < row → row < length rows
    → IsLastChild rows (parent_of rows row) row elder → IsNextChild rows (parent_of rows row) (row + 1) younger → offset_of rows elder < offset
    → offset ≤ ticks_of rows (parent_of rows row) → (younger < length rows → offset < offset_of rows younger) → FitsAt rows row offset
fits_between rows hr row offset elder younger some there before behind above within below = record {
  child = some;
  there = there;
  above = omega (arith, above);
  after_elder = λ a positive less same.
      omega (arith, (last_is rows hr (parent_of rows row) row elder (omega (arith, there)) before).none_above a positive less same, above);
  before_younger = λ b more here same.
      let next = next_is rows hr (parent_of rows row) (row + 1) younger b behind (omega (arith, more)) (omega (arith, more), here, same) in
      omega (arith, below next.0, next.1);
  within = within;
}
