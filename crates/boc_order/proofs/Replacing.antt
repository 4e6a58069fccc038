-- Rows that are placed anew from a row on: those before it stay placed where only later rows change.
use Rattle.std.proofs.Common.{◌≡◌, ◌≢◌, ℕ, ◌<◌, ◌≤◌, List, length, take, Option, None, sym, ◌∙◌, arith}
use Rattle.std.specs.Prelude.{slice_index, slice_index_or}
use Rattle.std.proofs.lemmas.List.{get_or-take, length-take}
use Rattle.boc_runs.specs.declared.rows.Row.{Row}
use Rattle.boc_runs.specs.Rows.{IsRows, edited}
use Rattle.boc_plans.specs.Greedy.{IsSpan}
use Rattle.boc_runs.proofs.Editing.{length-edited, parent_of-edited, offset_of-edited, cowns_of-edited, written_of-edited, ticks_of-edited_other}
use Rattle.boc_order.specs.Placed.{ArePlaced}
use Rattle.boc_order.specs.Waits.{IsNear}
use Rattle.boc_order.proofs.Placing.{AreSameBefore, same_back, conflict_same, still_placed}
use Rattle.boc_order.proofs.Chaining.{placed_earliest}

pub edited_same : (rows : List Row) (row ticks : ℕ) → AreSameBefore row rows (edited rows row ticks)
edited_same rows row ticks = record {
  len = length-edited rows row ticks;
  parents = parent_of-edited rows row ticks;
  offsets = λ r h. offset_of-edited rows row ticks r;
  cowns = cowns_of-edited rows row ticks;
  written = written_of-edited rows row ticks;
  ticks = λ r h. ticks_of-edited_other rows row ticks r (let ne : r ≢ row = omega arith in ne);
}

-- a row waits for the same rows
pub near_same : (n : ℕ) (rows others : List Row) (a b : ℕ) → AreSameBefore n rows others → IsNear others a b → IsNear rows a b
near_same n rows others a b s is = record {
  there = omega (arith, s.len, is.there);
  cown = is.cown;
  near = record {
    before = is.near.before;
    conflict = conflict_same n rows others s is.cown a b is.near.conflict;
    none_between = λ k low high one two. is.near.none_between k low high
        (conflict_same n others rows (same_back n rows others s) is.cown a k one) (conflict_same n others rows (same_back n rows others s) is.cown k b two);
  };
}

-- the first n placed rows stay placed in the first n places, also among rows that have other ticks and offsets from row n on
pub placed_first : (n m : ℕ) (rows others : List Row) → IsRows rows → (starts ends : List ℕ) (after : List (Option ℕ)) → AreSameBefore n rows others → n ≤ m →
    ArePlaced rows starts ends after m → ArePlaced others (take n starts) (take n ends) (take n after) n
placed_first n m rows others hr starts ends after s h p = record {
  starts_len = omega (arith, length-take n starts, p.starts_len);
  ends_len = omega (arith, length-take n ends, p.ends_len);
  after_len = omega (arith, length-take n after, p.after_len);
  placed = λ b below.
      (let same : slice_index_or (take n after) b None ≡ slice_index_or after b None = get_or-take n after b None below in
      rw same (still_placed n rows others s hr starts (take n starts) ends (take n ends) (λ r k. get_or-take n starts r 0 k) (λ r k. get_or-take n ends r 0 k)
      b below (slice_index_or after b None) (p.placed b (omega arith))));
}

-- of a plan of some rows: the rows before row n stand, once that row takes other ticks
pub edited_first : (rows : List Row) → IsRows rows → (n ticks m : ℕ) (starts ends : List ℕ) (after : List (Option ℕ)) → n ≤ m →
    ArePlaced rows starts ends after m → ArePlaced (edited rows n ticks) (take n starts) (take n ends) (take n after) n
edited_first rows hr n ticks m starts ends after h p = placed_first n m rows (edited rows n ticks) hr starts ends after (edited_same rows n ticks) h p

-- the greatest end of the placed rows is their span
pub greatest_is_span : (rows : List Row) → IsRows rows → (starts ends : List ℕ) (after : List (Option ℕ)) → ArePlaced rows starts ends after (length rows) →
    (last : ℕ) → ((k : ℕ) → k < length ends → slice_index ends k ≤ last) → (r : ℕ) → r < length ends → slice_index ends r ≡ last → IsSpan rows last
greatest_is_span rows hr starts ends after p last none_later r there e = record {
  plan = starts;
  earliest = placed_earliest rows hr starts ends after p;
  ends = record {
    none_later = λ k h. omega (arith, none_later k (omega (arith, h, p.ends_len)), (p.placed k h).ends_then);
    reached = (r, omega (arith, p.ends_len), sym ((p.placed r (omega (arith, p.ends_len))).ends_then) ∙ e);
  };
}
