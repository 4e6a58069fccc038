-- What is kept of charges: of each number its ticks so far, and those of them that a chain goes through.
use Rattle.std.specs.Prelude.{ℕ, ◌+◌, ◌-◌, min, List, [], ◌∷◌, slice_index, slice_set, ℤ}
use Rattle.boc_lines.specs.Charges.{Charge, Bill}

-- the ticks of each number, those that the chain goes through, and up to how many further ticks it goes through this row
pub record Book : Type 0 where
  pub ticks : List ℕ
  pub chain : List ℕ
  pub left : ℕ

-- with n more at a place
abbrev pub add_at : List ℕ → ℕ → ℕ → List ℕ
add_at counts k n = slice_set counts k (slice_index counts k + n)

-- charges counted by number
abbrev pub tally : List ℕ → List Charge → List ℕ
tally counts [] = counts
tally counts (c ∷ charges) = tally (add_at counts c.statement c.ticks) charges

-- a charge is noted
abbrev pub with_charge : Book → Charge → Book
with_charge b c = record {
  ticks = add_at b.ticks c.statement c.ticks;
  chain = add_at b.chain c.statement (min b.left c.ticks);
  left = b.left - c.ticks;
}

-- charges are noted, one after another
abbrev pub noted : Book → List Charge → Book
noted b [] = b
noted b (c ∷ charges) = noted (with_charge b c) charges

-- a book at the end of a body, with the values of its slots
pub record Entry : Type 0 where
  pub book : Book
  pub slots : List ℤ

-- the charges of a bill are noted
abbrev pub entered : Book → Bill → Entry
entered b bill = record { book = noted b bill.charges; slots = bill.slots }
