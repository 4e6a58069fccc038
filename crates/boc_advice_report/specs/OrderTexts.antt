-- How a better order is told.
use Rattle.std.specs.Prelude.{ℕ, Bool, not, nat_eq, [], ◌++◌, cond, codes, decimal}
use Rattle.std.specs.Cmp.Lexicographic.{pointwise}
use Rattle.boc_names.specs.declared.names.Names.{Names}
use Rattle.boc_names.specs.Names.{Text, text_at, texts_of}
use Rattle.boc_advice_report.specs.declared.order.OtherOrder.{OtherOrder}

-- a row by its number
abbrev pub number_text : ℕ → Text
number_text row = codes "row " ++ decimal row

-- whether a row has a name of its own
abbrev pub has_name : Names → ℕ → Bool
has_name names row = not (pointwise nat_eq (text_at (texts_of names.rows.items) row) (number_text row))

-- a row: its number, and its name, where it has one of its own
abbrev pub row_text : Names → ℕ → Text
row_text names row = number_text row ++ cond (has_name names row) (codes ", " ++ text_at (texts_of names.rows.items) row) []

-- when a better order ends, and over which cown it first goes otherwise than the run
abbrev pub first_text : Names → OtherOrder → Text
first_text names order =
    codes "a better order ends at " ++ decimal order.end ++ codes ": start whatever can start; it differs first at "
    ++ text_at (texts_of names.cowns.items) order.swap.cown ++ codes ", where "

-- the row that goes first, with a comma behind its name, where it has one
abbrev pub ahead_text : Names → ℕ → Text
ahead_text names row = row_text names row ++ cond (has_name names row) (codes ",") []

-- the line of a better order: when it ends, and where it first goes otherwise than the run
abbrev pub order_text : Names → OtherOrder → Text
order_text names order =
    first_text names order ++ ahead_text names order.swap.ahead ++ codes " comes before " ++ row_text names order.swap.passed ++ codes "\n"
