-- What is told of two runs: their numbers, their chains, and by how much the ends change.
use Rattle.std.specs.Prelude.{◌-◌, ◌*◌, ◌/◌, ◌==◌, ℕ, zero, suc, List, [], ◌∷◌, ◌++◌, Bool, cond, nat_lt, max, min, Option, Some, None, codes, decimal}
use Rattle.std.specs.Int.{div_ceil}
use Rattle.boc_table.specs.declared.side.Side.{Side as Align}
use Rattle.boc_table.specs.declared.side.Side.TheVariants.{Left, Right}
use Rattle.boc_names.specs.declared.names.Names.{Names}
use Rattle.boc_names.specs.Names.{Text}
use Rattle.boc_why.specs.declared.shares.Share.{Share}
use Rattle.boc_why_report.specs.ShortTexts.{change_text, heaviest_text}
use Rattle.boc_why_report.specs.WhyTexts.{workers_word}
use Rattle.boc_compare.specs.declared.side.Side.{Side}
use Rattle.boc_compare.specs.declared.side.Times.{Times}

-- ---- percents

-- by how many percent of the first number it changes, rounded down
abbrev pub part_of_100 : ℕ → ℕ → ℕ
part_of_100 was now = (max was now - min was now) * 100 / max was 1

-- percents; less than one where they round to none
abbrev pub part_text : ℕ → Text
part_text part = cond (part == 0) (codes "less than 1%") (decimal part ++ codes "%")

-- which way a number changes
abbrev pub less_or_more : ℕ → ℕ → Text
less_or_more was now = cond (nat_lt now was) (codes " less") (codes " more")

-- by how much a number changes, in percent of what it was
abbrev pub percent_text : ℕ → ℕ → Text
percent_text was now = cond (was == now) (codes "the same") (part_text (part_of_100 was now) ++ less_or_more was now)

-- ---- the numbers

-- the sides of the columns: a name, the number before, the number after, and by how much it changes
abbrev pub numbers_sides : List Align
numbers_sides = Left ∷ Right ∷ Right ∷ Right ∷ []

-- what stands above the columns
abbrev pub numbers_head : List Text
numbers_head = [] ∷ codes "before" ∷ codes "after" ∷ [] ∷ []

-- the line of a number
abbrev pub number_texts : Text → ℕ → ℕ → List Text
number_texts name was now = name ∷ decimal was ∷ decimal now ∷ change_text was now ∷ []

-- a name that ends in a number of workers
abbrev pub for_text : Text → ℕ → Text
for_text name workers = name ++ decimal workers

-- the line of the ends for some workers, where both are known
abbrev pub ends_lines : Text → ℕ → Option ℕ → Option ℕ → List (List Text)
ends_lines name workers (Some was) (Some now) = number_texts (for_text name workers) was now ∷ []
ends_lines name workers (Some was) None = []
ends_lines name workers None now = []

-- a tick before which no plan for so many workers ends, where the end for them is known
abbrev pub least_where : Option ℕ → Times → ℕ → Option ℕ
least_where None times workers = None
least_where (Some end) times zero = None
least_where (Some end) times (suc p) = Some (max (div_ceil times.work (suc p)) times.span)

abbrev pub least_for : Times → ℕ → Option ℕ
least_for times workers = least_where times.end times workers

-- the lines of what the rows take
abbrev pub times_lines : ℕ → Times → Times → List (List Text)
times_lines workers was now =
    number_texts (codes "work") was.work now.work ∷ number_texts (codes "span") was.span now.span
    ∷ ends_lines (codes "end for ") workers was.end now.end ++ ends_lines (codes "least for ") workers (least_for was workers) (least_for now workers)

-- the lines of another order, and of the bound for any
abbrev pub order_lines : Side → Side → List (List Text)
order_lines was now =
    number_texts (codes "a better order") was.order_end now.order_end ∷ number_texts (codes "bound for any order") was.bound now.bound ∷ []

-- the lines of what the rows take with typical ticks
abbrev pub typical_lines : ℕ → Times → Times → List (List Text)
typical_lines workers was now =
    number_texts (codes "typical work") was.work now.work ∷ number_texts (codes "typical span") was.span now.span
    ∷ ends_lines (codes "typical end for ") workers was.end now.end

-- the lines of the numbers of the rows as they are
abbrev pub plain_lines : ℕ → Side → Side → List (List Text)
plain_lines workers was now =
    numbers_head ∷ number_texts (codes "rows") was.rows now.rows ∷ times_lines workers was.times now.times ++ order_lines was now

-- the lines of all numbers, with typical ticks too where that is asked
abbrev pub number_lines : ℕ → Bool → Side → Side → List (List Text)
number_lines workers typical was now = plain_lines workers was now ++ cond typical (typical_lines workers was.typical now.typical) []

-- ---- the chains, and the last line

-- the line of the chains: the defs that weigh most on each
abbrev pub chains_text : Names → List Share → Names → List Share → Text
chains_text before was after now = codes "chain  " ++ heaviest_text before was ++ codes "  ->  " ++ heaviest_text after now ++ codes "\n"

-- by how much the span changes with typical ticks, where that is told
abbrev pub typical_told : Bool → Side → Side → Text
typical_told typical was now = cond typical (codes ", with typical ticks " ++ percent_text was.typical.span now.typical.span) []

-- by how much the end for some workers changes, where it is known
abbrev pub end_told : ℕ → Option ℕ → Option ℕ → Text
end_told workers (Some was) (Some now) = codes "; for " ++ decimal workers ++ workers_word workers ++ codes " the end is " ++ percent_text was now
end_told workers (Some was) None = []
end_told workers None now = []

abbrev pub ends_told : ℕ → Side → Side → Text
ends_told workers was now = end_told workers was.times.end now.times.end

-- the last line
abbrev pub verdict_text : ℕ → Bool → Side → Side → Text
verdict_text workers typical was now =
    codes "the span is " ++ percent_text was.times.span now.times.span ++ typical_told typical was now ++ ends_told workers was now ++ codes "\n"
