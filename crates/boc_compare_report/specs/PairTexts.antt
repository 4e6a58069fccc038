-- What is told of defs, or of families of cowns, before and after.
use Rattle.std.specs.Prelude.{◌-◌, ℕ, List, [], ◌∷◌, ◌++◌, length, map, take, cond, nat_lt, Option, Some, None, codes, decimal}
use Rattle.boc_table.specs.declared.side.Side.{Side}
use Rattle.boc_table.specs.declared.side.Side.TheVariants.{Left, Right}
use Rattle.boc_names.specs.Names.{Text, text_at}
use Rattle.boc_compare.specs.declared.pairs.Pair.{Pair}
use Rattle.boc_compare.specs.declared.totals.Totals.{Totals}
use Rattle.boc_compare_report.specs.declared.pairs.Heads.{Heads}
use Rattle.boc_compare_report.specs.declared.pairs.Numbers.{Numbers}
use Rattle.boc_compare_report.specs.declared.pairs.TheConstants.{MOST_LISTED}

-- the sides of the columns: a name, four numbers before and after, and whether there is one of the name on both sides
abbrev pub pair_sides : List Side
pair_sides = Left ∷ Right ∷ Right ∷ Right ∷ Right ∷ Right ∷ Right ∷ Right ∷ Right ∷ Left ∷ []

-- the numbers of one side of a line, and dashes where it has none of the name
abbrev pub numbers_of : Option Totals → List Text
numbers_of None = codes "-" ∷ codes "-" ∷ codes "-" ∷ codes "-" ∷ []
numbers_of (Some own) = decimal own.count ∷ decimal own.ticks ∷ decimal own.more ∷ decimal own.chain ∷ []

abbrev pub texts_of_numbers : Numbers → List Text
texts_of_numbers numbers = numbers.count.items ∷ numbers.ticks.items ∷ numbers.more.items ∷ numbers.chain.items ∷ []

-- texts of two lists, one of each in turn
abbrev pub in_turn : List Text → List Text → List Text
in_turn [] others = []
in_turn (a ∷ texts) [] = []
in_turn (a ∷ texts) (b ∷ others) = a ∷ b ∷ in_turn texts others

-- whether only one side has one of the name, and which
abbrev pub new_where : Option Totals → Option Totals → Text
new_where None None = []
new_where None (Some now) = codes "new"
new_where (Some was) None = codes "gone"
new_where (Some was) (Some now) = []

abbrev pub is_new_text : Pair → Text
is_new_text pair = new_where pair.before pair.after

-- the name of a pair, by the names of the side that has it
abbrev pub name_where : List Text → List Text → Option Totals → Option Totals → Text
name_where before after None None = []
name_where before after None (Some now) = text_at after now.key
name_where before after (Some was) now = text_at before was.key

abbrev pub name_text : List Text → List Text → Pair → Text
name_text before after pair = name_where before after pair.before pair.after

-- the texts of the line of a pair
abbrev pub pair_texts : List Text → List Text → Pair → List Text
pair_texts before after pair =
    (codes "  " ++ name_text before after pair) ∷ in_turn (numbers_of pair.before) (numbers_of pair.after) ++ is_new_text pair ∷ []

-- the lines of some pairs
abbrev pub pair_lines : List Text → List Text → List Pair → List (List Text)
pair_lines before after pairs = map (pair_texts before after) pairs

-- the texts of the line behind a list that says how many more there are
abbrev pub more_texts : ℕ → List Text
more_texts count = (codes "  " ++ decimal count ++ codes " more") ∷ [] ∷ [] ∷ [] ∷ [] ∷ [] ∷ [] ∷ [] ∷ [] ∷ [] ∷ []

-- the line behind a list of so many, where that is more than are told
abbrev pub more_lines : ℕ → List (List Text)
more_lines count = cond (nat_lt MOST_LISTED count) (more_texts (count - MOST_LISTED) ∷ []) []

-- the words above the numbers of a table: what has the names, and what is told of it
pub record HeadWords : Type 0 where
  pub name : Text
  pub count : Text
  pub ticks : Text
  pub more : Text

abbrev pub words_of : Heads → HeadWords
words_of heads = record { name = heads.name.now; count = heads.count.now; ticks = heads.ticks.now; more = heads.more.now }

-- those of defs: how many rows each has, their ticks together, and the typical ticks of one
abbrev pub def_words : HeadWords
def_words = record { name = codes "def"; count = codes "rows"; ticks = codes "ticks"; more = codes "typical" }

-- those of families of cowns: how many there are, how long the one is held that is held longest, and how long rows wait for them
abbrev pub cown_words : HeadWords
cown_words = record { name = codes "cown"; count = codes "cowns"; ticks = codes "held"; more = codes "waited" }

-- what stands above the columns
abbrev pub head_texts : HeadWords → List Text
head_texts heads =
    heads.name ∷ heads.count ∷ codes "now" ∷ heads.ticks ∷ codes "now" ∷ heads.more ∷ codes "now" ∷ codes "chain" ∷ codes "now" ∷ [] ∷ []

-- all lines of the table
abbrev pub pairs_lines : HeadWords → List Text → List Text → List Pair → List (List Text)
pairs_lines heads before after pairs = head_texts heads ∷ pair_lines before after (take MOST_LISTED pairs) ++ more_lines (length pairs)
