-- The text of the values of cowns.
use Rattle.std.specs.Prelude.{ℕ, suc, List, [], ◌∷◌, ◌++◌, Option, Some, None, take, drop, ℤ, codes, decimal}
use Rattle.std.specs.Fmt.{signed_decimal}
use Rattle.boc_program.specs.declared.cown.Cown.{Cown}
use Rattle.boc_program.specs.Sizes.{members}

-- the line of a single cown: its name and its value
abbrev pub value_line : List ℕ → ℤ → List ℕ
value_line name v = name ++ codes " " ++ signed_decimal v ++ codes "\n"

-- the line of a member of an array
abbrev pub member_line : List ℕ → ℕ → ℤ → List ℕ
member_line name i v = value_line (name ++ codes "[" ++ decimal i ++ codes "]") v

-- the lines of the members of an array from the i-th on
abbrev pub member_lines : List ℕ → ℕ → List ℤ → List ℕ
member_lines name i [] = []
member_lines name i (v ∷ vs) = member_line name i v ++ member_lines name (suc i) vs

-- the lines of a single cown, or of an array, with these values
abbrev pub cown_lines : List ℕ → Option ℕ → List ℤ → List ℕ
cown_lines name None [] = []
cown_lines name None (v ∷ vs) = value_line name v
cown_lines name (Some n) vs = member_lines name 0 vs

-- the cowns' values, in the order of their numbers
abbrev pub values_text : List Cown → List ℤ → List ℕ
values_text [] vs = []
values_text (c ∷ cs) vs = cown_lines c.name c.size (take (members c.size) vs) ++ values_text cs (drop (members c.size) vs)
