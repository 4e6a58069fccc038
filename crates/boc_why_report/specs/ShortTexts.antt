-- What is told in short of some rows before and after they change.
use Rattle.std.specs.Prelude.{◌≡◌, ◌-◌, ℕ, zero, suc, List, [], ◌∷◌, ◌++◌, cond, nat_lt, Option, Some, codes, decimal}
use Rattle.boc_table.specs.declared.side.Side.{Side}
use Rattle.boc_table.specs.declared.side.Side.TheVariants.{Left, Right}
use Rattle.boc_table.specs.Tables.{table_text}
use Rattle.boc_names.specs.declared.names.Names.{Names}
use Rattle.boc_names.specs.Names.{Text, text_at, texts_of}
use Rattle.boc_why.specs.declared.shares.Share.{Share}
use Rattle.boc_why_report.specs.declared.short.Outcome.{Outcome}

-- ---- numbers before and after

-- by how much a number changes; nothing, where it stays
abbrev pub change_text : ℕ → ℕ → Text
change_text was now = cond (nat_lt was now) (codes "+" ++ decimal (now - was)) (cond (nat_lt now was) (codes "-" ++ decimal (was - now)) [])

-- the sides of the columns: a name, the number before, the number after, and by how much it changes
abbrev pub short_sides : List Side
short_sides = Left ∷ Right ∷ Right ∷ Right ∷ []

-- what stands above the columns, each of which is wide enough for four digits
abbrev pub short_head : List Text
short_head = [] ∷ codes " was" ∷ codes " now" ∷ codes "    " ∷ []

-- the line of the work, of which it isn't told by how much it changes
abbrev pub work_texts : ℕ → ℕ → List Text
work_texts was now = codes "work  " ∷ decimal was ∷ decimal now ∷ [] ∷ []

-- the line of an end, by its name
abbrev pub end_texts : Text → ℕ → ℕ → List Text
end_texts name was now = name ∷ decimal was ∷ decimal now ∷ change_text was now ∷ []

-- the line of the greedy plan's end, where there is one before and after
abbrev pub greedy_texts : Option ℕ → Option ℕ → List (List Text)
greedy_texts (Some was) (Some now) = end_texts (codes "end") was now ∷ []
greedy_texts was now = []

-- the lines of the numbers
abbrev pub short_lines : Outcome → Outcome → List (List Text)
short_lines was now =
    short_head ∷ work_texts was.work now.work ∷ end_texts (codes "span") was.span now.span ∷ greedy_texts was.end now.end

-- ---- the chain

-- a share of a chain: the name of the def, and its ticks
abbrev pub share_text : Names → Share → Text
share_text names s = text_at (texts_of names.def_names.items) s.key ++ codes " " ++ decimal s.ticks

-- shares behind others, at most so many; two dots stand for those that are left
abbrev pub more_shares : Names → ℕ → List Share → Text
more_shares names most [] = []
more_shares names zero (s ∷ shares) = codes ", .."
more_shares names (suc most) (s ∷ shares) = codes ", " ++ share_text names s ++ more_shares names most shares

-- the shares of a chain that weigh most: the first three
abbrev pub heaviest_text : Names → List Share → Text
heaviest_text names [] = []
heaviest_text names (s ∷ shares) = share_text names s ++ more_shares names 2 shares

-- the line of the chain: its heaviest shares before and after
abbrev pub chain_line : Names → List Share → List Share → Text
chain_line names was now = codes "chain    " ++ heaviest_text names was ++ codes "   ->   " ++ heaviest_text names now ++ codes "\n"

-- what is told in short of some rows before and after they change
abbrev pub short_text : Names → Outcome → Outcome → Text
short_text names was now = table_text short_sides (short_lines was now) ++ chain_line names was.by_def.items now.by_def.items

-- two outcomes are the same in all that is told of them
pub record ComeToTheSame (outcome other : Outcome) : Type 0 where
  pub work : outcome.work ≡ other.work
  pub span : outcome.span ≡ other.span
  pub end : outcome.end ≡ other.end
  pub by_def : outcome.by_def.items ≡ other.by_def.items
