-- What is told of the chain that holds some rows back.
use Rattle.std.specs.Prelude.{◌≡◌, ◌-◌, ℕ, zero, suc, List, [], ◌∷◌, ◌++◌, length, map, take, cond, nat_eq, nat_lt, Bool, Option, Some, None, slice_get, codes, decimal}
use Rattle.boc_plans.specs.declared.sharing.Sharing.{Sharing}
use Rattle.boc_plans.specs.declared.sharing.Sharing.TheVariants.{Exclusive, SharedReads}
use Rattle.boc_table.specs.declared.side.Side.{Side}
use Rattle.boc_table.specs.declared.side.Side.TheVariants.{Left, Right}
use Rattle.boc_table.specs.Tables.{table_text}
use Rattle.boc_names.specs.declared.names.Names.{Names}
use Rattle.boc_names.specs.Names.{Text, text_at, texts_of}
use Rattle.boc_why.specs.declared.links.Link.{Link}
use Rattle.boc_why.specs.declared.shares.Share.{Share}
use Rattle.boc_order.specs.declared.least.Busiest.{Busiest}
use Rattle.boc_order.specs.declared.least.Least.{Least}
use Rattle.boc_order.specs.Least.{tick_of}
use Rattle.boc_why.specs.declared.why.Why.{Why}
use Rattle.boc_why_report.specs.ChainTexts.{link_text, told_chain}
use Rattle.boc_why_report.specs.declared.told.TimedEnd.{TimedEnd}
use Rattle.boc_why_report.specs.declared.lists.Line.{Line}
use Rattle.boc_why_report.specs.declared.lists.TheConstants.{MOST_LISTED}

-- ---- lists

-- the texts of the line behind a list that says how many more there are
abbrev pub more_texts : ℕ → List Text
more_texts count = (codes "  " ++ decimal count ++ codes " more") ∷ [] ∷ [] ∷ []

-- the line behind a list of so many, where that is more than are told
abbrev pub more_line : ℕ → List (List Text)
more_line count = cond (nat_lt MOST_LISTED count) (more_texts (count - MOST_LISTED) ∷ []) []

-- at most so many of these lines, and how many more there are
abbrev pub at_most : List (List Text) → List (List Text)
at_most lines = take MOST_LISTED lines ++ more_line (length lines)

-- the texts of a line
abbrev pub texts_of_line : Line → List Text
texts_of_line line = line.name.items ∷ line.first.items ∷ line.second.items ∷ []

-- a name in a list, and two numbers
abbrev pub entry_texts : Text → ℕ → ℕ → List Text
entry_texts name a b = (codes "  " ++ name) ∷ decimal a ∷ decimal b ∷ []

-- the lines of the shares by def
abbrev pub def_lines : Names → List Share → List (List Text)
def_lines names shares = map (λ s. entry_texts (text_at (texts_of names.def_names.items) s.key) s.ticks s.steps) shares

-- what the link at a place of a chain is called
abbrev pub link_at : Names → Option Link → Text
link_at names None = []
link_at names (Some link) = link_text names link

-- the texts of the line of a share of a link
abbrev pub link_share_texts : Names → List Link → Share → List Text
link_share_texts names links s = entry_texts (link_at names (slice_get links s.key)) s.ticks s.steps

-- the lines of the shares by link
abbrev pub link_lines : Names → List Link → List Share → List (List Text)
link_lines names links shares = map (link_share_texts names links) shares

-- the lines of two lists beside each other, a column between them; where one ends, nothing stands
abbrev pub beside : List (List Text) → List (List Text) → List (List Text)
beside [] [] = []
beside [] (b ∷ others) = ([] ∷ [] ∷ [] ∷ [] ∷ b) ∷ beside [] others
beside (a ∷ rest) [] = (a ++ [] ∷ [] ∷ [] ∷ [] ∷ []) ∷ beside rest []
beside (a ∷ rest) (b ∷ others) = (a ++ [] ∷ b) ∷ beside rest others

-- the sides of a list's columns
abbrev pub list_sides : List Side
list_sides = Left ∷ Right ∷ Right ∷ []

-- what stands above the shares, where these words tell which
abbrev pub shares_head : Text → Text → List Text
shares_head left right = left ∷ codes "ticks" ∷ codes "rows" ∷ codes "    " ∷ right ∷ codes "ticks" ∷ codes "links" ∷ []

-- the sides of the columns of two lists beside each other
abbrev pub shares_sides : List Side
shares_sides = list_sides ++ Left ∷ list_sides

-- the lines of the shares by def, and beside them of those by link
abbrev pub shares_lines : Names → Text → Text → List Share → List Link → List Share → List (List Text)
shares_lines names left right by_def links by_link =
    shares_head left right ∷ beside (at_most (def_lines names by_def)) (at_most (link_lines names links by_link))

-- the shares by def, and beside them those by link
abbrev pub shares_text : Names → Text → Text → List Share → List Link → List Share → Text
shares_text names left right by_def links by_link = table_text shares_sides (shares_lines names left right by_def links by_link)

-- the shares of the chain that holds rows back
abbrev pub shares_of_chain : Names → Why → Text
shares_of_chain names why = shares_text names (codes "chain by def") (codes "chain by link") why.by_def.items why.links.items why.by_link.items

-- ---- the rest

-- the word after a number of workers
abbrev pub workers_word : ℕ → Text
workers_word workers = cond (nat_eq workers 1) (codes " worker") (codes " workers")

-- the end of a timed run; nothing where there is none
abbrev pub timed_end_text : Option TimedEnd → Text
timed_end_text None = []
timed_end_text (Some end) = codes "   end " ++ decimal end.tick ++ codes " on " ++ decimal end.workers ++ workers_word end.workers

-- the numbers at the head
abbrev pub head_text : Why → Option TimedEnd → Text
head_text why timed =
    codes "rows " ++ decimal (length why.profile.starts.items) ++ codes "   work " ++ decimal why.profile.work ++ codes "   span "
    ++ decimal why.profile.span ++ timed_end_text timed ++ codes "\n"

-- what a cown is busy with: being held, or, where reads are shared, being written
abbrev pub busy_text : Sharing → Text
busy_text Exclusive = codes " is held for "
busy_text SharedReads = codes " is written for "

-- a tick from which on a cown is busy
abbrev pub tick_text : ℕ → Text
tick_text tick = codes ", from tick " ++ decimal tick ++ codes " on"

-- the same, where the cown isn't busy from the start on
abbrev pub from_text : Option ℕ → Text
from_text None = []
from_text (Some zero) = []
from_text (Some (suc n)) = tick_text (suc n)

-- for how long a cown is busy, and from when on
abbrev pub load_text : Names → Sharing → Busiest → Text
load_text names sharing busiest =
    text_at (texts_of names.cowns.items) busiest.cown ++ busy_text sharing ++ decimal busiest.load ++ codes " ticks" ++ from_text busiest.from

-- why no order ends sooner: the cown that is busy until the latest tick, or the spawns, where they alone take longer
abbrev pub reason_text : Names → Sharing → ℕ → Option Busiest → Text
reason_text names sharing spawns None = codes "their spawns take that long"
reason_text names sharing spawns (Some busiest) =
    cond (nat_lt busiest.until spawns) (codes "their spawns take that long") (load_text names sharing busiest)

-- the tick before which no order of the cowns ends
abbrev pub bound_text : ℕ → Text
bound_text tick = codes "lower bound for any order: " ++ decimal tick ++ codes " ("

-- a lower bound for any order on the cowns, and why
abbrev pub least_text : Names → Sharing → Least → Text
least_text names sharing least = bound_text (tick_of least) ++ reason_text names sharing least.spawns least.busiest ++ codes ")\n"

-- the text of the chain, and its shares, each behind an empty line
abbrev pub with_shares : Names → Why → Text → Text
with_shares names why chain = codes "\n" ++ chain ++ codes "\n" ++ shares_of_chain names why

-- the chain, all of its lines or folded, and its shares
abbrev pub chain_told : Names → Bool → Why → Text
chain_told names all why = with_shares names why (told_chain names all why)
