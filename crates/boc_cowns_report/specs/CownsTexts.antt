-- What is told of the cowns that hold some rows back.
use Rattle.std.specs.Prelude.{◌≡◌, ℕ, zero, suc, ◌+◌, ◌-◌, ◌*◌, ◌/◌, Bool, not, nat_lt, cond, List, [], ◌∷◌, ◌++◌, length, map, take, Option, Some, None}
use Rattle.std.specs.Prelude.{codes, decimal}
use Rattle.boc_plans.specs.declared.sharing.Sharing.{Sharing}
use Rattle.boc_plans.specs.declared.sharing.Sharing.TheVariants.{Exclusive, SharedReads}
use Rattle.boc_table.specs.declared.side.Side.{Side}
use Rattle.boc_table.specs.declared.side.Side.TheVariants.{Left, Right}
use Rattle.boc_table.specs.Tables.{table_text}
use Rattle.boc_names.specs.declared.names.Names.{Names}
use Rattle.boc_names.specs.Names.{Text, text_at, texts_of}
use Rattle.boc_cowns.specs.declared.hot.HotCown.{HotCown}
use Rattle.boc_cowns.specs.declared.hot.HotCowns.{HotCowns}
use Rattle.boc_cowns_report.specs.declared.judged.JudgedCown.{JudgedCown}
use Rattle.boc_advice_report.specs.declared.order.OtherOrder.{OtherOrder}
use Rattle.boc_advice_report.specs.AdviceTexts.{together_table}
use Rattle.boc_advice_report.specs.OrderTexts as orders
use Rattle.boc_advice_report.specs.WorkersTexts as workers
use Rattle.boc_advice_report.specs.WorkersTexts.{workers_text}
use Rattle.boc_cowns_report.specs.declared.lines.Numbers.{Numbers}
use Rattle.boc_cowns_report.specs.declared.told.CownsTold.{CownsTold}
use Rattle.boc_cowns_report.specs.declared.told.JudgedTold.{JudgedTold}
use Rattle.boc_order.specs.Least.{start_or_0}
use Rattle.boc_why_report.specs.WhyTexts.{least_text}
use Rattle.boc_cowns.specs.Hot.{busy_until}

-- ---- the table

-- how many of 100 ticks of the span these are, rounded down
abbrev pub percent : ℕ → ℕ → ℕ
percent ticks span = ticks * 100 / span

-- what a cown is called
abbrev pub name_of : Names → HotCown → Text
name_of names hot = text_at (texts_of names.cowns.items) hot.cown

-- the sides of the columns
abbrev pub cowns_sides : List Side
cowns_sides = Left ∷ Right ∷ Right ∷ Right ∷ Right ∷ Right ∷ Right ∷ Right ∷ []

-- what stands above the columns
abbrev pub cowns_head : List Text
cowns_head =
    codes "cown" ∷ codes "rows" ∷ codes "wrote" ∷ codes "held" ∷ codes "of span" ∷ codes "waited" ∷ codes "chain" ∷ codes "without" ∷ []

-- these ticks in percent of the span
abbrev pub percent_text : ℕ → ℕ → Text
percent_text ticks span = decimal (percent ticks span) ++ codes "%"

-- the numbers of a cown's line
abbrev pub number_texts : ℕ → HotCown → List Text
number_texts span hot =
    decimal hot.rows ∷ decimal hot.wrote ∷ decimal hot.held ∷ percent_text hot.held span ∷ decimal hot.waited ∷ decimal hot.chain
    ∷ decimal hot.without ∷ []

-- the same as they are kept
abbrev pub texts_of_numbers : Numbers → List Text
texts_of_numbers own =
    own.rows.items ∷ own.wrote.items ∷ own.held.items ∷ own.of_span.items ∷ own.waited.items ∷ own.chain.items ∷ own.without.items ∷ []

-- the texts of a cown's line
abbrev pub cown_texts : Names → ℕ → HotCown → List Text
cown_texts names span hot = name_of names hot ∷ number_texts span hot

-- the lines of some cowns
abbrev pub cown_lines : Names → ℕ → List HotCown → List (List Text)
cown_lines names span cowns = map (cown_texts names span) cowns

-- the cowns that are told: all of them, or the first so many
abbrev pub told_of : Option ℕ → List HotCown → List HotCown
told_of None cowns = cowns
told_of (Some most) cowns = take most cowns

-- a line for each cown that is told
abbrev pub cowns_table : Names → Option ℕ → HotCowns → Text
cowns_table names most hot = table_text cowns_sides (cowns_head ∷ cown_lines names hot.span (told_of most hot.cowns.items))

-- ---- the table for a number of workers

-- the sides of the columns, and that of the end of the greedy plan without the cown
abbrev pub judged_sides : List Side
judged_sides = cowns_sides ++ Right ∷ []

-- what stands above these columns
abbrev pub judged_head : List Text
judged_head = cowns_head ++ codes "end without" ∷ []

-- the texts of a cown's line, with the end of the greedy plan without it
abbrev pub judged_texts : Names → ℕ → JudgedCown → List Text
judged_texts names span own = cown_texts names span own.hot ++ decimal own.end ∷ []

-- the lines of some cowns
abbrev pub judged_lines : Names → ℕ → List JudgedCown → List (List Text)
judged_lines names span cowns = map (judged_texts names span) cowns

-- those that are told: all of them, or the first so many
abbrev pub judged_of : Option ℕ → List JudgedCown → List JudgedCown
judged_of None cowns = cowns
judged_of (Some most) cowns = take most cowns

-- a line for each cown that is told
abbrev pub judged_table : Names → Option ℕ → ℕ → List JudgedCown → Text
judged_table names most span cowns = table_text judged_sides (judged_head ∷ judged_lines names span (judged_of most cowns))

-- ---- how many more there are

-- how many more cowns there are, where there are several
abbrev pub many_text : ℕ → Text
many_text count = codes ".. and " ++ decimal count ++ codes " more cowns\n"

-- how many more cowns there are
abbrev pub more_text : ℕ → Text
more_text zero = []
more_text (suc zero) = codes ".. and 1 more cown\n"
more_text (suc (suc n)) = many_text (suc (suc n))

-- ---- the span

-- how long the cown is held that is held longest
abbrev pub held_text : HotCown → Text
held_text own = codes "; busiest cown " ++ decimal own.held

-- the same, where there is a cown
abbrev pub busiest_text : List HotCown → Text
busiest_text [] = []
busiest_text (own ∷ cowns) = held_text own

-- the span, that of the rows without any cown, and how long the first cown is held
abbrev pub span_text : HotCowns → Text
span_text hot =
    codes "span " ++ decimal hot.span ++ codes "; by spawns alone " ++ decimal hot.least.spawns ++ busiest_text hot.cowns.items ++ codes "\n"

-- ---- the verdict

-- whether these are at least 75 of 100 ticks of the span
abbrev pub is_most : ℕ → ℕ → Bool
is_most ticks span = not (nat_lt (ticks * 100) (span * 75))

-- the spawns, which need so long alone that no cown is to blame
abbrev pub spawns_text : HotCowns → Text
spawns_text hot =
    codes "spawns: they alone need " ++ decimal hot.least.spawns ++ codes " of " ++ decimal hot.span
    ++ codes " ticks; spawn earlier, or do less"

-- for how much of the span a cown is held
abbrev pub part_text : Names → HotCowns → HotCown → Text
part_text names hot own =
    codes "load: " ++ name_of names own ++ codes " is held " ++ decimal own.held ++ codes " of " ++ decimal hot.span

-- the cown that is held for long
abbrev pub load_text : Names → HotCowns → HotCown → Text
load_text names hot own = part_text names hot own ++ codes " ticks; split it, or shorten what holds it"

-- the order, where no cown is held for longer than this one
abbrev pub order_text : HotCowns → HotCown → Text
order_text hot own =
    codes "order: no cown is held for more than " ++ decimal own.held ++ codes " of " ++ decimal hot.span
    ++ codes " ticks; another order of the behaviours may end sooner"

-- the cown that keeps every order from an end before late, since no row that wrote it starts before some tick
abbrev pub late_text : Names → HotCowns → HotCown → Text
late_text names hot own =
    part_text names hot own ++ codes " ticks, none of them before tick " ++ decimal (start_or_0 own.from)
    ++ codes "; spawn earlier, split it, or shorten what holds it"

-- of a cown and some others the one that is busy until the latest tick, and of several the first
abbrev pub last_busy : HotCown → List HotCown → HotCown
last_busy own [] = own
last_busy own (next ∷ others) = last_busy (cond (nat_lt (busy_until own) (busy_until next)) next own) others

-- whether at least 75 of 100 of the ticks by which the span is above what the spawns alone need are before a tick
abbrev pub is_late : ℕ → ℕ → ℕ → Bool
is_late tick spawns span = not (nat_lt (tick * 100) (span * 75 + spawns * 25))

-- what of the cowns holds the rows back, where this one is held longest, and that one is busy until the latest tick: that one, where no order ends before
-- a tick so late that most of what the cowns cost is before it; or else the order
abbrev pub by_last_text : Names → HotCowns → HotCown → HotCown → Text
by_last_text names hot own last = cond (is_late (busy_until last) hot.least.spawns hot.span) (late_text names hot last) (order_text hot own)

-- What of the cowns holds the rows back, where this one is held longest, and these are the others: it, where it is held for most of the span; or one
-- that is busy until late, whatever the order, since no row that wrote it starts sooner; or else the order.
abbrev pub by_cowns_text : Names → HotCowns → HotCown → List HotCown → Text
by_cowns_text names hot own others =
    cond (is_most own.held hot.span) (load_text names hot own) (by_last_text names hot own (last_busy own others))

-- What holds the rows back, where these are the cowns, those that are held longest first: the spawns, where there is no cown, or where they alone need
-- most of the span; and else the cowns.
abbrev pub verdict_text : Names → HotCowns → List HotCown → Text
verdict_text names hot [] = spawns_text hot
verdict_text names hot (own ∷ cowns) = cond (is_most hot.least.spawns hot.span) (spawns_text hot) (by_cowns_text names hot own cowns)

-- how many of the rows of a cown only read it
abbrev pub reads_text : Names → HotCown → Text
reads_text names own =
    codes ": " ++ decimal (own.rows - own.wrote) ++ codes " of the " ++ decimal own.rows ++ codes " rows of " ++ name_of names own
    ++ codes " only read it"

-- how many of the rows of the first cown only read it, if any
abbrev pub readers_text : Names → List HotCown → Text
readers_text names [] = []
readers_text names (own ∷ cowns) = cond (nat_lt own.wrote own.rows) (reads_text names own) []

-- the span with shared reads
abbrev pub span_with_text : Names → HotCowns → Text
span_with_text names hot = codes "with --shared-reads the span is " ++ decimal hot.shared ++ readers_text names hot.cowns.items ++ codes "\n"

-- what shared reads would bring, where reads aren't shared and the span would be less
abbrev pub shared_text : Names → Sharing → HotCowns → Text
shared_text names Exclusive hot = cond (nat_lt hot.shared hot.span) (span_with_text names hot) []
shared_text names SharedReads hot = []

-- ---- all that is told

-- a line for each cown that is told, and how many more there are
abbrev pub plain_told : Names → Option ℕ → HotCowns → Text
plain_told names most hot = cowns_table names most hot ++ more_text (length hot.cowns.items - length (told_of most hot.cowns.items))

-- the same, with the ends of the greedy plans without the cowns
abbrev pub judged_told : Names → Option ℕ → HotCowns → List JudgedCown → Text
judged_told names most hot cowns = judged_table names most hot.span cowns ++ more_text (length hot.cowns.items - length (judged_of most cowns))

-- the same of either: with these ends where a number of workers is given
abbrev pub lines_told : Names → Option ℕ → HotCowns → Option JudgedTold → Text
lines_told names most hot None = plain_told names most hot
lines_told names most hot (Some judged) = judged_told names most hot judged.cowns.now

-- what the rows take by some workers, and what holds them back then, where a number of these is given
abbrev pub workers_told : Option JudgedTold → Text
workers_told None = []
workers_told (Some judged) = workers_text judged.workers ++ workers.verdict_text judged.workers

-- the line of a better order, where one was found
abbrev pub order_told : Names → Option OtherOrder → Text
order_told names None = []
order_told names (Some order) = orders.order_text names order

-- the table, how many more cowns there are than it tells, several cowns at once, the span, and what holds the rows back
abbrev pub load_part : Names → Option ℕ → CownsTold → Text
load_part names most told =
    lines_told names most told.hot.now told.judged ++ together_table names told.together.now ++ span_text told.hot.now
    ++ verdict_text names told.hot.now told.hot.now.cowns.items ++ codes "\n"

-- a lower bound for any order, a better order, where one was found, what some workers take, where a number of these is given, and what shared reads would
-- bring
abbrev pub bounds_part : Names → Sharing → CownsTold → Text
bounds_part names sharing told =
    least_text names sharing told.hot.now.least ++ order_told names told.order ++ workers_told told.judged ++ shared_text names sharing told.hot.now

-- all that is told of the cowns that hold some rows back
pub record IsCownsText (names : Names) (sharing : Sharing) (most : Option ℕ) (told : CownsTold) (text : Text) : Type 0 where
  pub is : text ≡ load_part names most told ++ bounds_part names sharing told
