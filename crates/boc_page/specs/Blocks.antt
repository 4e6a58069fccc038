-- The data block of a page.
use Rattle.std.specs.Prelude.{◌≡◌, ℕ, false, All, List, [], ◌∷◌, ◌++◌, length, map, take, Option, Some, None, codes}
use Rattle.boc_plans.specs.declared.sharing.Sharing.{Sharing}
use Rattle.boc_plans.specs.declared.sharing.Sharing.TheVariants.{Exclusive, SharedReads}
use Rattle.boc_runs.specs.declared.rows.Row.{Row}
use Rattle.boc_cowns.specs.declared.hot.HotCown.{HotCown}
use Rattle.boc_names.specs.Names.{Text, texts_of}
use Rattle.boc_page.specs.declared.advice.TheConstants.{MOST_LISTED}
use Rattle.boc_page.specs.declared.block.Block.{Block}
use Rattle.boc_page.specs.declared.block.LineTicks.{LineTicks}
use Rattle.boc_page.specs.Json.{is_coded, key_text, lists_member, number_member, numbers_member, string_member, string_text, strings_member}
use Rattle.boc_page.specs.Columns.{AreArgs, cowns_of, faults_from, point_numbers, wrote_of}
use Rattle.boc_page.specs.Advice.{candidates_text, cown_lines}

-- whether reads are shared, as JSON
abbrev pub shared_text : Sharing → Text
shared_text Exclusive = codes "false"
shared_text SharedReads = codes "true"

-- the numbers at the head, from the brace on
unfoldable pub head_part : Block → Text
head_part block = codes "{\"format\":1" ++ string_member (codes "title") block.title.now ++ string_member (codes "run") block.run.now
    ++ key_text (codes "shared") ++ shared_text block.sharing ++ number_member (codes "p") block.greedy.now.p
    ++ number_member (codes "work") block.profile.now.work ++ number_member (codes "span") block.profile.now.span
    ++ number_member (codes "end") block.greedy.now.ends_at ++ number_member (codes "bound") block.greedy.now.bound

-- the names of defs and cowns, the def of each row, and what follows that def's name in the row's, which are these
unfoldable pub names_part : Block → List Text → Text
names_part block args = strings_member (codes "defs") (texts_of block.defs.now.names.items)
    ++ strings_member (codes "cowns") (texts_of block.names.now.cowns.items) ++ numbers_member (codes "def") block.defs.now.of_rows.items
    ++ strings_member (codes "args") args

-- the columns of rows
unfoldable pub rows_part : List Row → Text
rows_part rows = numbers_member (codes "parent") (map (λ r. r.parent) rows) ++ numbers_member (codes "offset") (map (λ r. r.offset) rows)
    ++ numbers_member (codes "ticks") (map (λ r. r.ticks) rows) ++ lists_member (codes "holds") (map cowns_of rows)
    ++ numbers_member (codes "wrote") (map wrote_of rows) ++ lists_member (codes "faults") (faults_from 0 rows)

-- the plans, the chain and the curve
unfoldable pub plans_part : Block → Text
plans_part block = numbers_member (codes "start") block.profile.now.starts.items ++ numbers_member (codes "greedyStart") block.greedy.now.starts.items
    ++ numbers_member (codes "worker") block.greedy.now.workers.items
    ++ numbers_member (codes "chain") (map (λ s. s.row) block.profile.now.chain.steps.items)
    ++ lists_member (codes "curve") (map point_numbers block.curve.now)

-- for how long the first cown is held
abbrev pub busiest : List HotCown → ℕ
busiest [] = 0
busiest (own ∷ others) = own.held

-- what would help, and what cowns cost
unfoldable pub advice_part : Block → Text
advice_part block = candidates_text block.names.now (take MOST_LISTED block.candidates.now) ++ string_member (codes "least") block.least.now
    ++ string_member (codes "verdict") block.verdict.now ++ string_member (codes "reads") block.reads.now
    ++ number_member (codes "spawnsAlone") block.hot.now.least.spawns ++ number_member (codes "busiest") (busiest block.hot.now.cowns.items)
    ++ lists_member (codes "cownTable") (cown_lines (length block.names.now.cowns.items) block.hot.now)

-- the text of a program, or null
abbrev pub source_text : Option Text → Text
source_text None = codes "null"
source_text (Some source) = string_text source

-- of a line its number, its ticks, and those that the chain goes through
abbrev pub line_numbers : LineTicks → List ℕ
line_numbers own = own.line ∷ own.ticks ∷ own.chain ∷ []

-- the text of the program and the ticks of its lines
unfoldable pub program_part : Option Text → List LineTicks → Text
program_part source lines = key_text (codes "source") ++ source_text source ++ lists_member (codes "lines") (map line_numbers lines)

-- no byte of a text is one that a string has by its number: none is below 32, or `<`, `>` or `&`, so nothing in it ends the element that holds it
abbrev pub IsInert : Text → Type 0
IsInert text = All (λ byte. is_coded byte ≡ false) text

-- A text is the data block of these: one object, whose columns are those of the rows, the names, the plans and what would help.
pub record IsBlock (block : Block) (source : Option Text) (text : Text) : Type 0 where
  pub args : List Text
  pub are_args : AreArgs block.names.now args
  pub is : text ≡ head_part block ++ names_part block args ++ rows_part block.rows.now ++ plans_part block ++ advice_part block
      ++ program_part source block.lines.now ++ codes "}"
