-- What is told of the same cowns is the same, in names that call everything the same.
use Rattle.std.proofs.Common.{◌≡◌, ◌∙◌, ◌-◌, ℕ, cond, List, [], ◌∷◌, ◌++◌, length, map, ap, refl, sym, Option, Some, None}
use Rattle.std.specs.Prelude.{codes, decimal, nat_lt}
use Rattle.boc_plans.specs.declared.sharing.Sharing.{Sharing}
use Rattle.boc_plans.specs.declared.sharing.Sharing.TheVariants.{Exclusive, SharedReads}
use Rattle.boc_table.specs.Tables.{table_text}
use Rattle.boc_names.specs.declared.names.Names.{Names}
use Rattle.boc_names.specs.Names.{CallTheSame, Text, text_at}
use Rattle.boc_cowns.specs.declared.hot.HotCown.{HotCown}
use Rattle.boc_cowns.specs.declared.hot.HotCowns.{HotCowns}
use Rattle.boc_order.specs.Least.{start_or_0}
use Rattle.boc_why_report.specs.WhyTexts.{least_text}
use Rattle.boc_why_report.proofs.OneText.{least_text_same}
use Rattle.boc_cowns.specs.Hot.{busy_until}
use Rattle.boc_advice_report.specs.declared.order.OtherOrder.{OtherOrder}
use Rattle.boc_advice_report.specs.declared.workers.ForWorkers.{ForWorkers}
use Rattle.boc_advice_report.specs.AdviceTexts.{together_table}
use Rattle.boc_advice_report.specs.WorkersTexts as workers
use Rattle.boc_advice_report.specs.WorkersTexts.{workers_text}
use Rattle.boc_advice_report.proofs.OneText.{order_same, together_same}
use Rattle.boc_cowns_report.specs.declared.judged.JudgedCown.{JudgedCown}
use Rattle.boc_cowns_report.specs.declared.told.CownsTold.{CownsTold}
use Rattle.boc_cowns_report.specs.declared.told.JudgedTold.{JudgedTold}
use Rattle.boc_cowns_report.specs.Same.{JudgeTheSame, TellTheSame}
use Rattle.boc_cowns_report.specs.CownsTexts.{IsCownsText, bounds_part, judged_head, judged_of, judged_sides, judged_told, lines_told, load_part, order_told}
use Rattle.boc_cowns_report.specs.CownsTexts.{plain_told, workers_told}
use Rattle.boc_cowns_report.specs.CownsTexts.{last_busy, busiest_text, by_cowns_text, by_last_text, cown_texts, cowns_head, cowns_sides}
use Rattle.boc_cowns_report.specs.CownsTexts.{cowns_table, is_late, is_most, more_text, percent_text}
use Rattle.boc_cowns_report.specs.CownsTexts.{readers_text, shared_text, span_text, spawns_text, told_of, verdict_text}

module _ (a b : Names) (same : CallTheSame a b) (hot other : HotCowns) (span : hot.span ≡ other.span) (least : hot.least ≡ other.least)
    (shared : hot.shared ≡ other.shared) (cowns : hot.cowns.items ≡ other.cowns.items) where
  -- ---- the table

  cown_same : (span : ℕ) (own : HotCown) → cown_texts a span own ≡ cown_texts b span own
  cown_same span own = λ i. text_at (same.cowns i) own.cown ∷ decimal own.rows ∷ decimal own.wrote ∷ decimal own.held ∷ percent_text own.held span
      ∷ decimal own.waited ∷ decimal own.chain ∷ decimal own.without ∷ []

  table_same : (most : Option ℕ) → cowns_table a most hot ≡ cowns_table b most other
  table_same most = λ i. table_text cowns_sides (cowns_head ∷ map (λ (own : HotCown). cown_same (span i) own i) (told_of most (cowns i)))

  more_same : (most : Option ℕ) → more_text (length hot.cowns.items - length (told_of most hot.cowns.items))
      ≡ more_text (length other.cowns.items - length (told_of most other.cowns.items))
  more_same most = λ i. more_text (length (cowns i) - length (told_of most (cowns i)))

  span_same : span_text hot ≡ span_text other
  span_same = λ i. codes "span " ++ decimal (span i) ++ codes "; by spawns alone " ++ decimal (least i).spawns ++ busiest_text (cowns i) ++ codes "\n"

  -- ---- the verdict

  spawns_same : spawns_text hot ≡ spawns_text other
  spawns_same = λ i. codes "spawns: they alone need " ++ decimal (least i).spawns ++ codes " of " ++ decimal (span i)
      ++ codes " ticks; spawn earlier, or do less"

  by_last_same : (own last : HotCown) → by_last_text a hot own last ≡ by_last_text b other own last
  by_last_same own last = λ i. cond (is_late (busy_until last) (least i).spawns (span i))
      ((codes "load: " ++ text_at (same.cowns i) last.cown ++ codes " is held " ++ decimal last.held ++ codes " of " ++ decimal (span i))
      ++ codes " ticks, none of them before tick " ++ decimal (start_or_0 last.from) ++ codes "; spawn earlier, split it, or shorten what holds it")
      (codes "order: no cown is held for more than " ++ decimal own.held ++ codes " of " ++ decimal (span i)
      ++ codes " ticks; another order of the behaviours may end sooner")

  by_cowns_same : (own : HotCown) (others : List HotCown) → by_cowns_text a hot own others ≡ by_cowns_text b other own others
  by_cowns_same own others = λ i. cond (is_most own.held (span i))
      ((codes "load: " ++ text_at (same.cowns i) own.cown ++ codes " is held " ++ decimal own.held ++ codes " of " ++ decimal (span i))
      ++ codes " ticks; split it, or shorten what holds it")
      (by_last_same own (last_busy own others) i)

  verdict_same : (list : List HotCown) → verdict_text a hot list ≡ verdict_text b other list
  verdict_same [] = spawns_same
  verdict_same (own ∷ list) = λ i. cond (is_most (least i).spawns (span i)) (spawns_same i) (by_cowns_same own list i)

  -- ---- shared reads

  readers_same : (list : List HotCown) → readers_text a list ≡ readers_text b list
  readers_same [] = refl
  readers_same (own ∷ list) = λ i. cond (nat_lt own.wrote own.rows)
      (codes ": " ++ decimal (own.rows - own.wrote) ++ codes " of the " ++ decimal own.rows ++ codes " rows of " ++ text_at (same.cowns i) own.cown
      ++ codes " only read it") []

  shared_same : (sharing : Sharing) → shared_text a sharing hot ≡ shared_text b sharing other
  shared_same Exclusive = λ i. cond (nat_lt (shared i) (span i))
      (codes "with --shared-reads the span is " ++ decimal (shared i) ++ readers_same (cowns i) i ++ codes "\n") []
  shared_same SharedReads = refl

  plain_same : (most : Option ℕ) → plain_told a most hot ≡ plain_told b most other
  plain_same most = λ i. table_same most i ++ more_same most i

  judged_same : (most : Option ℕ) (judged others : List JudgedCown) → judged ≡ others → judged_told a most hot judged ≡ judged_told b most other others
  judged_same most judged others e = λ i. table_text judged_sides
      (judged_head ∷ map (λ (own : JudgedCown). cown_same (span i) own.hot i ++ decimal own.end ∷ []) (judged_of most (e i)))
      ++ more_text (length (cowns i) - length (judged_of most (e i)))

  pub lines_same : (most : Option ℕ) (judged others : Option JudgedTold) → JudgeTheSame judged others
      → lines_told a most hot judged ≡ lines_told b most other others
  lines_same most None None alike = plain_same most
  lines_same most None (Some j) alike = absurd alike
  lines_same most (Some j) None alike = absurd alike
  lines_same most (Some j) (Some k) alike = judged_same most j.cowns.now k.cowns.now alike.1

workers_same : (judged others : Option JudgedTold) → JudgeTheSame judged others → workers_told judged ≡ workers_told others
workers_same None None alike = refl
workers_same None (Some k) alike = absurd alike
workers_same (Some j) None alike = absurd alike
workers_same (Some j) (Some k) alike = ap (λ (own : ForWorkers). workers_text own ++ workers.verdict_text own) alike.0

order_told_same : (a b : Names) → CallTheSame a b → (order : Option OtherOrder) → order_told a order ≡ order_told b order
order_told_same a b same None = refl
order_told_same a b same (Some order) = order_same a b same order

module _ (a b : Names) (same : CallTheSame a b) (told other : CownsTold) (alike : TellTheSame told other) where
  load_part_same : (most : Option ℕ) → load_part a most told ≡ load_part b most other
  load_part_same most =
      let hot : HotCowns = told.hot.now in
      let another : HotCowns = other.hot.now in
      let lines : lines_told a most hot told.judged ≡ lines_told b most another other.judged =
      lines_same a b same hot another alike.span alike.least alike.shared alike.cowns most told.judged other.judged alike.judged in
      let together : together_table a told.together.now ≡ together_table b other.together.now =
      together_same a b same told.together.now ∙ ap (together_table b) alike.together in
      let span : span_text hot ≡ span_text another = span_same a b same hot another alike.span alike.least alike.shared alike.cowns in
      let verdict : verdict_text a hot hot.cowns.items ≡ verdict_text b another another.cowns.items =
      verdict_same a b same hot another alike.span alike.least alike.shared alike.cowns hot.cowns.items ∙ ap (verdict_text b another) alike.cowns in
      λ i. lines i ++ together i ++ span i ++ verdict i ++ codes "\n"

  bounds_part_same : (sharing : Sharing) → bounds_part a sharing told ≡ bounds_part b sharing other
  bounds_part_same sharing =
      let hot : HotCowns = told.hot.now in
      let another : HotCowns = other.hot.now in
      let least : least_text a sharing hot.least ≡ least_text b sharing another.least = least_text_same a b same sharing hot.least another.least alike.least in
      let order : order_told a told.order ≡ order_told b other.order = order_told_same a b same told.order ∙ ap (order_told b) alike.order in
      let workers : workers_told told.judged ≡ workers_told other.judged = workers_same told.judged other.judged alike.judged in
      let shared : shared_text a sharing hot ≡ shared_text b sharing another =
      shared_same a b same hot another alike.span alike.least alike.shared alike.cowns sharing in
      λ i. least i ++ order i ++ workers i ++ shared i

  -- what is told of cowns has one text
  pub one_text : (sharing : Sharing) (most : Option ℕ) (text other_text : Text) → IsCownsText a sharing most told text
      → IsCownsText b sharing most other other_text → text ≡ other_text
  one_text sharing most text other_text x y =
      let load = load_part_same most in
      let bounds = bounds_part_same sharing in
      x.is ∙ (λ i. load i ++ bounds i) ∙ sym y.is
