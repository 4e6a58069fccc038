-- What runs say that seeds draw is a function of the texts and of what is asked.
use Rattle.std.proofs.Common.{◌≡◌, ◌∙◌, ℕ, List, [], ◌∷◌, map, Option, Ok, ◌++◌, ap, refl, sym, subst}
use Rattle.std.specs.Ordering.{nat_cmp}
use Rattle.std.specs.FinMap.{nat_cmp-IsAntisymmetric}
use Rattle.std.proofs.lemmas.Cmp.{nat_cmp_total}
use Rattle.boc_program.specs.declared.program.Program.{Program}
use Rattle.boc_reader.specs.declared.listing.DefListing.{DefListing}
use Rattle.boc_reader.specs.Listed.{listed}
use Rattle.boc_reader.proofs.Spellings.{one_list, one_program}
use Rattle.boc_names.specs.declared.names.Names.{Names}
use Rattle.boc_names.specs.Names.{AreNamesOf, CallTheSame, Text}
use Rattle.boc_names.proofs.OneName.{one_naming}
use Rattle.boc_draws.specs.declared.way.Way.{Way}
use Rattle.boc_draws.specs.Ways.{IsWay}
use Rattle.boc_draws.proofs.OneWay.{one_way}
use Rattle.boc_outcomes.specs.declared.asked.Asked.{Asked}
use Rattle.boc_many_runs.specs.declared.many.ManyRuns.{ManyRuns}
use Rattle.boc_many_runs.specs.declared.many_numbers.Spreads.{Spreads}
use Rattle.boc_many_runs.specs.declared.seen.Numbers.{Numbers}
use Rattle.boc_many_runs.specs.declared.spread.Spread.{Spread}
use Rattle.boc_many_runs.specs.Many.{AnswersMany, AreNumbersTold, SayTheSame}
use Rattle.boc_many_runs.specs.Runs.{AreNumbersOfRuns}
use Rattle.boc_many_runs.specs.Spreads.{IsSpread}
use Rattle.boc_many_runs.proofs.OneAnswer.{one_answer, one_numbers_list}
use Rattle.boc_many_runs.proofs.OneOrder.{one_spread}
use Rattle.boc_many_runs_report.specs.ManyTexts.{IsManyText}
use Rattle.boc_many_runs_report.proofs.OneText.{one_many_text}
use Rattle.boc_words.specs.declared.asked.AskedRuns.{AskedRuns}
use Rattle.boc_run_commands.specs.OutcomesAnswers.{drawn_in}
use Rattle.boc_run_commands.proofs.OneProgram.{same_program}
use Rattle.boc_several_commands.specs.CompareRuns.{AreRunsCompared, AreRunsToldOf, IsCompareRunsAnswer, IsDrawnSide, judged_by, less_count, same_count}
use Rattle.boc_several_commands.specs.RunsTexts.{head_line, last_line, runs_table}
use Rattle.boc_several_commands.specs.WhyRuns.{AreRunsIn, IsProgramNamed, IsWhyRunsAnswer, judged_in, told_in}
use Rattle.boc_several_commands.specs.declared.compare_runs.DrawnSide.{DrawnSide}
use Rattle.boc_several_commands.specs.declared.runs_text.RunsCompared.{RunsCompared}

-- ---- names

-- the names of defs that are listed alike
same_called : (defs others : List DefListing) → map listed defs ≡ map listed others → map (λ d. d.name) defs ≡ map (λ d. d.name) others
same_called [] [] e = refl
same_called [] (o ∷ others) e = absurd cc
same_called (d ∷ defs) [] e = absurd cc
same_called (d ∷ defs) (o ∷ others) e =
    let first : listed d ≡ listed o = cc in
    let rest : map listed defs ≡ map listed others = cc in
    λ i. (first i).name ∷ same_called defs others rest i

-- a text names one program in one way
one_named : (text : List ℕ) (program other : Program) (names others : Names) → IsProgramNamed text program names → IsProgramNamed text other others
    → program ≡ other → CallTheSame names others
one_named text program other names others a b same =
    let called : map (λ d. d.name) a.defs ≡ map (λ d. d.name) b.defs = same_called a.defs b.defs (one_list text a.defs b.defs a.lists b.lists) in
    one_naming other (map (λ d. d.name) b.defs) [] names others
    (subst (λ (defs : List Text). AreNamesOf other defs [] names) called
    (subst (λ (p : Program). AreNamesOf p (map (λ d. d.name) a.defs) [] names) same a.names_are)) b.names_are

-- ---- what the runs of one program say

module _ (asked : AskedRuns) (input : List ℕ) (many other : ManyRuns) (output others : List ℕ) (a : AreRunsIn asked input many output)
    (b : AreRunsIn asked input other others) where
  program_same : a.program ≡ b.program
  program_same = same_program a.program b.program (one_program input a.program b.program a.named.spells b.named.spells)

  names_same : CallTheSame a.names b.names
  names_same = one_named input a.program b.program a.names b.names a.named b.named program_same

  way_same : a.told.way ≡ b.told.way
  way_same = one_way b.program asked.draws.workers asked.draws.depth a.told.way b.told.way
      (subst (λ (p : Program). IsWay p asked.draws.workers asked.draws.depth a.told.way) program_same a.told.is_way) b.told.is_way

  many_same : SayTheSame many other
  many_same = one_answer b.program (drawn_in asked.draws b.told.way) (judged_in b.names asked) many other
      (subst (λ (w : Way). AnswersMany b.program (drawn_in asked.draws w) (judged_in b.names asked) (Ok many)) way_same
      (subst (λ (xs : List ℕ). AnswersMany b.program (drawn_in asked.draws a.told.way)
      (record { families = xs; sharing = asked.sharing; workers = asked.workers }) (Ok many)) names_same.families
      (subst (λ (p : Program). AnswersMany p (drawn_in asked.draws a.told.way) (judged_in a.names asked) (Ok many)) program_same a.told.many_are)))
      b.told.many_are

  -- they say the same, in one text
  pub one_runs_in : SayTheSame many other × (output ≡ others)
  one_runs_in = (
    many_same,
    one_many_text a.names b.names names_same (told_in asked b.told.way) many other output others many_same
        (subst (λ (w : Way). IsManyText a.names (told_in asked w) many output) way_same a.told.text) b.told.text,
  )

pub one_why_runs : (asked : AskedRuns) (input output other : List ℕ) → IsWhyRunsAnswer asked input output → IsWhyRunsAnswer asked input other
    → output ≡ other
one_why_runs asked input output other a b = (one_runs_in asked input a.many b.many output other a.told b.told).1

-- ---- how the runs of two programs compare

-- the runs of a text's program are one
one_side : (asked : AskedRuns) (text : Text) (side other : DrawnSide) → IsDrawnSide asked text side → IsDrawnSide asked text other
    → (side.asked ≡ other.asked) × (side.numbers.items ≡ other.numbers.items)
one_side asked text side other a b =
    let program : a.program ≡ b.program = same_program a.program b.program (one_program text a.program b.program a.spells b.spells) in
    let way : a.drawn.way ≡ b.drawn.way = one_way b.program asked.draws.workers asked.draws.depth a.drawn.way b.drawn.way
    (subst (λ (p : Program). IsWay p asked.draws.workers asked.draws.depth a.drawn.way) program a.drawn.is_way) b.drawn.is_way in (
      a.drawn.asked_are ∙ ap (drawn_in asked.draws) way ∙ sym b.drawn.asked_are,
      one_numbers_list b.program (drawn_in asked.draws b.drawn.way) (judged_by asked) asked.draws.runs side.numbers.items other.numbers.items
          (subst (λ (w : Way). AreNumbersOfRuns b.program (drawn_in asked.draws w) (judged_by asked) asked.draws.runs side.numbers.items) way
          (subst (λ (p : Program). AreNumbersOfRuns p (drawn_in asked.draws a.drawn.way) (judged_by asked) asked.draws.runs side.numbers.items) program
          a.drawn.numbers)) b.drawn.numbers,
    )

abbrev spread_so : ℕ → ℕ → ℕ → Spread
spread_so least median most = record { least = least; median = median; most = most }

same_spread : (xs : List ℕ) (a b : Spread) → IsSpread xs a → IsSpread xs b → a ≡ b
same_spread xs a b x y =
    let one = one_spread nat_cmp nat_cmp_total nat_cmp-IsAntisymmetric xs a.least a.median a.most b.least b.median b.most x y in
    λ i. spread_so (one.0 i) (one.1 i) (one.2 i)

abbrev spreads_so : Spread → Spread → Spread → Spread → Spread → Spreads
spreads_so rows work span end order = record { rows = rows; work = work; span = span; end = end; order = order }

same_spreads : (numbers : List Numbers) (a b : Spreads) → AreNumbersTold numbers a → AreNumbersTold numbers b → a ≡ b
same_spreads numbers a b x y =
    let rows = same_spread (map (λ (n : Numbers). n.rows) numbers) a.rows b.rows x.rows y.rows in
    let work = same_spread (map (λ (n : Numbers). n.work) numbers) a.work b.work x.work y.work in
    let span = same_spread (map (λ (n : Numbers). n.span) numbers) a.span b.span x.span y.span in
    let end = same_spread (map (λ (n : Numbers). n.end) numbers) a.end b.end x.end y.end in
    let order = same_spread (map (λ (n : Numbers). n.order) numbers) a.order b.order x.order y.order in
    λ i. spreads_so (rows i) (work i) (span i) (end i) (order i)

-- the spreads of the same numbers
spreads_of_same : (numbers others : List Numbers) (a b : Spreads) → numbers ≡ others → AreNumbersTold numbers a → AreNumbersTold others b → a ≡ b
spreads_of_same numbers others a b same x y = same_spreads others a b (subst (λ (ns : List Numbers). AreNumbersTold ns a) same x) y

abbrev compared_so : Asked → Option ℕ → Spreads → Spreads → ℕ → ℕ → RunsCompared
compared_so asked workers before after less same =
    record { asked = asked; plan_workers = workers; before = before; after = after; less = less; same = same }

-- what is told as text
abbrev text_of : RunsCompared → Text
text_of told = head_line told.asked ++ runs_table told ++ last_line told

module _ (asked : AskedRuns) (before after first second : DrawnSide) (same_asked : before.asked ≡ first.asked)
    (same_before : before.numbers.items ≡ first.numbers.items) (same_after : after.numbers.items ≡ second.numbers.items) where
  one_told : (told other : RunsCompared) → AreRunsToldOf asked before after told → AreRunsToldOf asked first second other → told ≡ other
  one_told told other a b =
      let same : told.asked ≡ other.asked = a.asked_are ∙ same_asked ∙ sym b.asked_are in
      let workers : told.plan_workers ≡ other.plan_workers = a.workers_are ∙ sym b.workers_are in
      let was : told.before ≡ other.before = spreads_of_same before.numbers.items first.numbers.items told.before other.before same_before a.before_are
      b.before_are in
      let now : told.after ≡ other.after = spreads_of_same after.numbers.items second.numbers.items told.after other.after same_after a.after_are
      b.after_are in
      let less : told.less ≡ other.less = a.less_is ∙ (λ i. less_count (same_before i) (same_after i)) ∙ sym b.less_is in
      let equal : told.same ≡ other.same = a.same_is ∙ (λ i. same_count (same_before i) (same_after i)) ∙ sym b.same_is in
      λ i. compared_so (same i) (workers i) (was i) (now i) (less i) (equal i)

  one_compared : (output other : Text) → AreRunsCompared asked before after output → AreRunsCompared asked first second other → output ≡ other
  one_compared output other a b =
      a.text_is.is ∙ ap text_of (one_told a.told b.told a.are b.are) ∙ sym b.text_is.is

pub one_compare_runs : (asked : AskedRuns) (after_text input output other : Text) → IsCompareRunsAnswer asked after_text input output
    → IsCompareRunsAnswer asked after_text input other → output ≡ other
one_compare_runs asked after_text input output other a b =
    let first = one_side asked input a.before b.before a.before_is b.before_is in
    let second = one_side asked after_text a.after b.after a.after_is b.after_is in
    one_compared asked a.before a.after b.before b.after first.0 first.1 second.1 output other a.told b.told
