-- An input has one answer.
use Rattle.std.proofs.Common.{◌≡◌, ℕ, Bool, List, ◌++◌, length, take, Option, Some, None, Ok, sym, ◌∙◌, ap, subst}
use Rattle.boc_program.specs.declared.program.Program.{Program}
use Rattle.boc_runs.specs.declared.rows.Row.{Row}
use Rattle.boc_plans.specs.declared.sharing.Sharing.{Sharing}
use Rattle.boc_runs.specs.OwnOrder.{EndsWith}
use Rattle.boc_runs.specs.Records.{Recorded, IsRecord}
use Rattle.boc_runs.specs.Rows.{IsRows}
use Rattle.boc_plans.specs.Seen.{seen}
use Rattle.boc_plans.specs.Plans.{work_of, HasEnds, IsEnd}
use Rattle.boc_plans.specs.Chains.{IsPicked}
use Rattle.boc_plans.specs.declared.sweep.Sweep.{Sweep}
use Rattle.boc_plans.specs.declared.sweep.Sweep.TheVariants.{Ticks as TicksOf, Cowns, Spawns}
use Rattle.boc_run_commands.specs.Answers.{AreSwept, IsPartFor, IsGreedyPart, IsReport, IsValuesAnswer, IsCheckAnswer, IsProfileAnswer}
use Rattle.boc_run_commands.specs.Answers.{IsCurveAnswer, IsCurveTold, IsSweepAnswer, first_of}
use Rattle.boc_plan_commands.specs.BestAnswers.{AreBest, IsBestAnswer, IsUnswept, best_lines}
use Rattle.boc_run_commands.specs.Beside.{IsCheckAgainstAnswer, IsValuesAfterAnswer}
use Rattle.boc_words.specs.declared.asked.AskedPlans.{AskedPlans}
use Rattle.boc_runs.specs.Run.{config_of}
use Rattle.boc_why.specs.Ranking.{AreRanked}
use Rattle.boc_why.specs.declared.ranking.Placed.{Placed}
use Rattle.boc_why.proofs.OneRanking.{one_ranked}
use Rattle.boc_ends_report.specs.ValueTexts.{values_text}
use Rattle.boc_run_commands.specs.CheckTexts.{check_text}
use Rattle.boc_report.specs.Texts.{report_text, greedy_text, curve_text, sweep_lines}
use Rattle.boc_runs.proofs.OwnOrders.{ends_once}
use Rattle.boc_plans.proofs.Seeing.{rows_seen}
use Rattle.boc_rules.proofs.Finished.{is_rows}
use Rattle.boc_rules.proofs.Next.{well_log}
use Rattle.boc_record.proofs.OneFault.{one_record}
use Rattle.boc_order.proofs.Alone.{one_bound, one_chain, one_end, one_list_of_ends, one_plan, one_span, one_sweep, one_cown_sweep, one_spawn_sweep}
use Rattle.boc_greedy.proofs.Alone.{one_greedy_plan}
use Rattle.boc_greedy.proofs.Curving.{one_curve, one_greedy_cown_sweep, one_greedy_end, one_greedy_sweep}
use Rattle.boc_reader.proofs.Spellings.{one_program}
use Rattle.boc_draws.proofs.OneWay.{one_way}
use Rattle.boc_draws.specs.declared.way.Way.{Way}
use Rattle.boc_draws.specs.Ways.{IsWay}
use Rattle.boc_outcomes.specs.Tallies.{AnswersAsked}
use Rattle.boc_outcomes.proofs.OneSample.{same_outcomes}
use Rattle.boc_ends_report.specs.OutcomeTexts.{outcomes_text}
use Rattle.boc_ends_report.proofs.OneText.{one_text}
use Rattle.boc_words.specs.declared.asked.AskedDraws.{AskedDraws}
use Rattle.boc_run_commands.specs.OutcomesAnswers.{IsOutcomesAnswer, drawn_in}
use Rattle.boc_run_commands.proofs.OneProgram.{same_program}

one_greedy_part : (rows : List Row) → IsRows rows → (unplanned : Bool) (p : ℕ) (part other : List ℕ) → IsGreedyPart rows unplanned p part
    → IsGreedyPart rows unplanned p other → part ≡ other
one_greedy_part rows hr unplanned p part other g h =
    let same = one_greedy_plan rows hr p g.starts g.workers h.starts h.workers g.greedy h.greedy in
    let ends : g.ends ≡ h.ends = one_list_of_ends rows h.starts g.ends h.ends (subst (λ (plan : List ℕ). HasEnds rows plan g.ends) same.0 g.ends_are)
    h.ends_are in
    let last : g.last ≡ h.last = one_end rows h.starts g.last h.last (subst (λ (plan : List ℕ). IsEnd rows plan g.last) same.0 g.last_is) h.last_is in
    let bound : g.bound ≡ h.bound = one_bound rows p g.bound h.bound g.bound_is h.bound_is in
    let text : greedy_text unplanned p g.starts g.ends g.workers g.last g.bound ≡ greedy_text unplanned p h.starts h.ends h.workers h.last h.bound =
    λ i. greedy_text unplanned p (same.0 i) (ends i) (same.1 i) (last i) (bound i) in
    g.text ∙ text ∙ sym h.text

one_part : (rows : List Row) → IsRows rows → (unplanned : Bool) (workers : Option ℕ) (part other : List ℕ) → IsPartFor rows unplanned workers part
    → IsPartFor rows unplanned workers other → part ≡ other
one_part rows hr unplanned None part other g h = g ∙ sym h
one_part rows hr unplanned (Some p) part other g h = one_greedy_part rows hr unplanned p part other g h

pub one_report : (rows : List Row) → IsRows rows → (asked : AskedPlans) (output other : List ℕ) → IsReport rows asked output → IsReport rows asked other →
    output ≡ other
one_report rows hr asked output other r s =
    let starts : r.starts ≡ s.starts = one_plan rows r.starts s.starts r.earliest s.earliest in
    let ends : r.ends ≡ s.ends = one_list_of_ends rows s.starts r.ends s.ends (subst (λ (plan : List ℕ). HasEnds rows plan r.ends) starts r.ends_are)
    s.ends_are in
    let span : r.span ≡ s.span = one_end rows s.starts r.span s.span (subst (λ (plan : List ℕ). IsEnd rows plan r.span) starts r.span_is) s.span_is in
    let steps : r.steps ≡ s.steps = one_chain rows s.starts r.steps s.steps (subst (λ (plan : List ℕ). IsPicked rows plan r.steps) starts r.picked) s.picked in
    let part : r.part ≡ s.part = one_part rows hr asked.unplanned asked.workers r.part s.part r.part_is s.part_is in
    let text : report_text asked.unplanned (work_of rows) r.span r.steps r.starts r.ends ++ r.part
    ≡ report_text asked.unplanned (work_of rows) s.span s.steps s.starts s.ends ++ s.part =
    λ i. report_text asked.unplanned (work_of rows) (span i) (steps i) (starts i) (ends i) ++ part i in
    r.text ∙ text ∙ sym s.text

-- the rows of a record
pub rows_are : (r : Recorded) → IsRecord r → IsRows r.rows
rows_are r is = is_rows r.cowns _ r.rows is.few (well_log r.cowns r.events is.legal) is.complete is.rows_are

pub one_values_answer : (input output other : List ℕ) → IsValuesAnswer input output → IsValuesAnswer input other → output ≡ other
one_values_answer input output other a b =
    let program : a.program ≡ b.program = same_program a.program b.program (one_program input a.program b.program a.spells b.spells) in
    let values : a.values ≡ b.values = ends_once b.program a.values b.values (subst (λ (p : Program). EndsWith p a.values) program a.ends) b.ends in
    let text : values_text a.program.cowns a.values ≡ values_text b.program.cowns b.values = λ i. values_text (program i).cowns (values i) in
    a.text ∙ text ∙ sym b.text

pub one_check_answer : (input output other : List ℕ) → IsCheckAnswer input output → IsCheckAnswer input other → output ≡ other
one_check_answer input output other a b =
    let same : a.recorded ≡ b.recorded = one_record input a.recorded b.recorded a.spells b.spells in
    a.text ∙ ap (λ (r : Recorded). check_text (length r.rows)) same ∙ sym b.text

pub one_check_against_answer : (beside input output other : List ℕ) → IsCheckAgainstAnswer beside input output → IsCheckAgainstAnswer beside input other
    → output ≡ other
one_check_against_answer beside input output other a b =
    let same : a.recorded ≡ b.recorded = one_record input a.recorded b.recorded a.of_run.tells b.of_run.tells in
    a.text ∙ ap (λ (r : Recorded). check_text (length r.rows)) same ∙ sym b.text

pub one_values_after_answer : (beside input output other : List ℕ) → IsValuesAfterAnswer beside input output → IsValuesAfterAnswer beside input other
    → output ≡ other
one_values_after_answer beside input output other a b =
    let program : a.program ≡ b.program =
    same_program a.program b.program (one_program input a.program b.program a.of_run.spells b.of_run.spells) in
    let same : a.recorded ≡ b.recorded = one_record beside a.recorded b.recorded a.of_run.tells b.of_run.tells in
    let text : values_text a.program.cowns (config_of a.program a.recorded.events).values
    ≡ values_text b.program.cowns (config_of b.program b.recorded.events).values =
    λ i. values_text (program i).cowns (config_of (program i) (same i).events).values in
    a.text ∙ text ∙ sym b.text

pub one_profile_answer : (sharing : Sharing) (asked : AskedPlans) (input output other : List ℕ) → IsProfileAnswer sharing asked input output →
    IsProfileAnswer sharing asked input other → output ≡ other
one_profile_answer sharing asked input output other a b =
    let same : a.recorded ≡ b.recorded = one_record input a.recorded b.recorded a.spells b.spells in
    one_report (seen sharing b.recorded.rows) (rows_seen sharing b.recorded.rows (rows_are b.recorded b.spells.record_is)) asked output other
    (subst (λ (r : Recorded). IsReport (seen sharing r.rows) asked output) same a.report) b.report

-- rows have one curve
pub one_curve_told : (sharing : Sharing) (most : ℕ) (rows : List Row) → IsRows rows → (output other : List ℕ) → IsCurveTold sharing most rows output
    → IsCurveTold sharing most rows other → output ≡ other
one_curve_told sharing most rows hr output other a b =
    let points : a.points ≡ b.points = one_curve (seen sharing rows) (rows_seen sharing rows hr) most a.points b.points a.curve b.curve in
    let span : a.span ≡ b.span = one_span (seen sharing rows) a.span b.span a.span_is b.span_is in
    let text : curve_text (work_of rows) a.span a.points ≡ curve_text (work_of rows) b.span b.points =
    λ i. curve_text (work_of rows) (span i) (points i) in
    a.text ∙ text ∙ sym b.text

pub one_curve_answer : (sharing : Sharing) (most : ℕ) (input output other : List ℕ) → IsCurveAnswer sharing most input output
    → IsCurveAnswer sharing most input other → output ≡ other
one_curve_answer sharing most input output other a b =
    let same : a.recorded ≡ b.recorded = one_record input a.recorded b.recorded a.spells b.spells in
    one_curve_told sharing most b.recorded.rows (rows_are b.recorded b.spells.record_is) output other
    (subst (λ (r : Recorded). IsCurveTold sharing most r.rows output) same a.told) b.told

pub one_swept : (rows : List Row) → IsRows rows → (count : ℕ) (over : Sweep) (ends others : List ℕ) → AreSwept rows count over ends
    → AreSwept rows count over others → ends ≡ others
one_swept rows hr count (TicksOf None) ends others s t = one_sweep rows ends others s t
one_swept rows hr count (TicksOf (Some p)) ends others s t = one_greedy_sweep rows hr p ends others s t
one_swept rows hr count (Cowns None) ends others s t = one_cown_sweep rows count ends others s t
one_swept rows hr count (Cowns (Some p)) ends others s t = one_greedy_cown_sweep rows hr p count ends others s t
one_swept rows hr count Spawns ends others s t = one_spawn_sweep rows ends others s t

pub one_sweep_answer : (sharing : Sharing) (over : Sweep) (input output other : List ℕ) → IsSweepAnswer sharing over input output
    → IsSweepAnswer sharing over input other → output ≡ other
one_sweep_answer sharing over input output other a b =
    let same : a.recorded ≡ b.recorded = one_record input a.recorded b.recorded a.spells b.spells in
    let ends : a.ends ≡ b.ends =
    one_swept (seen sharing b.recorded.rows) (rows_seen sharing b.recorded.rows (rows_are b.recorded b.spells.record_is)) b.recorded.cowns over a.ends b.ends
    (subst (λ (r : Recorded). AreSwept (seen sharing r.rows) r.cowns over a.ends) same a.sweep) b.sweep in
    a.text ∙ ap (sweep_lines (first_of over)) ends ∙ sym b.text

pub one_unswept : (rows : List Row) → IsRows rows → (over : Sweep) (was other : ℕ) → IsUnswept rows over was → IsUnswept rows over other → was ≡ other
one_unswept rows hr (TicksOf (Some p)) was other a b = one_greedy_end rows hr p was other a b
one_unswept rows hr (TicksOf None) was other a b = one_span rows was other a b
one_unswept rows hr (Cowns (Some p)) was other a b = one_greedy_end rows hr p was other a b
one_unswept rows hr (Cowns None) was other a b = one_span rows was other a b
one_unswept rows hr Spawns was other a b = one_span rows was other a b

-- ends have one list of the best of them
pub one_best : (ends others : List ℕ) → ends ≡ others → (most : ℕ) (best other : List Placed) → AreBest ends most best → AreBest others most other
    → best ≡ other
one_best ends others same most best other a b =
    let all : a.all ≡ b.all = one_ranked others a.all b.all (subst (λ (list : List ℕ). AreRanked list a.all) same a.ranked) b.ranked in
    a.first_are ∙ ap (take most) all ∙ sym b.first_are

pub one_best_answer : (sharing : Sharing) (over : Sweep) (most : ℕ) (input output other : List ℕ) → IsBestAnswer sharing over most input output
    → IsBestAnswer sharing over most input other → output ≡ other
one_best_answer sharing over most input output other a b =
    let same : a.recorded ≡ b.recorded = one_record input a.recorded b.recorded a.spells b.spells in
    let rows : List Row = seen sharing b.recorded.rows in
    let hr : IsRows rows = rows_seen sharing b.recorded.rows (rows_are b.recorded b.spells.record_is) in
    let ends : a.ends ≡ b.ends = one_swept rows hr b.recorded.cowns over a.ends b.ends
    (subst (λ (r : Recorded). AreSwept (seen sharing r.rows) r.cowns over a.ends) same a.sweep) b.sweep in
    let was : a.was ≡ b.was = one_unswept rows hr over a.was b.was (subst (λ (r : Recorded). IsUnswept (seen sharing r.rows) over a.was) same a.was_is)
    b.was_is in
    let best : a.best ≡ b.best = one_best a.ends b.ends ends most a.best b.best a.best_are b.best_are in
    let text : best_lines a.was (first_of over) a.best ≡ best_lines b.was (first_of over) b.best =
    λ i. best_lines (was i) (first_of over) (best i) in
    a.text ∙ text ∙ sym b.text

pub one_outcomes_answer : (draws : AskedDraws) (input output other : List ℕ) → IsOutcomesAnswer draws input output → IsOutcomesAnswer draws input other
    → output ≡ other
one_outcomes_answer draws input output other a b =
    let program : a.program ≡ b.program = same_program a.program b.program (one_program input a.program b.program a.spells b.spells) in
    let way : a.way ≡ b.way = one_way b.program draws.workers draws.depth a.way b.way
    (subst (λ (p : Program). IsWay p draws.workers draws.depth a.way) program a.is_way) b.is_way in
    let ends : AnswersAsked b.program (drawn_in draws b.way) (Ok a.outcomes) =
    subst (λ (w : Way). AnswersAsked b.program (drawn_in draws w) (Ok a.outcomes)) way
    (subst (λ (p : Program). AnswersAsked p (drawn_in draws a.way) (Ok a.outcomes)) program a.ends) in
    a.text ∙ ap (λ (p : Program). outcomes_text p.cowns draws.runs a.outcomes) program
    ∙ one_text b.program.cowns draws.runs a.outcomes b.outcomes (same_outcomes b.program (drawn_in draws b.way) a.outcomes b.outcomes ends b.ends) ∙ sym b.text
