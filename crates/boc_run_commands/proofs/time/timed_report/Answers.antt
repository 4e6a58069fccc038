use Rattle.std.proofs.Common.{◌≡◌, ℕ, List, refl, subst}
use Rattle.std.specs.Prelude.{option_map}
use Rattle.boc_runs.specs.declared.rows.Row.{Row}
use Rattle.boc_plans.specs.declared.sharing.Sharing.{Sharing}
use Rattle.boc_plans.specs.Seen.{seen}
use Rattle.boc_plans.proofs.Seeing.{rows_seen}
use Rattle.boc_words.specs.declared.asked.AskedPlans.{AskedPlans}
use Rattle.boc_run_commands.specs.Answers.{IsReport}
use Rattle.boc_run_commands.proofs.Asked.{is_report, unwritten}
use Rattle.boc_run_commands.proofs.Promised.{true_report}
use Rattle.boc_run_commands.proofs.time.timed_report.Goals as goal

-- a report on the same rows
moved : (rows others : List Row) (sharing other : Sharing) → rows ≡ others → sharing ≡ other → (asked : AskedPlans) (text : List ℕ)
    → IsReport (seen sharing rows) asked text → IsReport (seen other others) asked text
moved rows others sharing other same way asked text is =
    subst (λ (s : Sharing). IsReport (seen s others) asked text) way (subst (λ (r : List Row). IsReport (seen sharing r) asked text) same is)

pub returns-clause-written : goal.returns-clause-written
returns-clause-written g c =
    let q = c.in_ok-question.question in
    let report = moved q.rows c.args.rows q.sharing c.args.sharing c.in_ok-question.ensures.rows c.in_ok-question.ensures.sharing c.args.plans _
    (is_report (seen q.sharing q.rows) c.args.plans c.in_ok-profile.profile _ (option_map (λ r. r.now) c.as_ref.result)
    c.in_ok-profile.ensures c.in_ok-greedy.ensures.part c.as_ref.ensures.value) in (
      _,
      (_, true_report (seen c.args.sharing c.args.rows) c.args.plans _ (rows_seen c.args.sharing c.args.rows c.as_slice-shape.ensures.shape) report, refl),
      c.in_ok-write_timed_report.ensures.written,
    )

pub returns-in_err-write_timed_report-clause-written : goal.returns-in_err-write_timed_report-clause-written
returns-in_err-write_timed_report-clause-written g c =
    let q = c.in_ok-question.question in
    let report = moved q.rows c.args.rows q.sharing c.args.sharing c.in_ok-question.ensures.rows c.in_ok-question.ensures.sharing c.args.plans _
    (is_report (seen q.sharing q.rows) c.args.plans c.in_ok-profile.profile _ (option_map (λ r. r.now) c.as_ref.result)
    c.in_ok-profile.ensures c.in_ok-greedy.ensures.part c.as_ref.ensures.value) in
    unwritten _ _ c.in_err-write_timed_report.field-0.0 _ _ _ c.from_residual-in_err-write_timed_report.ensures.1
    (_, true_report (seen c.args.sharing c.args.rows) c.args.plans _ (rows_seen c.args.sharing c.args.rows c.as_slice-shape.ensures.shape) report, refl)
    c.in_err-write_timed_report.ensures.written
