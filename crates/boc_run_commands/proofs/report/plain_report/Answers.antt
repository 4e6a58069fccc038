use Rattle.std.proofs.Common.{ℕ, [], Option, None, refl, subst, sym}
use Rattle.boc_plans.specs.Seen.{seen}
use Rattle.boc_run_commands.specs.Answers.{IsPartFor}
use Rattle.boc_run_commands.proofs.Asked.{is_report, unwritten}
use Rattle.boc_run_commands.proofs.report.plain_report.Goals as goal

pub returns-clause-written : goal.returns-clause-written
returns-clause-written g c = (
  _,
  is_report (seen c.args.sharing c.args.rows.now) c.args.plans c.in_ok-profile.profile None None c.in_ok-profile.ensures
      (subst (λ (workers : Option ℕ). IsPartFor (seen c.args.sharing c.args.rows.now) c.args.plans.unplanned workers []) (sym c.requires.none) refl) refl,
  c.in_ok-write_report.ensures.written,
)

pub returns-in_err-write_report-clause-written : goal.returns-in_err-write_report-clause-written
returns-in_err-write_report-clause-written g c =
    unwritten _ _ c.in_err-write_report.field-0.0 _ _ _ c.from_residual-in_err-write_report.ensures.1
    (is_report (seen c.args.sharing c.args.rows.now) c.args.plans c.in_ok-profile.profile None None c.in_ok-profile.ensures
    (subst (λ (workers : Option ℕ). IsPartFor (seen c.args.sharing c.args.rows.now) c.args.plans.unplanned workers []) (sym c.requires.none) refl) refl)
    c.in_err-write_report.ensures.written
