use Rattle.std.proofs.Common.{rules, ◌≡◌, ◌-◌, ◌<◌, ◌≤◌, ℕ, List, Some, length, refl, subst}
use Rattle.std.specs.Prelude.{slice_get}
use Rattle.std.proofs.lemmas.Option.{slice_get_read}
use Rattle.boc_program.specs.declared.program.Program.{Program}
use Rattle.boc_all_ends.specs.declared.found.End.{End}
use Rattle.boc_all_ends.specs.Ends.{IsFound}
use Rattle.boc_end_orders.specs.Runs.{RecordsEnd}
use Rattle.boc_run_commands.proofs.Passed.{passed_on, refused_text}
use Rattle.boc_all_ends_commands.specs.EndRunAnswers.{IsOfEndRun}
use Rattle.boc_all_ends_commands.proofs.EndRuns.{end_run, fewer_ends}
use Rattle.boc_all_ends_commands.proofs.end_run.end_run.Goals as goal

pub returns-in_err-program : goal.returns-in_err-program
returns-in_err-program g c =
    passed_on _ (IsOfEndRun c.args.most c.args.number c.args.text.now) _ _ c.from_residual.ensures.1
    (refused_text (IsOfEndRun c.args.most c.args.number c.args.text.now) c.args.text.now c.in_err-program.field-0.0 tt (λ wrong. wrong) c.in_err-program.ensures)

pub returns-in_default : goal.returns-in_default
returns-in_default g c =
    let found = c.in_ok-found.found in
    let ends = subst (λ (p : Program). IsFound p c.number.result found) c.in_ok-compiled.ensures c.in_ok-found.ensures in
    let read : c.deref.result.now ≡ found.all.items = search rules in
    let far : length c.deref.result.now ≤ c.number-number.result - 1 = search rules in
    fewer_ends c.args.most c.args.number c.args.text.now c.in_ok-program.program found _ c.in_ok-program.ensures
    (subst (λ (n : ℕ). IsFound c.in_ok-program.program n found) c.number.ensures.value ends) c.number-number.ensures.some
    (subst (λ (n : ℕ). length found.all.items ≤ n - 1) c.number-number.ensures.value
    (subst (λ (es : List End). length es ≤ c.number-number.result - 1) read far)) c.number-number.ensures.value (search rules) refl refl

pub returns : goal.returns
returns g c =
    let found = c.in_ok-found.found in
    let end : End = c.in-Some.end.now in
    let ends = subst (λ (p : Program). IsFound p c.number.result found) c.in_ok-compiled.ensures c.in_ok-found.ensures in
    let read : c.deref.result.now ≡ found.all.items = search rules in
    let there : c.number-number.result - 1 < length c.deref.result.now = search rules in
    let at = slice_get_read c.deref.result.now (length c.deref.result.now) (c.number-number.result - 1) end refl there c.in-Some.ensures.lookup.1 in (
      end_run c.args.most c.args.number c.args.text.now c.in_ok-program.program found end c.in_ok-run.run' c.in_ok-program.ensures
          (subst (λ (n : ℕ). IsFound c.in_ok-program.program n found) c.number.ensures.value ends)
          (subst (λ (n : ℕ). slice_get found.all.items (n - 1) ≡ Some end) c.number-number.ensures.value
          (subst (λ (es : List End). slice_get es (c.number-number.result - 1) ≡ Some end) read at))
          (subst (λ (p : Program). RecordsEnd p end c.in_ok-run.run') c.in_ok-compiled.ensures c.in_ok-run.ensures),
      c.in_ok-program.ensures.short,
    )
