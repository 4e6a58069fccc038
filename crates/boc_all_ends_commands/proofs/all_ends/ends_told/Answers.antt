use Rattle.std.proofs.Common.{ℕ, subst}
use Rattle.boc_program.specs.declared.program.Program.{Program}
use Rattle.boc_all_ends.specs.Ends.{IsFound}
use Rattle.boc_run_commands.proofs.Passed.{passed_on, refused_text}
use Rattle.boc_all_ends_commands.specs.AllEndsAnswers.{IsOfSearch}
use Rattle.boc_all_ends_commands.proofs.Searched.{all_values, told_ends}
use Rattle.boc_all_ends_commands.proofs.all_ends.ends_told.Goals as goal

pub returns-in_err-program : goal.returns-in_err-program
returns-in_err-program g c =
    passed_on _ (IsOfSearch c.args.text.now) _ _ c.from_residual.ensures.1
    (refused_text (IsOfSearch c.args.text.now) c.args.text.now c.in_err-program.field-0.0 tt (λ wrong. wrong) c.in_err-program.ensures)

pub ends_text-requires : goal.ends_text-requires
ends_text-requires g c =
    all_values c.in_ok-program.program c.as_slice.result.now c.number.result c.in_ok-found.found c.as_slice.ensures
    (subst (λ (p : Program). IsFound p c.number.result c.in_ok-found.found) c.in_ok-compiled.ensures c.in_ok-found.ensures)

pub returns : goal.returns
returns g c =
    let spelled = c.in_ok-program.ensures in
    let ends = subst (λ (p : Program). IsFound p c.number.result c.in_ok-found.found) c.in_ok-compiled.ensures c.in_ok-found.ensures in (
      told_ends c.args.most c.args.text.now c.in_ok-program.program c.as_slice.result.now c.in_ok-found.found c.in_ok-answer.answer.items spelled
          c.as_slice.ensures (subst (λ (n : ℕ). IsFound c.in_ok-program.program n c.in_ok-found.found) c.number.ensures.value ends)
          c.in_ok-answer.ensures,
      spelled.short,
    )
