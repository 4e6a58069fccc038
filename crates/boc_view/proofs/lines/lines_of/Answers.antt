use Rattle.std.proofs.Common.{inl, inr}
use Rattle.std.proofs.lemmas.Result.{IfOk-weaker}
use Rattle.boc_program.specs.declared.program.Program.{Program}
use Rattle.boc_reader.specs.Spells.{Spells}
use Rattle.boc_reader.proofs.Spellings.{none_spelled}
use Rattle.boc_view.proofs.lines.lines_of.Goals as goal

pub returns-in_default : goal.returns-in_default
returns-in_default c = inr (
  (λ (p : Program) (spells : Spells c.args.text.now p).
      none_spelled c.in-Err.fault.kind c.args.text.now p c.in_default.not-Memory c.in-Err.ensures.0 spells),
  c.new.ensures.items,
)

pub returns : goal.returns
returns c = IfOk-weaker c.lines_in.result _ _ (λ lines told. inl (c.in-Ok.program, c.in-Ok.ensures, told)) c.lines_in.ensures
