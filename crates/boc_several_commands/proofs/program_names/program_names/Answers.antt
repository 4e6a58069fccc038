use Rattle.std.proofs.Common.{◌∙◌, [], List, refl, subst}
use Rattle.std.proofs.lemmas.Result.{IfOk-weaker}
use Rattle.boc_names.specs.Names.{AreNamesOf, Text}
use Rattle.boc_several_commands.proofs.program_names.program_names.Goals as goal

pub returns : goal.returns
returns c =
    IfOk-weaker c.names_of_run.result _ _ (λ names are. subst (λ (called : List Text). AreNamesOf c.args.program.now called [] names)
    (c.deref.ensures.value ∙ c.in_ok-defs.ensures) (are [] refl)) c.names_of_run.ensures
