use Rattle.std.proofs.Common.{◌∙◌, ap, sym, Some}
use Rattle.boc_reader.specs.Names.{PlainProgram}
use Rattle.boc_reader.specs.Views.{tree_of}
use Rattle.boc_reader.proofs.ResolvingOrder.{tree_names-in_order}
use Rattle.boc_reader.proofs.ResolvingParameters.{resolves_fault}
use Rattle.boc_reader.proofs.ResolvingPrograms.{program_makes}
use Rattle.boc_reader.proofs.names.resolve_program.Goals as goal

pub returns-in_err-cowns : goal.returns-in_err-cowns
returns-in_err-cowns c =
    resolves_fault {Y = PlainProgram} (λ p. p) _ _ _ _ c.from_residual.ensures.1 c.in_err-cowns.ensures
    (λ none. tree_names-in_order (tree_of c.args.tree.now) ∙ none)

pub fitting-requires : goal.fitting-requires
fitting-requires c =
    program_makes (tree_of c.args.tree.now) c.in_ok-cowns.cowns.items c.in_ok-cowns.bodies.items c.requires
    (tree_names-in_order (tree_of c.args.tree.now) ∙ c.in_ok-cowns.ensures)

pub returns : goal.returns
returns c = tree_names-in_order (tree_of c.args.tree.now) ∙ c.in_ok-cowns.ensures ∙ ap Some (sym c.fitting.ensures)
