use Rattle.std.proofs.Common.{arith}
use Rattle.boc_reader.specs.Views.{block_of}
use Rattle.boc_reader.specs.Resolving.{declared_of}
use Rattle.boc_reader.proofs.ResolvingParameters.{body_fits}
use Rattle.boc_reader.proofs.names.body.resolve_body.Goals as goal

pub fitting-requires : goal.fitting-requires
fitting-requires c =
    body_fits (declared_of c.args.top.now) c.args.params.now c.args.held.now c.in_ok-scope.scope.items (block_of c.args.block.now) c.in_ok-block.block
    c.len-names.result c.requires.few_params c.requires.few_cowns c.requires.small c.requires.cowns c.in_ok-scope.ensures c.in_ok-block.ensures.names
    (omega (arith, c.len-names.ensures, c.in_ok-scope.scope.ok.0))
