use Rattle.std.proofs.Common.{ap, ◌∙◌, sym, arith, Some}
use Rattle.boc_reader.proofs.ResolvingScopes.{goes_on, at_end, stays_outer, nodes_of_one}
use Rattle.boc_reader.proofs.names.block.+resolve.Goals as goal

pub resolve_block-loop-stmt-preserved : goal.resolve_block-loop-stmt-preserved
resolve_block-loop-stmt-preserved t c =
    record {
      names = goes_on c.args.block.now c.loop-stmt.stmt-index c.stmt-item.result c.loop-stmt.stmts.items _ c.in_ok-stmt.stmt _ _ _ _ (omega arith)
          c.stmt-item.is c.in_ok-stmt.ensures.names c.in_ok-push.ensures.items c.loop-stmt.invariant.names;
      outer = stays_outer c.args.scope.now.items c.loop-stmt.scope.items c.resolve_stmt.new.scope.items c.loop-stmt.invariant.outer c.in_ok-stmt.ensures.grows;
      depth = c.loop-stmt.invariant.depth;
    }

pub resolve_block-returns-clause-names : goal.resolve_block-returns-clause-names
resolve_block-returns-clause-names t c =
    at_end c.args.block.now c.loop-stmt.stmt-index c.loop-stmt.stmts.items _ _ _ (omega arith) c.loop-stmt.invariant.names ∙ ap Some (sym c.new.ensures)

pub resolve_block-resolve_stmt-requires : goal.resolve_block-resolve_stmt-requires
resolve_block-resolve_stmt-requires t c =
    omega (arith, nodes_of_one c.args.block.now c.loop-stmt.stmt-index c.stmt-item.result (omega arith) c.stmt-item.is)
