use Rattle.std.proofs.Common.{◌≡◌, ◌+◌, ◌*◌, drop, take, length}
use Rattle.boc_reader.specs.Shape.{stmt_nodes, block_nodes}
use Rattle.boc_reader.specs.Names.{block_names}
use Rattle.boc_reader.specs.Views.{stmt_of, block_of}
use Rattle.boc_reader.specs.Resolving.{names_of, outside_of}
use Rattle.boc_reader.proofs.ResolvingScopes.{with_code}
use Rattle.boc_reader.proofs.names.block.+resolve.Given as goal

abbrev pub invariant-resolve_block-loop-stmt : goal.invariant-resolve_block-loop-stmt
invariant-resolve_block-loop-stmt l = record {
  names : block_names (block_of l.fn.block) (outside_of l.fn.outside) (names_of l.fn.scope.items)
      ≡ with_code l.stmts.items (block_names (block_of (drop l.stmt-index l.block)) (outside_of l.outside) (names_of l.scope.items));
  outer : take (length l.fn.scope.items) l.scope.items ≡ l.fn.scope.items;
  depth : l.depth ≡ length l.fn.scope.items;
}

abbrev pub decreases-resolve_stmt : goal.decreases-resolve_stmt
decreases-resolve_stmt l = 3 * stmt_nodes (stmt_of l.stmt.now)

abbrev pub decreases-resolve_block : goal.decreases-resolve_block
decreases-resolve_block l = 3 * block_nodes (block_of l.block.now) + 1

abbrev pub decreases-resolve_choice : goal.decreases-resolve_choice
decreases-resolve_choice l = 3 * (block_nodes (block_of l.block.now) + block_nodes (block_of l.other.now)) + 2

abbrev pub decreases-resolve_repeat : goal.decreases-resolve_repeat
decreases-resolve_repeat l = 3 * block_nodes (block_of l.block.now) + 2
