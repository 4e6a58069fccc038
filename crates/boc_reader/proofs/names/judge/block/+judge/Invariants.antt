use Rattle.std.proofs.Common.{◌≡◌, ◌+◌, ◌*◌, drop, take, length}
use Rattle.boc_reader.specs.Shape.{stmt_nodes, block_nodes}
use Rattle.boc_reader.specs.Judging.{block_verdict}
use Rattle.boc_reader.specs.Views.{stmt_of, block_of}
use Rattle.boc_reader.specs.Resolving.{names_of, outside_of}
use Rattle.boc_reader.proofs.names.judge.block.+judge.Given as goal

abbrev pub invariant-judge_block-loop-stmt : goal.invariant-judge_block-loop-stmt
invariant-judge_block-loop-stmt l = record {
  said : block_verdict (block_of l.fn.block) (outside_of l.fn.outside) (names_of l.fn.scope.items) l.fn.count
      ≡ block_verdict (block_of (drop l.stmt-index l.block)) (outside_of l.outside) (names_of l.scope.items) l.count;
  outer : take (length l.fn.scope.items) l.scope.items ≡ l.fn.scope.items;
  depth : l.depth ≡ length l.fn.scope.items;
}

abbrev pub decreases-judge_stmt : goal.decreases-judge_stmt
decreases-judge_stmt l = 3 * stmt_nodes (stmt_of l.stmt.now)

abbrev pub decreases-judge_block : goal.decreases-judge_block
decreases-judge_block l = 3 * block_nodes (block_of l.block.now) + 1

abbrev pub decreases-judge_guarded : goal.decreases-judge_guarded
decreases-judge_guarded l = 3 * block_nodes (block_of l.block.now) + 2
