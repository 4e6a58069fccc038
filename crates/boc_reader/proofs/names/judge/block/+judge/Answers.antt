use Rattle.std.proofs.Common.{arith}
use Rattle.boc_reader.proofs.ResolvingScopes.{nodes_of_one}
use Rattle.boc_reader.proofs.names.judge.block.+judge.Goals as goal

pub judge_block-judge_stmt-requires : goal.judge_block-judge_stmt-requires
judge_block-judge_stmt-requires t c =
    omega (arith, nodes_of_one c.args.block.now c.loop-stmt.stmt-index c.stmt-item.result (omega arith) c.stmt-item.is)
