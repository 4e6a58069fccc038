use Rattle.std.proofs.Common.{arith}
use Rattle.boc_lines.proofs.Chaining.{chain_left}
use Rattle.boc_lines.proofs.by_line.through_rows.Goals as goal

pub returns-then-at-chain : goal.returns-then-at-chain
returns-then-at-chain c =
    chain_left c.args.rows.now c.args.chain.now c.loop-row.row c.loop-row.at c.loop-row.through.items (omega (arith, c.loop-row-test.false)) c.if-at-chain.true
    c.loop-row.invariant.under_way
