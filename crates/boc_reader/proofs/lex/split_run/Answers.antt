use Rattle.std.proofs.Common.{arith}
use Rattle.boc_reader.proofs.Texts.{run_at, run_ascii}
use Rattle.boc_reader.proofs.lex.split_run.Goals as goal

pub returns-clause-piece : goal.returns-clause-piece
returns-clause-piece c =
    rw (c.split_at.ensures.front, c.split_at.ensures.back) (run_at c.args.text.now c.run_len-len.result c.run_len-len.ensures (omega arith))

pub returns-clause-ascii : goal.returns-clause-ascii
returns-clause-ascii c =
    rw c.split_at.ensures.front (run_ascii c.args.text.now c.run_len-len.result c.run_len-len.ensures)
