use Rattle.std.proofs.Common.{sym}
use Rattle.boc_runs.specs.Rows.{written_of}
use Rattle.boc_order.proofs.Found.{found, finds}
use Rattle.boc_used_greedy.proofs.fronts.blocks.Goals as goal

pub returns-in-Some : goal.returns-in-Some
returns-in-Some c = (
  λ t. record {
    held = (c.in-Some.field-0, sym c.in-Some.ensures);
    wrote = finds c.args.cown (written_of c.args.rows.now c.args.row) (c.writes.ensures.0 t);
  },
  λ b. c.writes.ensures.1 (found c.args.cown (written_of c.args.rows.now c.args.row) b.wrote),
)
