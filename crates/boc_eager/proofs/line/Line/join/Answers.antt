use Rattle.std.proofs.Common.{sym, subst, List, ℕ}
use Rattle.boc_eager.specs.Lines.{Adds}
use Rattle.boc_eager.proofs.Sets.{adds_number}
use Rattle.boc_eager.proofs.line.Line.join.Goals as goal

pub returns : goal.returns
returns c = record {
  front = c.in-Some.front;
  is_front = c.in-Some.is;
  lower = c.if-front-row.true;
  stays = c.in-Some.is;
  joins = subst (λ (keys : List ℕ). Adds c.args.self.now.behind.keys keys c.args.row) (sym c.in_ok-insert.ensures.keys)
      (adds_number c.args.self.now.behind.keys c.args.row);
}
