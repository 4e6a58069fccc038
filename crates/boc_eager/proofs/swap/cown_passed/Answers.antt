use Rattle.boc_eager.proofs.Ahead.{goes_ahead, none_ahead}
use Rattle.boc_eager.proofs.swap.cown_passed.Goals as goal

pub returns : goal.returns
returns c = record {
  ahead = goes_ahead c.args.rows.now c.args.starts.now c.args.row c.args.ahead c.requires.before c.requires.there c.if-starts-row.false
      c.conflict_of.result c.conflict_of.ensures.some;
  least = c.conflict_of.ensures.some;
  none = none_ahead c.args.rows.now c.args.starts.now c.args.row c.args.ahead c.conflict_of.result c.conflict_of.ensures.none;
}
