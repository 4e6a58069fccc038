use Rattle.std.proofs.Common.{length-set}
use Rattle.boc_greedy.proofs.WordsAbove.{words_stay, words_clear, top_stays, top_clears}
use Rattle.boc_greedy.proofs.row_set.RowSet.remove.Goals as goal

pub returns-then-self-group-eq0-clause-set : goal.returns-then-self-group-eq0-clause-set
returns-then-self-group-eq0-clause-set c = record {
  rows_room = simp length-set c.requires.set.rows_room;
  words_room = simp length-set c.requires.set.words_room;
  words = words_clear c.args.self.now c.args.row c.requires.set c.requires.small c.without_bit.result c.index-2.result.now c.without_bit-then-index-eq0.result
      c.index-2.ensures c.if-index-eq0.true
      c.without_bit-then-index-eq0.ensures.cleared c.without_bit-then-index-eq0.ensures.others;
  top = top_clears c.args.self.now c.args.row c.requires.set c.requires.small c.without_bit-then-index-eq0.result c.without_bit-self.result
      c.if-self-group-eq0.true
      c.without_bit-self.ensures.cleared c.without_bit-self.ensures.others;
}

pub returns-else-self-group-eq0-clause-set : goal.returns-else-self-group-eq0-clause-set
returns-else-self-group-eq0-clause-set c = record {
  rows_room = simp length-set c.requires.set.rows_room;
  words_room = simp length-set c.requires.set.words_room;
  words = words_clear c.args.self.now c.args.row c.requires.set c.requires.small c.without_bit.result c.index-2.result.now c.without_bit-then-index-eq0.result
      c.index-2.ensures c.if-index-eq0.true
      c.without_bit-then-index-eq0.ensures.cleared c.without_bit-then-index-eq0.ensures.others;
  top = top_stays c.args.self.now c.args.row c.requires.set c.requires.small c.without_bit-then-index-eq0.result c.requires.has c.if-self-group-eq0.false;
}

pub returns-else-index-eq0-clause-set : goal.returns-else-index-eq0-clause-set
returns-else-index-eq0-clause-set c = record {
  rows_room = simp length-set c.requires.set.rows_room;
  words_room = c.requires.set.words_room;
  words = words_stay c.args.self.now c.args.row c.requires.set c.requires.small c.without_bit.result c.index-2.result.now c.index-2.ensures c.requires.has
      c.if-index-eq0.false;
  top = c.requires.set.top;
}
