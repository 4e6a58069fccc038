use Rattle.std.proofs.Common.{rules, arith}
use Rattle.boc_greedy.proofs.WordsAbove.{least_group, least_word, least_row}
use Rattle.boc_greedy.proofs.row_set.RowSet.least.Goals as goal

pub bounds-self-group : goal.bounds-self-group
bounds-self-group c = (least_group c.args.self.now c.requires (omega arith) (search rules)).0

pub index-requires : goal.index-requires
index-requires c =
    let s = c.args.self.now in
    let w = least_word s c.requires (omega arith) (search rules) (search rules) in
    omega (arith, w.0, c.requires.rows_room, s.rows.ok.0)

pub returns-clause-had : goal.returns-clause-had
returns-clause-had c =
    let l = least_row c.args.self.now c.requires (omega arith) (search rules) (search rules) c.index.result.now c.index.ensures (search rules) in
    (l.0, l.1)

pub returns-clause-least : goal.returns-clause-least
returns-clause-least c = (least_row c.args.self.now c.requires (omega arith) (search rules) (search rules) c.index.result.now c.index.ensures (search rules)).2
