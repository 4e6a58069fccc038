use Rattle.boc_stream.proofs.Ahead.{none_in_front, none_in_all}
use Rattle.boc_stream.proofs.lines.front_of.Goals as goal

pub returns-in-None : goal.returns-in-None
returns-in-None c = none_in_front c.args.bytes.now c.min-most.result c.min-most.ensures c.in-None.ensures c.if-most-gt-MOST_LINE.true

pub returns-in-None-2 : goal.returns-in-None-2
returns-in-None-2 c = none_in_all c.args.bytes.now c.min-most.result c.min-most.ensures c.in-None-2.ensures c.if-most-gt-MOST_LINE.false
