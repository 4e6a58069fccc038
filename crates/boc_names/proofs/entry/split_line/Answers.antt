use Rattle.boc_text.proofs.Ahead.{none_in_front, none_in_all}
use Rattle.boc_names.proofs.entry.split_line.Goals as goal

pub returns-in-None : goal.returns-in-None
returns-in-None c =
    let none = none_in_front c.args.text.now c.min-most.result c.min-most.ensures c.in-None.ensures c.if-most-gt-MOST_LINE.true in
    record { more = none.0; one = none.1 }

pub returns-in-None-2 : goal.returns-in-None-2
returns-in-None-2 c =
    let none = none_in_all c.args.text.now c.min-most.result c.min-most.ensures c.in-None-2.ensures c.if-most-gt-MOST_LINE.false in
    record { some = c.requires; one = none.1; short = none.0 }
