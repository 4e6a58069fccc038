use Rattle.std.proofs.Common.{◌++◌, ◌∙◌, sym, ap}
use Rattle.boc_play.proofs.Chaining.{list_taken, list_there}
use Rattle.boc_play.proofs.waiting.take.Goals as goal

pub returns-clause-next : goal.returns-clause-next
returns-clause-next c = list_taken c.args.next.now c.args.place c.append.new.other c.in_ok-append.ensures.other_items

pub returns-clause-others : goal.returns-clause-others
returns-clause-others c =
    c.in_ok-append.ensures.items
    ∙ ap (λ xs. c.args.others.now.items ++ xs) (sym (list_there c.args.next.now c.args.place c.index-next-place.result c.requires))
