use Rattle.std.proofs.Common.{sym, ◌∙◌}
use Rattle.boc_reader.proofs.ResolvingTop.{among_top, by_first, by_second}
use Rattle.boc_reader.proofs.names.top.is_declared.Goals as goal

pub returns-then-is_cown : goal.returns-then-is_cown
returns-then-is_cown c = by_first _ _ _ c.is_cown.ensures c.if-is_cown.true ∙ sym (among_top c.args.cowns.now c.args.defs.now c.args.name.now)

pub returns-else-is_cown : goal.returns-else-is_cown
returns-else-is_cown c = by_second _ _ _ _ c.is_cown.ensures c.if-is_cown.false c.is_def.ensures
    ∙ sym (among_top c.args.cowns.now c.args.defs.now c.args.name.now)
