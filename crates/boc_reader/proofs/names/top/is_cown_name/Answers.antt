use Rattle.std.proofs.Common.{sym, ◌∙◌}
use Rattle.boc_reader.proofs.ResolvingTop.{among_cowns}
use Rattle.boc_reader.proofs.names.top.is_cown_name.Goals as goal

pub returns : goal.returns
returns c = c.is_cown.ensures ∙ sym (among_cowns c.args.cowns.now c.args.name.now)
