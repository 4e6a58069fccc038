use Rattle.std.proofs.Common.{◌∙◌}
use Rattle.boc_reader.proofs.ResolvingTop.{cown_at}
use Rattle.boc_reader.proofs.names.top.Top.cown.Goals as goal

pub returns : goal.returns
returns c = cown_at c.args.self.now.cowns.items _ c.args.self.now.defs.items c.args.name.now _ c.deref.ensures.value (c.copied.ensures ∙ c.find_cown.ensures)
