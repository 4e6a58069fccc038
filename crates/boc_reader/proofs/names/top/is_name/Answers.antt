use Rattle.std.proofs.Common.{sym, ◌∙◌}
use Rattle.std.specs.Str.{bytes_eq}
use Rattle.boc_reader.proofs.ResolvingLists.{list_any-map}
use Rattle.boc_reader.proofs.names.top.is_name.Goals as goal

pub returns : goal.returns
returns c = c.is_known.ensures ∙ sym (list_any-map (λ y. bytes_eq y c.args.name.now) (λ n. n.now) c.args.names.now)
