use Rattle.std.proofs.Common.{sym, ◌∙◌}
use Rattle.std.specs.Str.{bytes_eq}
use Rattle.boc_reader.specs.Views.{name_of}
use Rattle.boc_reader.proofs.ResolvingLists.{position-map}
use Rattle.boc_reader.proofs.names.top.parameter_of.Goals as goal

pub returns : goal.returns
returns c = c.find_parameter.ensures ∙ sym (position-map (λ s. bytes_eq s c.args.name.now) name_of c.args.held.now)
