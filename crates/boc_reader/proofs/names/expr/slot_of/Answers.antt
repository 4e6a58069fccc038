use Rattle.std.proofs.Common.{sym, ◌∙◌}
use Rattle.std.specs.Str.{bytes_eq}
use Rattle.boc_reader.proofs.ResolvingLists.{position-map}
use Rattle.boc_reader.proofs.names.expr.slot_of.Goals as goal

pub returns : goal.returns
returns c = c.index_in_scope.ensures ∙ sym (position-map (λ s. bytes_eq s c.args.name.now) (λ s. s.now) c.args.scope.now)
