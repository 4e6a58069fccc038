use Rattle.std.proofs.Common.{◌∙◌, ap, sym, map, []}
use Rattle.boc_reader.specs.Views.{cown_of}
use Rattle.boc_reader.specs.Resolving.{global_of, cowns_behind}
use Rattle.boc_reader.proofs.ResolvingOrder.{cowns_end}
use Rattle.boc_reader.proofs.names.declare.declare_top.Goals as goal

pub returns-clause-cowns : goal.returns-clause-cowns
returns-clause-cowns c =
    cowns_end (map cown_of c.args.tree.now.cowns.items) (map global_of c.in_ok-cowns.cowns.items) c.requires
    (ap (λ (xs : _). cowns_behind [] 0 (map cown_of xs)) (sym c.deref.ensures.value) ∙ c.in_ok-cowns.ensures)
