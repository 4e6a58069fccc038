use Rattle.std.proofs.Common.{◌≡◌, ◌++◌, codes, flat_map, map, take}
use Rattle.boc_names.specs.Names.{text_at}
use Rattle.boc_names.proofs.held.CownNames.put_more_each.Given as goal

abbrev pub invariant-loop-cown : goal.invariant-loop-cown
invariant-loop-cown l =
    l.text.items ≡ l.initial.text.items ++ flat_map (λ name. codes ", " ++ name) (map (text_at l.self.names) (take l.cown-index l.held))
