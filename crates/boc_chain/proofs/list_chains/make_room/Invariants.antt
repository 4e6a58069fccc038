use Rattle.std.proofs.Common.{◌≡◌, ◌+◌, map, take}
use Rattle.std.specs.List.{sum_by}
use Rattle.boc_chain.specs.Chain.{times}
use Rattle.boc_chain.specs.Kept.{awaits, HasRoom}
use Rattle.boc_chain.proofs.list_chains.make_room.Given as goal

-- there is room for the cowns that were passed, and the lists are the same
abbrev pub invariant-loop-cown : goal.invariant-loop-cown
invariant-loop-cown l = (map (λ v. v.items) l.lines.items ≡ map (λ v. v.items) l.initial.lines.items)
    × HasRoom l.lines.items (λ c. sum_by (awaits c) l.places + times c (take l.cown-index l.cowns))
