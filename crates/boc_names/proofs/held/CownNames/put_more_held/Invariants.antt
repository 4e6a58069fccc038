use Rattle.std.proofs.Common.{◌≡◌, ◌++◌, codes, flat_map, length, map}
use Rattle.boc_names.specs.Names.{goes_on, stretch_text}
use Rattle.boc_names.specs.Stretches.{stretches}
use Rattle.boc_names.proofs.held.CownNames.put_more_held.Given as goal

-- the text so far and the stretches that are left are all of them
abbrev pub invariant-loop-rest : goal.invariant-loop-rest
invariant-loop-rest l =
    l.text.items ++ flat_map (λ told. codes ", " ++ told) (map (stretch_text l.self) (stretches (goes_on l.self) l.rest))
    ≡ l.fn.text.items ++ flat_map (λ told. codes ", " ++ told) (map (stretch_text l.self) (stretches (goes_on l.self) l.held))

abbrev pub decreases-loop-rest : goal.decreases-loop-rest
decreases-loop-rest l = length l.rest
