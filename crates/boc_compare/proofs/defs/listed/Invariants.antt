use Rattle.std.proofs.Common.{◌≡◌, map, take}
use Rattle.boc_compare.specs.DefTables.{of_tables}
use Rattle.boc_compare.proofs.defs.listed.Given as goal

-- the keys so far
abbrev pub invariant-loop-key : goal.invariant-loop-key
invariant-loop-key l = l.list.items ≡ map (of_tables l.tables) (take l.key-index l.keys)
