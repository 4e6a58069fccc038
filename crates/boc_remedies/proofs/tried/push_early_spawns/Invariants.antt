use Rattle.std.proofs.Common.{◌≡◌, ◌++◌, map, take}
use Rattle.boc_remedies.specs.declared.remedy.Remedy.TheVariants.{EarlySpawns}
use Rattle.boc_remedies.proofs.tried.push_early_spawns.Given as goal

-- the defs so far are appended
abbrev pub invariant-loop-def : goal.invariant-loop-def
invariant-loop-def l = l.tried.items ≡ l.fn.tried.items ++ map EarlySpawns (take l.def-index l.defs)
