use Rattle.std.proofs.Common.{◌≡◌, ◌++◌, take}
use Rattle.boc_cut.proofs.table.keep_uses.Given as goal

-- the uses so far stand behind the others
abbrev pub invariant-loop-used : goal.invariant-loop-used
invariant-loop-used l = l.uses.items ≡ l.fn.uses.items ++ take l.used-index l.kept
