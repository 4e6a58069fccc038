use Rattle.std.proofs.Common.{◌≡◌, take}
use Rattle.boc_cut.specs.Spawned.{AppendsUses}
use Rattle.boc_cut.proofs.table.Table.put_uses.Given as goal

-- the uses of the cowns so far stand behind the others
abbrev pub invariant-loop-cown : goal.invariant-loop-cown
invariant-loop-cown l = (l.self.rows.items ≡ l.fn.self.rows.items) × AppendsUses (take l.cown-index l.cowns) l.fn.self.uses.items l.self.uses.items
