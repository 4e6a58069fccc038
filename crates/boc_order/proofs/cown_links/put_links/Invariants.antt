use Rattle.std.proofs.Common.{◌≡◌, ◌++◌, map, take}
use Rattle.boc_order.specs.CownLinks.{link_to}
use Rattle.boc_order.proofs.cown_links.put_links.Given as goal

-- the links to the rows so far were added
abbrev pub invariant-loop-before : goal.invariant-loop-before
invariant-loop-before l = l.links.items ≡ l.fn.links.items ++ map (link_to l.row l.cown) (take l.before-index l.waits)
