use Rattle.std.proofs.Common.{◌≡◌, take}
use Rattle.boc_page.proofs.rows.cowns_of.Given as goal

-- what is there so far
abbrev pub invariant-loop-cown : goal.invariant-loop-cown
invariant-loop-cown l = l.numbers.items ≡ take l.cown-index l.cowns
