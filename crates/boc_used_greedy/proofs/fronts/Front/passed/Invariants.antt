use Rattle.std.proofs.Common.{◌≡◌, ◌-◌, ◌≤◌, length}
use Rattle.boc_used_greedy.specs.Fronts.{HasCome}
use Rattle.boc_used_greedy.proofs.fronts.Front.passed.Given as goal

-- the cown has come so far
abbrev pub invariant-loop-next : goal.invariant-loop-next
invariant-loop-next l = record {
  come : HasCome l.rows l.holds.all.items l.starts l.cown l.front;
  told : l.front.told ≡ l.self.told;
  further : l.self.at ≤ l.front.at;
}

abbrev pub decreases-loop-next : goal.decreases-loop-next
decreases-loop-next l = length l.rows - l.front.at
