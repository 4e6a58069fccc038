use Rattle.std.proofs.Common.{◌≡◌, ◌++◌, map, take}
use Rattle.std.specs.Prelude.{flat_map}
use Rattle.std.specs.List.{fold}
use Rattle.boc_many_runs.specs.Union.{counted}
use Rattle.boc_many_runs.proofs.first_pass.FirstPass.add_all.Given as goal

-- the runs so far are added
abbrev pub invariant-loop-seen : goal.invariant-loop-seen
invariant-loop-seen l = record {
  numbers : l.self.numbers.items ≡ l.fn.self.numbers.items ++ map (λ s. s.numbers) (take l.seen-index l.all);
  counted : l.self.counted.items ≡ fold counted l.fn.self.counted.items (flat_map (λ s. s.tried.items) (take l.seen-index l.all));
}
