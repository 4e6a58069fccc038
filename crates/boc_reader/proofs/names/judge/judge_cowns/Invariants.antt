use Rattle.std.proofs.Common.{◌≡◌, ◌++◌, map, drop}
use Rattle.boc_reader.specs.Judging.{cowns_verdict}
use Rattle.boc_reader.specs.Views.{cown_of}
use Rattle.boc_reader.specs.Resolving.{names_of}
use Rattle.boc_reader.proofs.names.judge.judge_cowns.Given as goal

abbrev pub invariant-loop-cown : goal.invariant-loop-cown
invariant-loop-cown l = record {
  said : cowns_verdict (names_of l.fn.before.items) (map (λ c. c.name) (map cown_of l.fn.cowns)) l.fn.count
      ≡ cowns_verdict (names_of l.before.items) (map (λ c. c.name) (map cown_of (drop l.cown-index l.cowns))) l.count;
  before : names_of l.fn.before.items ++ map (λ c. c.name) (map cown_of l.fn.cowns)
      ≡ names_of l.before.items ++ map (λ c. c.name) (map cown_of (drop l.cown-index l.cowns));
}
