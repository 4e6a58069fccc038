use Rattle.std.proofs.Common.{◌≡◌, ◌+◌, ◌≤◌, [], map, drop}
use Rattle.boc_reader.specs.Shape.{cowns_declared}
use Rattle.boc_reader.specs.Views.{cown_of}
use Rattle.boc_reader.specs.Resolving.{global_of, cowns_behind}
use Rattle.boc_reader.proofs.names.declare.declare_cowns.Given as goal

abbrev pub invariant-loop-cown : goal.invariant-loop-cown
invariant-loop-cown l = record {
  found : cowns_behind [] 0 (map cown_of l.cowns) ≡ cowns_behind (map global_of l.declared.items) l.first (map cown_of (drop l.cown-index l.cowns));
  few : l.first + cowns_declared (map cown_of (drop l.cown-index l.cowns)) ≤ 256;
}
