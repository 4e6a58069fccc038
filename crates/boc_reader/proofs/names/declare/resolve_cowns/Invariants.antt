use Rattle.std.proofs.Common.{◌≡◌, ◌≤◌, ◌++◌, map, drop}
use Rattle.boc_reader.specs.Shape.{cowns_declared}
use Rattle.boc_reader.specs.Names.{plain_cown}
use Rattle.boc_reader.specs.Spells.{plain_declared}
use Rattle.boc_reader.specs.Views.{cown_of}
use Rattle.boc_reader.proofs.names.declare.resolve_cowns.Given as goal

abbrev pub invariant-loop-cown : goal.invariant-loop-cown
invariant-loop-cown l = record {
  made : map plain_cown (map cown_of l.cowns) ≡ map plain_declared l.all.items ++ map plain_cown (map cown_of (drop l.cown-index l.cowns));
  few : cowns_declared (map cown_of (drop l.cown-index l.cowns)) ≤ 256;
}
