use Rattle.std.proofs.Common.{◌≡◌, ◌++◌, map, drop}
use Rattle.boc_reader.specs.Judging.{parameters_verdict}
use Rattle.boc_reader.specs.Views.{name_of}
use Rattle.boc_reader.specs.Resolving.{names_of, declared_of}
use Rattle.boc_reader.proofs.names.judge.judge_parameters.Given as goal

abbrev pub invariant-loop-param : goal.invariant-loop-param
invariant-loop-param l = record {
  said : parameters_verdict (declared_of l.fn.top) (names_of l.fn.scope.items) (map name_of l.fn.params) l.fn.count
      ≡ parameters_verdict (declared_of l.top) (names_of l.scope.items) (map name_of (drop l.param-index l.params)) l.count;
  scope : names_of l.fn.scope.items ++ map name_of l.fn.params ≡ names_of l.scope.items ++ map name_of (drop l.param-index l.params);
}
