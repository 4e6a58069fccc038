use Rattle.std.proofs.Common.{◌≡◌, map, drop}
use Rattle.boc_reader.specs.Judging.{exprs_verdict}
use Rattle.boc_reader.specs.Views.{expr_of}
use Rattle.boc_reader.specs.Resolving.{names_of}
use Rattle.boc_reader.proofs.names.judge.expr.judge_exprs.Given as goal

abbrev pub invariant-loop-expr : goal.invariant-loop-expr
invariant-loop-expr l = exprs_verdict (names_of l.scope) (map expr_of l.exprs) l.fn.count
    ≡ exprs_verdict (names_of l.scope) (map expr_of (drop l.expr-index l.exprs)) l.count
