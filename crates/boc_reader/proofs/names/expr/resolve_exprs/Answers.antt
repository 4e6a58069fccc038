use Rattle.std.proofs.Common.{map, arith}
use Rattle.boc_program.specs.memory.View.{slot_expr_of}
use Rattle.boc_reader.specs.Names.{expr_names}
use Rattle.boc_reader.specs.Views.{expr_of}
use Rattle.boc_reader.specs.Resolving.{names_of}
use Rattle.boc_reader.proofs.ResolvingFront.{names_more, names_none}
use Rattle.boc_reader.proofs.ResolvingParameters.{passed_on}
use Rattle.boc_reader.proofs.names.expr.resolve_exprs.Goals as goal

pub loop-expr-preserved : goal.loop-expr-preserved
loop-expr-preserved c =
    names_more (λ e. expr_names e (names_of c.args.scope.now)) expr_of slot_expr_of c.args.exprs.now c.loop-expr.expr-index c.expr-item.result
    c.loop-expr.all.items _ c.in_ok-value.value _ (omega arith) c.expr-item.is c.in_ok-value.ensures c.in_ok-push.ensures.items c.loop-expr.invariant

pub returns-in_err-value : goal.returns-in_err-value
returns-in_err-value c =
    passed_on slot_expr_of (λ v. map slot_expr_of v.items) _ _ _ _ c.from_residual.ensures.1 c.in_err-value.ensures
    (names_none (λ e. expr_names e (names_of c.args.scope.now)) expr_of slot_expr_of c.args.exprs.now c.loop-expr.expr-index c.expr-item.result
    c.loop-expr.all.items _ (omega arith) c.expr-item.is c.loop-expr.invariant)
