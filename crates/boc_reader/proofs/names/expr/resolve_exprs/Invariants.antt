use Rattle.std.proofs.Common.{◌≡◌, map, drop}
use Rattle.boc_program.specs.memory.View.{slot_expr_of}
use Rattle.boc_reader.specs.Names.{expr_names, all_names}
use Rattle.boc_reader.specs.Views.{expr_of}
use Rattle.boc_reader.specs.Resolving.{names_of}
use Rattle.boc_reader.proofs.ResolvingLists.{with_front}
use Rattle.boc_reader.proofs.names.expr.resolve_exprs.Given as goal

abbrev pub invariant-loop-expr : goal.invariant-loop-expr
invariant-loop-expr l = all_names (λ e. expr_names e (names_of l.scope)) (map expr_of l.exprs)
    ≡ with_front (map slot_expr_of l.all.items) (all_names (λ e. expr_names e (names_of l.scope)) (map expr_of (drop l.expr-index l.exprs)))
