use Rattle.boc_reader.specs.Shape.{HasShape}
use Rattle.boc_reader.specs.Placed.{tokens_of}
use Rattle.boc_reader.specs.Views.{tree_of}
use Rattle.boc_reader.proofs.Refused.{passes_on}
use Rattle.boc_reader.proofs.Declarations.{no_cowns, no_defs, no_main}
use Rattle.boc_reader.proofs.parse.parse_tree.Goals as goal

pub returns-in_err-cowns-clause-shape : goal.returns-in_err-cowns-clause-shape
returns-in_err-cowns-clause-shape c =
    passes_on (λ t. HasShape (tokens_of c.args.tokens.now) (tree_of t)) _ _ _ _ c.from_residual.ensures.1 c.in_err-cowns.ensures
    (no_cowns _ c.new-cursor.result c.new-cursor.ensures.tokens c.new-cursor.ensures.room)

pub returns-in_err-defs-clause-shape : goal.returns-in_err-defs-clause-shape
returns-in_err-defs-clause-shape c =
    passes_on (λ t. HasShape (tokens_of c.args.tokens.now) (tree_of t)) _ _ _ _ c.from_residual-in_err-defs.ensures.1 c.in_err-defs.ensures.answers
    (no_defs _ c.new-cursor.result c.cowns.new.cursor c.refill.new.self _ c.new-cursor.ensures.tokens c.in_ok-cowns.ensures.0 c.refill.ensures.tokens
    c.refill.ensures.room)

pub returns-in_err-main-clause-shape : goal.returns-in_err-main-clause-shape
returns-in_err-main-clause-shape c =
    passes_on (λ t. HasShape (tokens_of c.args.tokens.now) (tree_of t)) _ _ _ _ c.from_residual-in_err-main.ensures.1 c.in_err-main.ensures
    (no_main _ c.new-cursor.result c.cowns.new.cursor c.refill.new.self c.defs.new.cursor _ _ c.new-cursor.ensures.tokens c.in_ok-cowns.ensures.0
    c.refill.ensures.tokens c.in_ok-defs.ensures.answers.0)
