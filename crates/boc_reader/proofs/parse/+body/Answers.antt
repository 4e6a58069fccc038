use Rattle.std.proofs.Common.{map, rules, sym, ap, ◌∙◌, subst, arith}
use Rattle.std.proofs.lemmas.List.{map_push}
use Rattle.std.specs.Option.{option_map}
use Rattle.boc_reader.specs.Shape.{block_tokens}
use Rattle.boc_reader.specs.Phrases.{Ahead}
use Rattle.boc_reader.specs.Grammar.{expr_phrase, stmt_phrase, block_phrase, braced_phrase, else_phrase, pair_phrase}
use Rattle.boc_reader.specs.Views.{stmt_of, block_of}
use Rattle.boc_reader.proofs.Refused.{passes, no_first, no_second}
use Rattle.boc_reader.proofs.Expressions.{one_expr}
use Rattle.boc_reader.proofs.Each.{ReadEach, read_each_more}
use Rattle.boc_reader.proofs.Blocks.{block_tokens-list, block_nodes-list, small_block}
use Rattle.boc_reader.proofs.Statements.{one_braced, brace_ends, no_next_stmt, no_room_for_stmt, no_if, no_repeat, no_other}
use Rattle.boc_reader.proofs.parse.+body.Goals as goal

pub block-stmts-preserved : goal.block-stmts-preserved
block-stmts-preserved t c =
    let item = c.in_ok-stmt.ensures.answers in
    let so_far = subst (λ (a : Ahead). ReadEach stmt_phrase c.args.cursor.now a (map stmt_of c.stmts.all.items)) (sym c.stmts-test.ensures.stays.0)
    c.stmts.invariant in
    read_each_more stmt_phrase _ _ _ _ _ _ so_far item.0 item.1 c.in_ok-stmt.ensures.shorter
    (ap (map stmt_of) c.in_ok-push.ensures.items ∙ map_push stmt_of c.stmts.all.items c.in_ok-stmt.field-0)

pub block-returns-clause-answers : goal.block-returns-clause-answers
block-returns-clause-answers t c =
    let taken = c.stmts-test.ensures.taken in
    let n = block_nodes-list (map stmt_of c.stmts.all.items) in (
      record {
        tokens = c.stmts.invariant.tokens ∙ block_tokens-list (map stmt_of c.stmts.all.items) c.stmts.cursor.tokens
            ∙ ap (block_tokens (block_of c.stmts.all.items)) taken.0;
        ends = tt;
        fits = omega (arith, c.stmts.invariant.room);
        small = small_block _ c.stmts.invariant.small;
      },
      omega (arith, c.stmts.invariant.room, taken.1),
    )

pub block-returns-in_err-stmt-clause-answers : goal.block-returns-in_err-stmt-clause-answers
block-returns-in_err-stmt-clause-answers t c =
    let so_far = subst (λ (a : Ahead). ReadEach stmt_phrase c.args.cursor.now a (map stmt_of c.stmts.all.items)) (sym c.stmts-test.ensures.stays.0)
    c.stmts.invariant in
    passes block_phrase (λ v. block_of v.items) _ _ _ _ _ c.from_residual.ensures.1 c.in_err-stmt.ensures.answers
    (no_next_stmt _ _ _ so_far (λ after e. c.stmts-test.ensures.stays.1 after (ap (λ (a : Ahead). a.tokens) (sym c.stmts-test.ensures.stays.0) ∙ e)))

pub blocks-returns-in_err-other-clause-answers : goal.blocks-returns-in_err-other-clause-answers
blocks-returns-in_err-other-clause-answers t c =
    passes (pair_phrase braced_phrase else_phrase) (λ w. (block_of w.0.items, option_map (λ b. block_of b.items) w.1)) _ _ _ _ _
    c.from_residual-in_err-other.ensures.1 c.in_err-other.ensures.answers
    (λ none. no_second braced_phrase else_phrase (λ _ _ _ _. tt) one_braced _ c.braced.new.cursor _ c.in_ok-body.ensures.answers.0
    c.in_ok-body.ensures.answers.1 (no_other _ c.skip.new.self (search rules) (search rules) none))

pub choice-returns-in_err-begin-clause-answers : goal.choice-returns-in_err-begin-clause-answers
choice-returns-in_err-begin-clause-answers t c =
    passes stmt_phrase stmt_of _ _ _ _ _ c.from_residual.ensures.1 c.in_err-begin.ensures (no_room_for_stmt _)

pub choice-returns-in_err-test-clause-answers : goal.choice-returns-in_err-test-clause-answers
choice-returns-in_err-test-clause-answers t c =
    passes stmt_phrase stmt_of _ _ _ _ _ c.from_residual-in_err-test.ensures.1 c.in_err-test.ensures.answers
    (λ none. no_if _ c.begin.new.self (search rules) (search rules)
    (no_first expr_phrase (pair_phrase braced_phrase else_phrase) (λ x p r _. brace_ends x p.0 _) _ none))

pub choice-returns-in_err-body-clause-answers : goal.choice-returns-in_err-body-clause-answers
choice-returns-in_err-body-clause-answers t c =
    passes stmt_phrase stmt_of _ _ _ _ _ c.from_residual-in_err-body.ensures.1 c.in_err-body.ensures.answers
    (λ none. no_if _ c.begin.new.self (search rules) (search rules)
    (no_second expr_phrase (pair_phrase braced_phrase else_phrase) (λ x p r _. brace_ends x p.0 _) one_expr _ _ _ c.in_ok-test.ensures.answers.0
    c.in_ok-test.ensures.answers.1 none))

pub repeated-returns-in_err-begin-clause-answers : goal.repeated-returns-in_err-begin-clause-answers
repeated-returns-in_err-begin-clause-answers t c =
    passes stmt_phrase stmt_of _ _ _ _ _ c.from_residual.ensures.1 c.in_err-begin.ensures (no_room_for_stmt _)

pub repeated-returns-in_err-turns-clause-answers : goal.repeated-returns-in_err-turns-clause-answers
repeated-returns-in_err-turns-clause-answers t c =
    passes stmt_phrase stmt_of _ _ _ _ _ c.from_residual-in_err-turns.ensures.1 c.in_err-turns.ensures.answers
    (λ none. no_repeat _ c.begin.new.self (search rules) (search rules) (no_first expr_phrase braced_phrase (λ x b r _. brace_ends x b r) _ none))

pub repeated-returns-in_err-body-clause-answers : goal.repeated-returns-in_err-body-clause-answers
repeated-returns-in_err-body-clause-answers t c =
    passes stmt_phrase stmt_of _ _ _ _ _ c.from_residual-in_err-body.ensures.1 c.in_err-body.ensures.answers
    (λ none. no_repeat _ c.begin.new.self (search rules) (search rules)
    (no_second expr_phrase braced_phrase (λ x b r _. brace_ends x b r) one_expr _ _ _ c.in_ok-turns.ensures.answers.0 c.in_ok-turns.ensures.answers.1 none))
