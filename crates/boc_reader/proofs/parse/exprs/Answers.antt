use Rattle.std.proofs.Common.{map, ap, sym, ◌∙◌, arith}
use Rattle.std.proofs.lemmas.List.{map_push, length-map}
use Rattle.boc_reader.specs.declared.terminal.Sign.TheVariants.{Semicolon}
use Rattle.boc_reader.specs.Phrases.{Ahead}
use Rattle.boc_reader.specs.Grammar.{expr_phrase, list_phrase}
use Rattle.boc_reader.specs.Views.{expr_of}
use Rattle.boc_reader.proofs.Lists.{read_comma, read_last}
use Rattle.boc_reader.proofs.Refused.{passes, tells}
use Rattle.boc_reader.proofs.Listed.{no_ninth, no_item, no_comma_here}
use Rattle.boc_reader.proofs.Items.{exprs_readable}
use Rattle.boc_reader.proofs.parse.exprs.Goals as goal

pub returns-then-accept-2-clause-answers : goal.returns-then-accept-2-clause-answers
returns-then-accept-2-clause-answers c =
    let item = c.in_ok-expr.ensures.answers in
    let taken = c.if-accept-2.ensures.taken in
    read_last expr_phrase Semicolon _ _ c.expr.new.cursor c.accept-in-exprs.new.self _ _ _ c.exprs.invariant item.0 item.1 c.in_ok-expr.ensures.shorter taken.0
    taken.1
    (omega (arith, length-map c.exprs.all.items expr_of, c.if-len-eq-MOST_LISTED.false, c.len.ensures, c.exprs.invariant.few))
    (ap (map expr_of) c.in_ok-push.ensures.items ∙ map_push expr_of c.exprs.all.items c.in_ok-expr.field-0)

pub exprs-preserved : goal.exprs-preserved
exprs-preserved c =
    let item = c.in_ok-expr.ensures.answers in
    let same = c.if-accept-2.ensures.stays.0 in
    read_comma expr_phrase _ _ c.expr.new.cursor _ _ _ _ c.exprs.invariant item.0 item.1 c.in_ok-expr.ensures.shorter
    (ap (λ (a : Ahead). a.tokens) (sym same) ∙ c.in_ok-take.ensures.0) (c.in_ok-take.ensures.1 ∙ ap (λ (a : Ahead). a.room) same)
    (omega (arith, length-map c.exprs.all.items expr_of, c.if-len-eq-MOST_LISTED.false, c.len.ensures, c.exprs.invariant.few))
    (ap (map expr_of) c.in_ok-push.ensures.items ∙ map_push expr_of c.exprs.all.items c.in_ok-expr.field-0)

pub returns-then-len-eq-MOST_LISTED-clause-answers : goal.returns-then-len-eq-MOST_LISTED-clause-answers
returns-then-len-eq-MOST_LISTED-clause-answers c =
    tells c.ninth_argument.result (no_ninth expr_phrase Semicolon exprs_readable _ _ _ c.exprs.invariant c.if-accept.ensures.stays.1
    (length-map c.exprs.all.items expr_of ∙ omega (arith, c.exprs.all.ok.0)))

pub returns-in_err-expr-clause-answers : goal.returns-in_err-expr-clause-answers
returns-in_err-expr-clause-answers c =
    passes (list_phrase expr_phrase Semicolon) (λ v. map expr_of v.items) _ _ _ _ _ c.from_residual.ensures.1 c.in_err-expr.ensures.answers
    (no_item expr_phrase Semicolon exprs_readable _ _ _ c.exprs.invariant c.if-accept.ensures.stays.1)

pub returns-in_err-take-clause-answers : goal.returns-in_err-take-clause-answers
returns-in_err-take-clause-answers c =
    let same = c.if-accept-2.ensures.stays.0 in
    passes (list_phrase expr_phrase Semicolon) (λ v. map expr_of v.items) _ _ _ _ _ c.from_residual-in_err-take.ensures.1 c.in_err-take.ensures
    (λ h. no_comma_here expr_phrase Semicolon exprs_readable _ _ _ _ _ c.exprs.invariant c.if-accept.ensures.stays.1 c.in_ok-expr.ensures.answers.0
    c.if-accept-2.ensures.stays.1 (λ after e. h after (ap (λ (a : Ahead). a.tokens) same ∙ e)))
