use Rattle.std.proofs.Common.{rules}
use Rattle.boc_reader.specs.Grammar.{expr_phrase, sum_phrase, term_phrase, unary_phrase, atom_phrase, closed_phrase}
use Rattle.boc_reader.specs.Views.{expr_of, sum_of, term_of, unary_of, atom_of}
use Rattle.boc_reader.proofs.Refused.{passes, tells, no_close}
use Rattle.boc_reader.proofs.Operators.{sign_ends}
use Rattle.boc_reader.proofs.Expressions.{one_expr, no_comparison, no_first_term, no_more_terms, no_first_factor, no_more_factors, no_room_for_atom}
use Rattle.boc_reader.proofs.Expressions.{no_room_for_unary, no_negated, no_unsigned, no_parens, not_atom}
use Rattle.boc_reader.proofs.parse.+expr.Goals as goal
use Rattle.boc_reader.proofs.parse.+expr.Goals.{atom-in_default-via-in-Some+in-Sign+in_default, atom-in_default-via-in-Some+in_default}
use Rattle.boc_reader.proofs.parse.+expr.Goals.{atom-in_default-via-in_default}

pub atom-returns-in_err-begin-in-Some-Number-clause-answers : goal.atom-returns-in_err-begin-in-Some-Number-clause-answers
atom-returns-in_err-begin-in-Some-Number-clause-answers t c =
    passes atom_phrase atom_of _ _ _ _ _ c.from_residual.ensures.1 c.in_err-begin-in-Some-Number.ensures (no_room_for_atom _)

pub atom-returns-in_err-begin-in-Some-Name-clause-answers : goal.atom-returns-in_err-begin-in-Some-Name-clause-answers
atom-returns-in_err-begin-in-Some-Name-clause-answers t c =
    passes atom_phrase atom_of _ _ _ _ _ c.from_residual-in_err-begin-in-Some-Name.ensures.1 c.in_err-begin-in-Some-Name.ensures (no_room_for_atom _)

pub atom-returns-in_err-begin-in-Some-Sign-Open-clause-answers : goal.atom-returns-in_err-begin-in-Some-Sign-Open-clause-answers
atom-returns-in_err-begin-in-Some-Sign-Open-clause-answers t c =
    passes atom_phrase atom_of _ _ _ _ _ c.from_residual-in_err-begin-in-Some-Sign-Open.ensures.1 c.in_err-begin-in-Some-Sign-Open.ensures (no_room_for_atom _)

pub atom-returns-in_err-inner-in-Some-Sign-Open-clause-answers : goal.atom-returns-in_err-inner-in-Some-Sign-Open-clause-answers
atom-returns-in_err-inner-in-Some-Sign-Open-clause-answers t c =
    passes atom_phrase atom_of _ _ _ _ _ c.from_residual-in_err-inner-in-Some-Sign-Open.ensures.1 c.in_err-inner-in-Some-Sign-Open.ensures.answers
    (no_parens _ c.begin-in-Some-Sign-Open.new.self (search rules) (search rules))

pub atom-returns-in_default-clause-answers : goal.atom-returns-in_default-clause-answers
atom-returns-in_default-clause-answers t c =
    elim c.in_default.branch [
      | atom-in_default-via-in-Some+in-Sign+in_default w ↦ tells c.unexpected.result (not_atom _ (search rules) (search rules) (search rules))
      | atom-in_default-via-in-Some+in_default w ↦ tells c.unexpected.result (not_atom _ (search rules) (search rules) (search rules))
      | atom-in_default-via-in_default w ↦ tells c.unexpected.result (not_atom _ (search rules) (search rules) (search rules))
    ]

pub closed-returns-in_err-take-clause-answers : goal.closed-returns-in_err-take-clause-answers
closed-returns-in_err-take-clause-answers t c =
    passes (closed_phrase expr_phrase c.args.close) expr_of _ _ _ _ _ c.from_residual-in_err-take.ensures.1 c.in_err-take.ensures
    (no_close expr_phrase c.args.close (sign_ends c.args.close c.requires) one_expr _ c.expr.new.cursor _ c.in_ok-inner.ensures.answers.0)

pub expr-returns-in_err-compared-clause-answers : goal.expr-returns-in_err-compared-clause-answers
expr-returns-in_err-compared-clause-answers t c =
    passes expr_phrase expr_of _ _ _ _ _ c.from_residual-in_err-compared.ensures.1 c.in_err-compared.ensures.answers
    (no_comparison _ _ _ c.in_ok-left.ensures.answers.0 c.in_ok-left.ensures.answers.1)

pub sum-returns-in_err-first-clause-answers : goal.sum-returns-in_err-first-clause-answers
sum-returns-in_err-first-clause-answers t c =
    passes sum_phrase (λ b. sum_of b.value) _ _ _ _ _ c.from_residual.ensures.1 c.in_err-first.ensures.answers (no_first_term _)

pub sum-returns-in_err-more_terms-clause-answers : goal.sum-returns-in_err-more_terms-clause-answers
sum-returns-in_err-more_terms-clause-answers t c =
    passes sum_phrase (λ b. sum_of b.value) _ _ _ _ _ c.from_residual-in_err-more_terms.ensures.1 c.in_err-more_terms.ensures.answers
    (no_more_terms _ _ _ c.in_ok-first.ensures.answers.0 c.in_ok-first.ensures.answers.1)

pub term-returns-in_err-first-clause-answers : goal.term-returns-in_err-first-clause-answers
term-returns-in_err-first-clause-answers t c =
    passes term_phrase (λ b. term_of b.value) _ _ _ _ _ c.from_residual.ensures.1 c.in_err-first.ensures.answers (no_first_factor _)

pub term-returns-in_err-more_factors-clause-answers : goal.term-returns-in_err-more_factors-clause-answers
term-returns-in_err-more_factors-clause-answers t c =
    passes term_phrase (λ b. term_of b.value) _ _ _ _ _ c.from_residual-in_err-more_factors.ensures.1 c.in_err-more_factors.ensures.answers
    (no_more_factors _ _ _ c.in_ok-first.ensures.answers.0 c.in_ok-first.ensures.answers.1)

pub unary-returns-in_err-minus-clause-answers : goal.unary-returns-in_err-minus-clause-answers
unary-returns-in_err-minus-clause-answers t c =
    passes unary_phrase unary_of _ _ _ _ _ c.from_residual.ensures.1 c.in_err-minus.ensures (no_room_for_unary _)

pub unary-returns-in_err-atom-clause-answers : goal.unary-returns-in_err-atom-clause-answers
unary-returns-in_err-atom-clause-answers t c =
    passes unary_phrase unary_of _ _ _ _ _ c.from_residual-in_err-atom.ensures.1 c.in_err-atom.ensures.answers (no_unsigned _ _ (search rules) (search rules))

pub unary-returns-in_err-inner-clause-answers : goal.unary-returns-in_err-inner-clause-answers
unary-returns-in_err-inner-clause-answers t c =
    passes unary_phrase unary_of _ _ _ _ _ c.from_residual-in_err-inner.ensures.1 c.in_err-inner.ensures.answers
    (no_negated _ c.minus.new.self (search rules) (search rules))
