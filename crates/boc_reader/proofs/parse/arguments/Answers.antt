use Rattle.std.proofs.Common.{map}
use Rattle.boc_reader.specs.declared.terminal.Sign.TheVariants.{Semicolon, Close}
use Rattle.boc_reader.specs.Grammar.{arguments_phrase, expr_phrase, ref_phrase, list_phrase}
use Rattle.boc_reader.specs.Views.{expr_of, named_cown_of}
use Rattle.boc_reader.proofs.Refused.{passes, no_second}
use Rattle.boc_reader.proofs.Calls.{one_exprs}
use Rattle.boc_reader.proofs.parse.arguments.Goals as goal

pub returns-in_err-refs-clause-answers : goal.returns-in_err-refs-clause-answers
returns-in_err-refs-clause-answers c =
    passes arguments_phrase (λ w. (map expr_of w.0.items, map named_cown_of w.1.items)) _ _ _ _ _ c.from_residual-in_err-refs.ensures.1
    c.in_err-refs.ensures.answers
    (no_second (list_phrase expr_phrase Semicolon) (list_phrase ref_phrase Close) (λ _ _ _ _. tt) one_exprs _ _ _ c.in_ok-args.ensures.answers.0
    c.in_ok-args.ensures.answers.1)
