use Rattle.std.proofs.Common.{map, rules}
use Rattle.boc_reader.specs.Grammar.{call_phrase}
use Rattle.boc_reader.specs.Views.{name_of, expr_of, named_cown_of}
use Rattle.boc_reader.proofs.Refused.{passes}
use Rattle.boc_reader.proofs.Calls.{no_call_end}
use Rattle.boc_reader.proofs.parse.call.Goals as goal

pub returns-in_err-take-2-clause-answers : goal.returns-in_err-take-2-clause-answers
returns-in_err-take-2-clause-answers c =
    passes call_phrase (λ w. (name_of w.0, (map expr_of w.1.0.items, map named_cown_of w.1.1.items))) _ _ _ _ _ c.from_residual-in_err-take-2.ensures.1
    c.in_err-take-2.ensures
    (no_call_end c.args.cursor.now c.take.new.self c.arguments.new.cursor (name_of c.in_ok-def.def) _ (search rules) c.in_ok-arguments.ensures.answers.0)
