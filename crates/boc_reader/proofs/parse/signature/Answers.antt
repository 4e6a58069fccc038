use Rattle.std.proofs.Common.{map, rules, arith}
use Rattle.boc_reader.specs.Grammar.{signature_phrase}
use Rattle.boc_reader.specs.Views.{name_of}
use Rattle.boc_reader.proofs.Blocks.{names_nodes}
use Rattle.boc_reader.proofs.Refused.{passes}
use Rattle.boc_reader.proofs.Declarations.{no_params, no_held}
use Rattle.boc_reader.proofs.parse.signature.Goals as goal

pub returns-clause-answers : goal.returns-clause-answers
returns-clause-answers c =
    let n = names_nodes (map name_of c.in_ok-params.params.items) in
    let m = names_nodes (map name_of c.in_ok-cowns.cowns.items) in
    let params = c.in_ok-params.ensures.answers in
    let cowns = c.in_ok-cowns.ensures.answers in (
      record { tokens = search rules; ends = tt; fits = omega arith; small = (params.0.small, cowns.0.small) },
      omega (arith, params.1, cowns.1, c.in_ok-name.ensures.1, c.in_ok-take.ensures.1),
    )

pub returns-in_err-params-clause-answers : goal.returns-in_err-params-clause-answers
returns-in_err-params-clause-answers c =
    passes signature_phrase (λ s. (name_of s.0, (map name_of s.1.0.items, map name_of s.1.1.items))) _ _ _ _ _ c.from_residual-in_err-params.ensures.1
    c.in_err-params.ensures.answers
    (no_params c.args.cursor.now c.take.new.self (name_of c.in_ok-name.name) (search rules))

pub returns-in_err-cowns-clause-answers : goal.returns-in_err-cowns-clause-answers
returns-in_err-cowns-clause-answers c =
    passes signature_phrase (λ s. (name_of s.0, (map name_of s.1.0.items, map name_of s.1.1.items))) _ _ _ _ _ c.from_residual-in_err-cowns.ensures.1
    c.in_err-cowns.ensures.answers
    (no_held c.args.cursor.now c.take.new.self c.names.new.cursor (name_of c.in_ok-name.name) _ (search rules) c.in_ok-params.ensures.answers.0)
