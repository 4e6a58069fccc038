use Rattle.std.proofs.Common.{◌≡◌, ◌<◌, ◌^◌, ◌++◌, ◌∷◌, ◌∙◌, [], ap, length, arith}
use Rattle.std.proofs.lemmas.List.{append-nil}
use Rattle.boc_record.specs.RecordTexts.{fields}
use Rattle.std.proofs.lemmas.Bool.Decides.{nat_tests}
use Rattle.std.proofs.lemmas.List.Elements.{All-push}
use Rattle.boc_record.proofs.Runs.{nothing_left}
use Rattle.boc_stream.proofs.ShortFields.{no_numbers, read_more}
use Rattle.boc_stream.proofs.fields.read_fields.Goals as goal

pub returns-in_default-clause-none : goal.returns-in_default-clause-none
returns-in_default-clause-none c =
    let i = c.loop-rest.invariant in
    λ ns t. no_numbers c.args.text.now c.loop-rest.numbers.items c.loop-rest.rest.now i.0 i.1 i.2 (grind (arith, nat_tests)) c.in_default.ensures ns t.small t.is

pub loop-rest-preserved : goal.loop-rest-preserved
loop-rest-preserved c =
    let i = c.loop-rest.invariant in
    rw c.in_ok-push.ensures.items (
      read_more c.args.text.now c.loop-rest.numbers.items c.loop-rest.rest.now c.in-Some.after.now c.in-Some.number i.0 c.in-Some.ensures,
      All-push (λ n. n < 10 ^ 18) c.loop-rest.numbers.items c.in-Some.number i.1 c.in-Some.ensures.small,
      λ h. c.in-Some.ensures.apart,
    )

pub returns-clause-all : goal.returns-clause-all
returns-clause-all c =
    let i = c.loop-rest.invariant in
    let none : c.loop-rest.rest.now ≡ [] = nothing_left c.loop-rest.rest.now (grind (arith, nat_tests)) in
    record { small = i.1; is = i.0 ∙ ap (λ r. fields c.loop-rest.numbers.items ++ r) none ∙ append-nil (fields c.loop-rest.numbers.items) }
