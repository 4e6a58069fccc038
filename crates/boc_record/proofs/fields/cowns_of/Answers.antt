use Rattle.std.proofs.Common.{◌≡◌, ◌<◌, ◌^◌, ◌++◌, ◌∷◌, ◌∙◌, [], ap, length, arith, rules}
use Rattle.std.proofs.lemmas.List.{append-nil, length-append}
use Rattle.boc_record.specs.RecordTexts.{fields}
use Rattle.std.proofs.lemmas.Bool.Decides.{nat_tests}
use Rattle.std.proofs.lemmas.List.Elements.{All-push}
use Rattle.boc_record.proofs.Runs.{nothing_left, no_numbers, too_many, read_more}
use Rattle.boc_record.proofs.fields.cowns_of.Goals as goal

pub returns-in_err-cown : goal.returns-in_err-cown
returns-in_err-cown c =
    let i = c.loop-rest.invariant in
    rw c.from_residual.ensures (no_numbers c.args.text.now c.loop-rest.cowns.items c.loop-rest.rest.now i.0 i.1 i.2 (grind (arith, nat_tests))
    c.in_err-cown.ensures)

pub returns-then-is_full : goal.returns-then-is_full
returns-then-is_full c =
    let i = c.loop-rest.invariant in
    too_many c.args.text.now c.loop-rest.cowns.items c.loop-rest.rest.now i.0 i.1 i.2 (grind (arith, nat_tests)) (search rules)

pub loop-rest-preserved : goal.loop-rest-preserved
loop-rest-preserved c =
    let i = c.loop-rest.invariant in
    let less : length c.loop-rest.cowns.items < 8 = grind (arith, nat_tests, i.3) in
    rw c.push.ensures.items (
      read_more c.args.text.now c.loop-rest.cowns.items c.loop-rest.rest.now c.in_ok-cown.after.now c.in_ok-cown.cown i.0 c.in_ok-cown.ensures,
      All-push (λ n. n < 2 ^ 32) c.loop-rest.cowns.items c.in_ok-cown.cown i.1 c.in_ok-cown.ensures.small,
      λ h. c.in_ok-cown.ensures.apart,
      omega (arith, less, length-append c.loop-rest.cowns.items (c.in_ok-cown.cown ∷ [])),
    )

pub returns : goal.returns
returns c =
    let i = c.loop-rest.invariant in
    let none : c.loop-rest.rest.now ≡ [] = nothing_left c.loop-rest.rest.now (grind (arith, nat_tests)) in
    (i.1, i.3, i.0 ∙ ap (λ r. fields c.loop-rest.cowns.items ++ r) none ∙ append-nil (fields c.loop-rest.cowns.items))
