use Rattle.std.proofs.Common.{◌<◌, ◌∷◌, [], length, arith}
use Rattle.std.proofs.lemmas.Bool.Decides.{nat_tests}
use Rattle.std.proofs.lemmas.List.{length-append}
use Rattle.boc_record.proofs.InFront.{one_more_ahead}
use Rattle.boc_record.proofs.ahead.cowns_ahead.Goals as goal

pub loop-rest-preserved : goal.loop-rest-preserved
loop-rest-preserved c =
    let i = c.loop-rest.invariant in
    let less : length c.loop-rest.cowns.items < 8 = grind (arith, nat_tests, i.few) in
    rw c.push.ensures.items (record {
      fields = one_more_ahead c.args.text.now c.loop-rest.cowns.items c.loop-rest.rest.now c.in_ok-cown.after.now c.in_ok-cown.cown i.fields
          c.in_ok-cown.ensures;
      few = omega (arith, less, length-append c.loop-rest.cowns.items (c.in_ok-cown.cown ∷ []));
    })
