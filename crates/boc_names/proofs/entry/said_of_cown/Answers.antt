use Rattle.std.proofs.Common.{◌<◌, length, arith}
use Rattle.std.proofs.lemmas.Bool.Decides.{nat_tests}
use Rattle.boc_names.proofs.Words.{no_more}
use Rattle.boc_names.proofs.entry.said_of_cown.Goals as goal

pub returns-then-not-is_empty : goal.returns-then-not-is_empty
returns-then-not-is_empty c =
    let some : 0 < length c.in-Some.rest.now = grind (arith, nat_tests) in
    no_more c.args.text.now c.in-Some.cown c.in-Some.name.now c.in-Some.rest.now c.in-Some.ensures some
