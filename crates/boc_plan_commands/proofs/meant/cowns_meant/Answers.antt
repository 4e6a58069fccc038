use Rattle.std.proofs.Common.{◌≢◌, [], ap, arith, length}
use Rattle.std.proofs.lemmas.List.{length-append}
use Rattle.boc_plan_commands.specs.Asked.{cowns_of}
use Rattle.boc_plan_commands.proofs.MeantParts.{first_unmeant, known_next, meant_next, none_there, some_there}
use Rattle.boc_plan_commands.proofs.meant.cowns_meant.Goals as goal

pub returns-then-len-before : goal.returns-then-len-before
returns-then-len-before c =
    let one = c.index-asked-index.result in
    let put = ap length c.in_ok-put_cowns.ensures in
    first_unmeant (cowns_of c.args.names.now) c.args.asked.now c.loop-index.index one c.loop-index-test.true c.index-asked-index.is
    c.loop-index.invariant.known
    (none_there (cowns_of c.args.names.now one) c.len-before.result c.len.result
    (omega (arith, put, c.len.ensures, c.len-before.ensures, length-append c.loop-index.cowns.items (cowns_of c.args.names.now one))) c.if-len-before.true)

pub loop-index-preserved : goal.loop-index-preserved
loop-index-preserved c =
    let one = c.index-asked-index.result in
    let put = ap length c.in_ok-put_cowns.ensures in
    record {
      cowns_are = meant_next (cowns_of c.args.names.now) c.args.asked.now c.loop-index.index one c.loop-index.cowns.items c.put_cowns.new.cowns.items
          c.loop-index-test.true c.index-asked-index.is c.loop-index.invariant.cowns_are c.in_ok-put_cowns.ensures;
      known = known_next (λ a. cowns_of c.args.names.now a ≢ []) c.args.asked.now c.loop-index.index one c.loop-index-test.true c.index-asked-index.is
          c.loop-index.invariant.known
          (some_there (cowns_of c.args.names.now one) c.len-before.result c.len.result
          (omega (arith, put, c.len.ensures, c.len-before.ensures, length-append c.loop-index.cowns.items (cowns_of c.args.names.now one)))
          c.if-len-before.false);
    }
