use Rattle.boc_names.specs.Names.{texts_of}
use Rattle.boc_compare.proofs.ByName.{paired_is}
use Rattle.boc_compare.proofs.pairs.paired.Goals as goal

pub returns : goal.returns
returns c = paired_is (texts_of c.args.before_names.now) (texts_of c.args.after_names.now) c.args.before.now c.args.after.now c.in_ok-named.named
    c.in_ok-named-2.named c.new-pairs.result.items c.put_before.new.pairs.items c.put_new.new.pairs.items c.in_ok-named.ensures c.in_ok-named-2.ensures
    c.new-pairs.ensures.items c.in_ok-put_before.ensures c.in_ok-put_new.ensures
