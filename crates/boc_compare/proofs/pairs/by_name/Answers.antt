use Rattle.boc_names.specs.Names.{texts_of}
use Rattle.boc_compare.proofs.ByName.{all_known, known_more, nothing}
use Rattle.boc_compare.proofs.pairs.by_name.Goals as goal

pub loop-own-preserved : goal.loop-own-preserved
loop-own-preserved c = known_more (texts_of c.args.names.now) c.args.list.now c.loop-own.own-index nothing c.loop-own.named c.put_first.new.named
    c.text_at.result.now c.loop-own-test.true c.text_at.ensures c.loop-own.invariant c.in_ok-put_first.ensures

pub returns : goal.returns
returns c = all_known (texts_of c.args.names.now) c.args.list.now c.loop-own.own-index c.loop-own.named c.loop-own-test.false c.loop-own.invariant
