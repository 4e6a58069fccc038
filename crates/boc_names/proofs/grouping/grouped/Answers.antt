use Rattle.std.specs.Prelude.{Vec}
use Rattle.std.specs.Global.{Global}
use Rattle.std.proofs.Common.{ℕ, ◌∙◌, take, ap}
use Rattle.boc_names.specs.Names.{texts_of}
use Rattle.boc_names.proofs.Groups.{grouping_more, names_fit, texts_next}
use Rattle.boc_names.proofs.grouping.grouped.Goals as goal

pub number_of-requires-clause-few : goal.number_of-requires-clause-few
number_of-requires-clause-few c = names_fit c.args.texts.now c.loop-text.text-index c.loop-text.numbers.items c.loop-text.names.items
    c.loop-text.invariant.grouping c.loop-text-test.true c.requires

pub loop-text-preserved : goal.loop-text-preserved
loop-text-preserved c =
    let i = c.loop-text.text-index in
    let more = texts_next c.args.texts.now i c.text-item.result c.deref.result.now c.loop-text-test.true
    (c.deref.ensures.value ∙ ap (λ (t : Vec ℕ Global). t.items) c.text-item.is) in
    record {
      grouping = rw (c.in_ok-push.ensures.items, more)
          (grouping_more (texts_of (take i c.args.texts.now)) c.loop-text.numbers.items (texts_of c.loop-text.names.items)
          c.deref.result.now c.in_ok-number_of.field-0 (texts_of c.number_of.new.names.items) c.loop-text.invariant.grouping c.in_ok-number_of.ensures.takes);
      knows = c.in_ok-number_of.ensures.knows;
    }
