use Rattle.std.proofs.Common.{◌∙◌, arith}
use Rattle.boc_choices.proofs.Closed.{all_chosen}
use Rattle.boc_choices.proofs.choosing.all_free.Goals as goal

pub returns : goal.returns
returns c =
    all_chosen c.args.lists.now c.args.front.now c.deref.result.now c.len.result c.deref-2.result.now c.in_ok-places.places.items c.requires.low
    c.in_ok-places.ensures c.deref-2.ensures.value (c.deref.ensures.value ∙ c.in_ok-marks.ensures)
    (omega (arith, c.len.ensures, c.args.front.now.live.ok.0))
