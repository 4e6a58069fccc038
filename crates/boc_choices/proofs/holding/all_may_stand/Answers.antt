use Rattle.boc_choices.proofs.Rows.{list_there}
use Rattle.boc_choices.proofs.holding.all_may_stand.Goals as goal

pub may_stand-requires-clause-row : goal.may_stand-requires-clause-row
may_stand-requires-clause-row c =
    list_there c.args.lists.now c.args.live.now c.loop-place.place c.index-live-place.result c.requires c.loop-place-test.true c.index-live-place.is
