use Rattle.boc_choices.proofs.Rows.{list_there}
use Rattle.boc_choices.proofs.least.mark_meeting.Goals as goal

pub meets-requires : goal.meets-requires
meets-requires c =
    list_there c.args.lists.now c.args.live.now c.loop-place.place c.index-live-place.result c.requires c.loop-place-test.true c.index-live-place.is
