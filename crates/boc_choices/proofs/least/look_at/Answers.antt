use Rattle.std.proofs.Common.{arith}
use Rattle.boc_choices.proofs.Rows.{list_there}
use Rattle.boc_choices.proofs.least.look_at.Goals as goal

pub first_cowns-requires : goal.first_cowns-requires
first_cowns-requires c =
    list_there c.args.lists.now c.args.live.now c.args.place c.index-live-place.result c.requires (omega (arith, c.if-place-live.false)) c.index-live-place.is
