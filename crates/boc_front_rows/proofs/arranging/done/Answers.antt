use Rattle.std.proofs.Common.{length, refl}
use Rattle.std.proofs.lemmas.Option.{slice_get_read}
use Rattle.boc_front_rows.specs.Rows.{plain}
use Rattle.boc_front_rows.proofs.Mapped.{at_mapped}
use Rattle.boc_front_rows.proofs.arranging.done.Goals as goal

pub is_empty-requires : goal.is_empty-requires
is_empty-requires c =
    let live = c.args.live.now in
    let n = c.loop-row.row-index in
    c.requires n (plain c.row-item.result) (at_mapped plain live n c.row-item.result
    (slice_get_read live (length live) n c.row-item.result refl c.loop-row-test.true c.row-item.is))
