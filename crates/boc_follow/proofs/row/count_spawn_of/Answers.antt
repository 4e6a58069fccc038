use Rattle.std.proofs.lemmas.Option.{slice_get-get_or}
use Rattle.std.proofs.Common.{get_or, arith, ◌<◌, length}
use Rattle.boc_follow.specs.Standings.{standing_in, with_one_more}
use Rattle.boc_follow.proofs.Changes.{map-set}
use Rattle.boc_follow.proofs.Nexts.{stands_at}
use Rattle.boc_follow.proofs.row.count_spawn_of.Goals as goal

pub count_spawn-requires : goal.count_spawn-requires
count_spawn-requires c =
    let rows = c.args.rows.now in
    let row = get_or rows c.args.parent c.index-rows-parent.result in
    let there : c.args.parent < length rows = omega arith in
    c.requires (standing_in row) (stands_at rows c.args.parent row (slice_get-get_or rows c.args.parent c.index-rows-parent.result there))

pub returns-then-parent-rows : goal.returns-then-parent-rows
returns-then-parent-rows c =
    let rows = c.args.rows.now in
    let row = get_or rows c.args.parent c.index-rows-parent.result in
    let there : c.args.parent < length rows = omega arith in
    map-set standing_in with_one_more rows c.args.parent row c.count_spawn.new.self (slice_get-get_or rows c.args.parent c.index-rows-parent.result there)
    c.count_spawn.ensures
