use Rattle.std.proofs.lemmas.Option.{slice_get-get_or}
use Rattle.std.proofs.lemmas.Result.{on_ok_weaker, on_err_weaker}
use Rattle.std.proofs.Common.{get_or}
use Rattle.boc_follow.specs.Standings.{standing_in, started_in}
use Rattle.boc_follow.proofs.Changes.{map-set, map-set_same}
use Rattle.boc_follow.proofs.Nexts.{stands_at}
use Rattle.boc_follow.proofs.row.start_row.Goals as goal

pub start-requires : goal.start-requires
start-requires c =
    let rows = c.args.rows.now in
    let row = get_or rows c.args.row c.index-rows-row.result in
    c.requires.fits (standing_in row) (stands_at rows c.args.row row (slice_get-get_or rows c.args.row c.index-rows-row.result c.requires.there))

pub returns-clause-ok : goal.returns-clause-ok
returns-clause-ok c =
    let rows = c.args.rows.now in
    let row = get_or rows c.args.row c.index-rows-row.result in
    on_ok_weaker c.start.result
    (λ e. map-set standing_in (started_in c.args.program.now c.args.values.now) rows c.args.row row c.start.new.self
    (slice_get-get_or rows c.args.row c.index-rows-row.result c.requires.there) e)
    c.start.ensures.ok

pub returns-clause-err : goal.returns-clause-err
returns-clause-err c =
    let rows = c.args.rows.now in
    let row = get_or rows c.args.row c.index-rows-row.result in
    on_err_weaker c.start.result
    (λ e. map-set_same standing_in rows c.args.row row c.start.new.self (slice_get-get_or rows c.args.row c.index-rows-row.result c.requires.there) e)
    c.start.ensures.err
