use Rattle.std.proofs.lemmas.Option.{slice_get-get_or}
use Rattle.std.proofs.Common.{◌∙◌, get_or, ap, sym}
use Rattle.std.specs.Option.{option_map_or}
use Rattle.boc_follow.specs.Standings.{Standing, standing_in, over_in, written_by}
use Rattle.boc_follow.proofs.Changes.{map-set}
use Rattle.boc_follow.proofs.Nexts.{stands_at}
use Rattle.boc_follow.proofs.row.end_row.Goals as goal

pub end-requires : goal.end-requires
end-requires c =
    let rows = c.args.rows.now in
    let row = get_or rows c.args.row c.index-rows-row.result in
    c.requires.fits (standing_in row) (stands_at rows c.args.row row (slice_get-get_or rows c.args.row c.index-rows-row.result c.requires.there))

pub returns-clause-rows : goal.returns-clause-rows
returns-clause-rows c =
    let rows = c.args.rows.now in
    let row = get_or rows c.args.row c.index-rows-row.result in
    map-set standing_in over_in rows c.args.row row c.end.new.self (slice_get-get_or rows c.args.row c.index-rows-row.result c.requires.there)
    c.end.ensures.over

pub returns-clause-values : goal.returns-clause-values
returns-clause-values c =
    let rows = c.args.rows.now in
    let row = get_or rows c.args.row c.index-rows-row.result in
    let at = stands_at rows c.args.row row (slice_get-get_or rows c.args.row c.index-rows-row.result c.requires.there) in
    c.end.ensures.values ∙ sym (ap (λ o. option_map_or (λ (s : Standing). written_by s c.args.values.now) o c.args.values.now) at)
