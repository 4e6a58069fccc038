use Rattle.std.proofs.Common.{◌≡◌, ◌<◌, List, Some, rules, refl, length, map, subst}
use Rattle.std.specs.Prelude.{slice_get, option_map}
use Rattle.std.proofs.lemmas.Option.{slice_get_read}
use Rattle.boc_runs.specs.Run.{config_of}
use Rattle.boc_follow.specs.Following.{Following}
use Rattle.boc_follow.specs.Standings.{Standing, standing_in, standing_of, underway_at, underway_in}
use Rattle.boc_follow.specs.Takes.{IsEndOf}
use Rattle.boc_follow.proofs.Nexts.{stands_at}
use Rattle.boc_follow.proofs.follower.Follower.end_of.Goals as goal

pub returns : goal.returns
returns c =
    let o = c.self.inside in
    let row = c.in_ok-get.field-0.now in
    let rows = c.deref.result.now in
    let there : c.args.row < length rows = search rules in
    let read : slice_get rows c.args.row ≡ Some row = slice_get_read rows (length rows) c.args.row row refl there c.in_ok-get.ensures.lookup.1 in
    let at = stands_at rows c.args.row row read in
    let runs : option_map underway_at row.effect ≡ Some (underway_in c.deref-2.result.now) = rw (← c.in_ok-effect.ensures.value, c.deref-2.ensures) refl in
    let own : IsEndOf (map standing_in o.rows.items) c.args.row c.end.result =
    record { standing = standing_in row; is = rw c.deref.ensures.value at at; underway = underway_in c.deref-2.result.now; runs = runs; ends = c.end.ensures } in
    subst (λ (f : Following). IsEndOf (map (standing_of f.program) (config_of f.program f.log).members) c.args.row c.end.result) c.self.view_is
    (subst (λ (s : List Standing). IsEndOf s c.args.row c.end.result) c.self.invariant.rows_are own)
