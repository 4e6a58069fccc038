use Rattle.std.proofs.Common.{◌≡◌, ◌<◌, Some, rules, refl, length, subst}
use Rattle.std.specs.Prelude.{slice_get}
use Rattle.std.proofs.lemmas.Option.{slice_get_read}
use Rattle.boc_runs.specs.Run.{config_of}
use Rattle.boc_eval.specs.Instances.{behaviour_in}
use Rattle.boc_follow.specs.Following.{Following}
use Rattle.boc_follow.specs.Takes.{IsOfRow}
use Rattle.boc_follow.proofs.RowKinds.{kept_row}
use Rattle.boc_follow.proofs.follower.Follower.instance.Goals as goal

pub returns : goal.returns
returns c =
    let row = c.in_ok-row.row.now in
    let rows = c.deref.result.now in
    let there : c.args.row < length rows = search rules in
    let read : slice_get rows c.args.row ≡ Some row = slice_get_read rows (length rows) c.args.row row refl there c.in_ok-row.ensures.lookup.1 in
    let own = kept_row c.self.invariant rows c.args.row row c.deref.ensures.value read in
    subst (λ (f : Following). IsOfRow (config_of f.program f.log).members c.args.row (behaviour_in row.instance)) c.self.view_is own
