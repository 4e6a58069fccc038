use Rattle.std.proofs.Common.{◌≡◌, ◌∙◌, Bool, cond, ap}
use Rattle.std.specs.Prelude.{slice_index}
use Rattle.boc_runs.specs.Rows.{written_of}
use Rattle.boc_turns.proofs.Folding.{same_test}
use Rattle.boc_turns.specs.Course.{wrote_cown}
use Rattle.boc_turns.proofs.coming.coming_by.Goals as goal

pub returns : goal.returns
returns c =
    let e : c.writes-writes.result ≡ wrote_cown c.args.rows.now c.args.row c.args.own =
    same_test c.writes-writes.result c.args.own (written_of c.args.rows.now c.args.row) c.writes-writes.ensures in
    let f = λ (b : Bool). cond b (slice_index c.args.held.now c.args.own) (slice_index c.args.wrote.now c.args.own) in
    let g = c.came_of-came.ensures ∙ ap f e in
    λ i. record { cown = c.args.own; writes = e i; hold = c.args.hold; came = g i }
