use Rattle.std.proofs.Common.{◌≡◌, ℕ, ◌<◌, ◌≤◌, false, cond, List, length}
use Rattle.std.specs.Prelude.{slice_index, slice_index_or}
use Rattle.boc_runs.specs.Rows.{cowns_of}
use Rattle.boc_sweep.specs.Freed.{in_lane}
use Rattle.boc_sweep.proofs.Freeing.{start_none, start_next, start_all}
use Rattle.boc_sweep.proofs.freed.Placing.start_of.Goals as goal

pub loop-place-init : goal.loop-place-init
loop-place-init c = λ lane low. start_none (slice_index c.args.self.now.cowns lane) c.args.rows.now (in_lane lane c.args.self.now.starts.items) c.args.row
    (slice_index c.spawn_of-start.result lane)

pub loop-place-preserved : goal.loop-place-preserved
loop-place-preserved c = λ lane low.
    let rows = c.args.rows.now in
    let placing = c.args.self.now in
    let n : ℕ = c.args.row in
    let i : ℕ = c.loop-place.place in
    let cowns : List ℕ = cowns_of rows n in
    let below : i < length cowns = rw (← c.cowns-own-items.ensures) c.loop-place-test.true in
    let own : ℕ = slice_index cowns i in
    let b = slice_index_or c.args.written.now i false in
    let held : List ℕ = in_lane lane placing.held.items in
    let wrote : List ℕ = in_lane lane placing.wrote.items in
    let p = c.requires.placed.in_lanes lane low in
    let latest_is : slice_index c.latest_on.result.now lane ≡ cond b (slice_index held own) (slice_index wrote own) =
    rw c.cowns-own-items.ensures at c.latest_on.ensures lane in
    start_next (slice_index placing.cowns lane) rows (in_lane lane placing.starts.items) n (slice_index c.spawn_of-start.result lane) i
    (slice_index c.loop-place.start lane) (c.loop-place.invariant lane low) c.requires.shape c.requires.there below
    (slice_index c.latest_on.result.now lane) (slice_index c.later-start.result lane) b held wrote (c.requires.written.at i below) latest_is p.held_is
    p.wrote_is (c.later-start.ensures lane low)

pub returns : goal.returns
returns c = λ lane low.
    let rows = c.args.rows.now in
    let all : length (cowns_of rows c.args.row) ≤ c.loop-place.place = rw (← c.cowns-own-items.ensures) c.loop-place-test.false in
    start_all (slice_index c.args.self.now.cowns lane) rows (in_lane lane c.args.self.now.starts.items) c.args.row (slice_index c.spawn_of-start.result lane)
    c.loop-place.place (slice_index c.loop-place.start lane) (c.loop-place.invariant lane low) c.requires.there all
    (λ main. c.spawn_of-start.ensures.main main lane low) (λ child. c.spawn_of-start.ensures.child child lane low)
