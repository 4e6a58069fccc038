use Rattle.std.proofs.Common.{◌≡◌, ◌∙◌, ℕ, ◌<◌, ◌≤◌, length, List, ap, sym, arith}
use Rattle.std.specs.Prelude.{slice_index, slice_index_or}
use Rattle.boc_program.specs.declared.limits.TheConstants.{MOST_TICKS}
use Rattle.boc_runs.specs.Rows.{parent_of, ticks_of}
use Rattle.boc_sweep.specs.Freed.{in_lane}
use Rattle.boc_sweep.proofs.Laning.{lane_at, lane_long}
use Rattle.boc_sweep.proofs.Freeing.{placed_low}
use Rattle.boc_sweep.proofs.freed.Placing.spawn_of.Goals as goal

-- what was read at a row's parent, in one of the lanes
at_parent : (lane : ℕ) (starts : List (List ℕ)) (parent row : ℕ) (ticks : List ℕ) → parent < length starts → ticks ≡ slice_index_or starts parent ticks
    → parent ≡ row → slice_index ticks lane ≡ slice_index (in_lane lane starts) row
at_parent lane starts parent row ticks there is same =
    ap (λ (l : List ℕ). slice_index l lane) is ∙ sym (lane_at lane starts parent ticks there) ∙ ap (slice_index (in_lane lane starts)) same

pub index-requires : goal.index-requires
index-requires c =
    let starts = c.args.self.now.starts in
    let whole = (c.requires.placed.in_lanes 0 (omega arith)).placed.whole in
    let before = c.requires.shape.parent_before c.args.row (omega (arith, c.if-row-eq0.false)) c.requires.there in
    omega (arith, before, c.parent.ensures, whole, lane_long 0 starts.items, starts.ok.0)

pub moved_on-requires : goal.moved_on-requires
moved_on-requires c = λ lane low.
    let rows = c.args.rows.now in
    let hr = c.requires.shape in
    let starts = c.args.self.now.starts in
    let p = (c.requires.placed.in_lanes lane low).placed in
    let child : 0 < c.args.row = omega (arith, c.if-row-eq0.false) in
    let before = hr.parent_before c.args.row child c.requires.there in
    let there : c.parent.result < length starts.items = omega (arith, before, c.parent.ensures, p.whole, lane_long lane starts.items) in
    let read = at_parent lane starts.items c.parent.result (parent_of rows c.args.row) c.index.result.now there c.index.ensures c.parent.ensures in
    let early = placed_low (slice_index c.args.self.now.cowns lane) rows hr (in_lane lane starts.items) c.args.row (omega (arith, c.requires.there)) p
    (parent_of rows c.args.row) before in
    let most : ticks_of rows (parent_of rows c.args.row) ≤ MOST_TICKS = hr.ticks_high (parent_of rows c.args.row) (omega (arith, before, c.requires.there)) in
    omega (arith, read, early, before, c.offset.ensures, hr.ticks_cover c.args.row child c.requires.there, most, c.requires.there, hr.not_many)

pub returns-else-row-eq0-clause-child : goal.returns-else-row-eq0-clause-child
returns-else-row-eq0-clause-child c = λ child lane low.
    let rows = c.args.rows.now in
    let starts = c.args.self.now.starts in
    let before = c.requires.shape.parent_before c.args.row child c.requires.there in
    let whole = (c.requires.placed.in_lanes lane low).placed.whole in
    let there : c.parent.result < length starts.items = omega (arith, before, c.parent.ensures, whole, lane_long lane starts.items) in
    let read = at_parent lane starts.items c.parent.result (parent_of rows c.args.row) c.index.result.now there c.index.ensures c.parent.ensures in
    omega (arith, c.moved_on.ensures lane low, read, c.offset.ensures)
